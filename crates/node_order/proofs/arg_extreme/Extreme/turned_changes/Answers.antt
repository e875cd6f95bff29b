use Rattle.std.proofs.Common.{◌≡◌, ◌++◌, [], ◌∷◌, ◌∙◌, ap, sym, map, take, rules, w64}
use Rattle.std.specs.Prelude.{FitsSigned}
use Rattle.std.proofs.lemmas.Int.{to_z-of_z}
use Rattle.node_base.specs.NumberChanges.{number_change_of, number_changes_of}
use Rattle.node_base.specs.declared.number_change.NumberChange.{NumberChange}
use Rattle.node_order.specs.Extremes.{turned_change}
use Rattle.node_order.proofs.ExtremeLemmas.{turned_more, turned_skip}
use Rattle.node_order.proofs.arg_extreme.Extreme.turned_changes.Goals as goal
use Rattle.node_order.proofs.arg_extreme.Extreme.turned_changes.Goals.{in-Int+in_ok-push-in-Int, in-Set}

pub loop-change-preserved : goal.loop-change-preserved
loop-change-preserved c =
    let cs = c.args.changes.now in
    let i = c.loop-change.change-index in
    elim c.match-change.branch [
      | in-Int+in_ok-push-in-Int w ↦
          let n : NumberChange = record { place = w.in-Int.place; old = w.in-Int.old; new = w.in-Int.new } in
          let fits_old : FitsSigned w64 w.in-Int.old = search rules in
          let fits_new : FitsSigned w64 w.in-Int.new = search rules in
          let pushed : w.push.new.self.items ≡ c.loop-change.made.items ++ w.turned_change.result ∷ [] = search rules in
          let made : w.turned_change.result ≡ turned_change c.args.self n = simp (to_z-of_z w64 w.in-Int.old fits_old, to_z-of_z w64 w.in-Int.new fits_new) at w.turned_change.ensures in
          ap (λ v. v.items) w.made-is ∙ pushed ∙ ap (λ t. t ++ w.turned_change.result ∷ []) c.loop-change.invariant ∙ ap (λ d. map (turned_change c.args.self) (number_changes_of (take i cs)) ++ d ∷ []) made
          ∙ sym (turned_more c.args.self cs i c.change-item.result n c.loop-change-test.true (ap number_change_of (sym c.change-item.is ∙ w.in-Int.is)))
      | in-Set w ↦
          ap (λ v. v.items) w.made-is ∙ c.loop-change.invariant
          ∙ sym (ap (map (turned_change c.args.self)) (turned_skip cs i c.change-item.result c.loop-change-test.true (ap number_change_of (sym c.change-item.is ∙ w.in-Set.is))))
    ]
