use Rattle.std.proofs.Common.{◌≡◌, ◌≢◌, ◌∙◌, ◌+◌, ap, get_or, take, subst, sym, rules, w64, to_z, of_z}
use Rattle.std.specs.Prelude.{FitsSigned}
use Rattle.std.proofs.lemmas.Int.{to_z-of_z}
use Rattle.std.proofs.lemmas.List.{take_all}
use Rattle.node_base.specs.NumberChanges.{after_number_changes}
use Rattle.node_base.proofs.ChangeLemmas.{no_change}
use Rattle.node_order.specs.PlaceIndex.{ArePlacesOf}
use Rattle.node_order.proofs.IndexLemmas.{places_with, places_without}
use Rattle.node_order.proofs.place_index.move_places.Goals as goal
use Rattle.node_order.proofs.place_index.move_places.Goals.{then-change-number+in_ok-insert, else-change-number}

pub loop-change-preserved : goal.loop-change-preserved
loop-change-preserved c =
    let cs = c.args.changes.now in
    let i = c.loop-change.change-index in
    let number = c.args.number in
    let new = (get_or cs i no_change).new in
    let fits : FitsSigned w64 new = search rules in
    let same = to_z-of_z w64 number c.ranges.number in
    let before = simp same at c.loop-change.invariant in
    rw same
    (λ xs are changes. elim c.if-change-number.branch [
      | then-change-number+in_ok-insert w ↦
          let is : new ≡ number = sym (to_z-of_z w64 new fits) ∙ ap (to_z w64) w.if-change-number.true ∙ same in
          subst (λ t. ArePlacesOf number (after_number_changes xs (take (i + 1) cs)) t) (sym w.places-is) (places_with c.loop-change.places w.insert.new.self xs cs i no_change number changes c.loop-change-test.true w.in_ok-insert.ensures.updates is (before xs are changes))
      | else-change-number w ↦
          let other : new ≢ number = λ e. w.if-change-number.false (ap (of_z w64) e) in
          subst (λ t. ArePlacesOf number (after_number_changes xs (take (i + 1) cs)) t) (sym w.places-is) (places_without c.loop-change.places w.remove.new.self xs cs i no_change number changes c.loop-change-test.true w.remove.ensures.updates other (before xs are changes))
    ])

pub returns : goal.returns
returns c xs are changes =
    subst (λ t. ArePlacesOf c.args.number (after_number_changes xs t) c.loop-change.places) (take_all _ _ c.loop-change-test.false)
    ((simp (to_z-of_z w64 c.args.number c.ranges.number) at c.loop-change.invariant) xs are changes)
