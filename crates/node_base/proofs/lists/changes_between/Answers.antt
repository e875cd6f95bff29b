use Rattle.std.proofs.Common.{◌≡◌, ◌++◌, ◌∷◌, ◌+◌, ◌∙◌, ap, sym, drop, [], w64, rules, get_or, int_eq, true, false}
use Rattle.std.specs.Prelude.{pos, FitsSigned}
use Rattle.std.proofs.lemmas.Int.{to_z-of_z}
use Rattle.cbl_base.specs.declared.input.Change.TheVariants.{Int as IntChange}
use Rattle.node_base.proofs.ListChanges.{changes_from, are_changes_from, after_changes_from, all_done, pushed_on, step_same, step_differs}
use Rattle.node_base.proofs.lists.changes_between.Goals as goal
use Rattle.node_base.proofs.lists.changes_between.Goals.{then-not-are_equal+in_ok-push, else-not-are_equal}

pub loop-place-preserved : goal.loop-place-preserved
loop-place-preserved c =
    let i = c.loop-place.place in
    let old : FitsSigned w64 (get_or c.args.from.now i (pos 0)) = search rules in
    let new : FitsSigned w64 (get_or c.args.to.now i (pos 0)) = search rules in
    let test : c.are_equal.result ≡ int_eq (get_or c.args.to.now i (pos 0)) (get_or c.args.from.now i (pos 0)) = simp (to_z-of_z w64 (get_or c.args.from.now i (pos 0)) old, to_z-of_z w64 (get_or c.args.to.now i (pos 0)) new) at c.are_equal.ensures in
    elim c.if-not-are_equal.branch [
      | then-not-are_equal+in_ok-push w ↦
          let differs : int_eq (get_or c.args.to.now i (pos 0)) (get_or c.args.from.now i (pos 0)) ≡ false = sym test ∙ w.if-not-are_equal.true in
          let pushed : w.push.new.self.items ≡ c.loop-place.changes.items ++ IntChange i (get_or c.args.from.now i (pos 0)) (get_or c.args.to.now i (pos 0)) ∷ []
          = simp (to_z-of_z w64 (get_or c.args.from.now i (pos 0)) old, to_z-of_z w64 (get_or c.args.to.now i (pos 0)) new) at w.in_ok-push.ensures.items in
          ap (λ v. v.items ++ changes_from (i + 1) (drop (i + 1) c.args.from.now) (drop (i + 1) c.args.to.now)) w.changes-is
          ∙ pushed_on c.loop-place.changes.items w.push.new.self.items _ (changes_from (i + 1) (drop (i + 1) c.args.from.now) (drop (i + 1) c.args.to.now)) pushed
          ∙ ap (λ t. c.loop-place.changes.items ++ t) (sym (step_differs c.args.from.now c.args.to.now i (pos 0) c.loop-place-test.true c.requires.lengths differs)) ∙ c.loop-place.invariant
      | else-not-are_equal w ↦
          let same : int_eq (get_or c.args.to.now i (pos 0)) (get_or c.args.from.now i (pos 0)) ≡ true = sym test ∙ w.if-not-are_equal.false in
          ap (λ v. v.items ++ changes_from (i + 1) (drop (i + 1) c.args.from.now) (drop (i + 1) c.args.to.now)) w.changes-is
          ∙ ap (λ t. c.loop-place.changes.items ++ t) (sym (step_same c.args.from.now c.args.to.now i (pos 0) c.loop-place-test.true c.requires.lengths same)) ∙ c.loop-place.invariant
    ]

pub returns-clause-changes : goal.returns-clause-changes
returns-clause-changes c =
    rw (all_done c.loop-place.changes.items c.loop-place.place c.args.from.now c.args.to.now c.loop-place-test.false c.loop-place.invariant) (are_changes_from [] c.args.from.now c.args.to.now)

pub returns-clause-after : goal.returns-clause-after
returns-clause-after c =
    rw (all_done c.loop-place.changes.items c.loop-place.place c.args.from.now c.args.to.now c.loop-place-test.false c.loop-place.invariant) (after_changes_from [] c.args.from.now c.args.to.now c.requires.lengths)
