use Rattle.std.proofs.Common.{rules, ◌≡◌, ◌+◌, ◌++◌, [], ◌∷◌, length, subst, sym}
use Rattle.std.specs.Prelude.{IfSome}
use Rattle.node_states.specs.Step.{IsStep}
use Rattle.node_states.proofs.Steps.{Comes, comes_more, comes_on}
use Rattle.node_states.proofs.changes.changes_between.Goals as goal
use Rattle.node_states.proofs.changes.changes_between.Goals.{then-is_changed+in_ok-change+in-Some+in_ok-push, else-is_changed}

pub loop-place-preserved : goal.loop-place-preserved
loop-place-preserved c =
    let i = c.loop-place.place in
    let from = c.args.from.now in
    let to = c.args.to.now in
    let old = c.index-from-place in
    let new = c.index-to-place in
    let long : length to ≡ length from = search rules in
    elim c.if-is_changed.branch [
      | then-is_changed+in_ok-change+in-Some+in_ok-push w ↦
          let step : IsStep i old.result new.result w.in-Some.change = subst (λ o. IfSome o (IsStep i old.result new.result)) w.in-Some.is w.in_ok-change.ensures in
          let pushed : w.push.new.self.items ≡ c.loop-place.changes.items ++ w.in-Some.change ∷ [] = search rules in
          subst (λ v. Comes from to (i + 1) v.items) (sym w.changes-is)
          (comes_more from to i c.loop-place.changes.items w.push.new.self.items w.in-Some.change old.result new.result c.loop-place-test.true long old.is new.is step pushed c.loop-place.invariant)
      | else-is_changed w ↦
          subst (λ v. Comes from to (i + 1) v.items) (sym w.changes-is)
          (comes_on from to i c.loop-place.changes.items old.result new.result c.loop-place-test.true long old.is new.is (c.is_changed.ensures w.if-is_changed.false) c.loop-place.invariant)
    ]
