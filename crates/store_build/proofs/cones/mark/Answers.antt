use Rattle.std.proofs.Common.{◌≡◌, [], ◌∷◌, false, rules, set, sym, subst, true}
use Rattle.store_turns.specs.Cones.{has}
use Rattle.store_build.specs.Marking.{Marks}
use Rattle.store_build.proofs.MarkSteps.{entered}
use Rattle.store_build.proofs.cones.mark.Goals as goal

pub returns : goal.returns
returns c =
    let marks = c.args.members.now.items in
    let stack = c.args.stack.now.items in
    let id = c.args.id.0 in
    let new : has marks id ≡ false = search rules in
    subst (λ s. Marks (id ∷ []) marks stack (set marks id true) s) (sym c.in_ok-push.ensures.items) (entered id marks stack new)
