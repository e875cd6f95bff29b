use Rattle.std.proofs.Common.{pos, rules, ◌+◌, sym, subst, get_or, w64, FitsSigned}
use Rattle.std.proofs.lemmas.Int.{to_z-of_z}
use Rattle.posted_users.proofs.ChangeLaws.{LeadTo, changes_after, changes_step}
use Rattle.posted_users.proofs.changes.changes_between.Goals as goal

pub loop-place-preserved : goal.loop-place-preserved
loop-place-preserved c =
    let was : FitsSigned w64 (get_or c.args.held.now c.loop-place.place (pos 0)) = search rules in
    let is : FitsSigned w64 (get_or c.args.list.now c.loop-place.place (pos 0)) = search rules in
    let pushed = rw (to_z-of_z w64 (get_or c.args.held.now c.loop-place.place (pos 0)) was, to_z-of_z w64 (get_or c.args.list.now c.loop-place.place (pos 0)) is) at c.in_ok-push_change.ensures in
    subst (λ cs. LeadTo c.args.held.now c.args.list.now (c.loop-place.place + 1) cs) (sym pushed)
    (changes_step c.args.held.now c.args.list.now c.loop-place.place c.loop-place.changes.items (pos 0) (search rules) c.requires c.loop-place.invariant)

pub returns-clause-changes : goal.returns-clause-changes
returns-clause-changes c = c.loop-place.invariant.are

pub returns-clause-after : goal.returns-clause-after
returns-clause-after c = changes_after c.args.held.now c.args.list.now c.loop-place.changes.items c.requires (subst (λ n. LeadTo c.args.held.now c.args.list.now n c.loop-place.changes.items) (search rules) c.loop-place.invariant)
