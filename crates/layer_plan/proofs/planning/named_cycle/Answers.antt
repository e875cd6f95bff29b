use Rattle.std.proofs.Common.{subst, sym}
use Rattle.layer_plan.specs.Dependencies.{AreItems}
use Rattle.layer_plan.proofs.UserLists.{users_items}
use Rattle.layer_plan.proofs.planning.named_cycle.Goals as goal

pub near-requires-clause-items : goal.near-requires-clause-items
near-requires-clause-items c = subst (λ ys. AreItems ys) (sym c.deref.ensures.value) (users_items c.args.deps.now c.in_ok-uses.uses.items c.in_ok-uses.ensures)
