use Rattle.std.proofs.Common.{ℕ, ◌<◌, subst, sym, length, get_or, List}
use Rattle.layer_plan.proofs.Lists.{depends_at}
use Rattle.store_shares.proofs.users.entry.Goals as goal

pub returns-clause-within : goal.returns-clause-within
returns-clause-within c = subst (λ (ys : List ℕ). get_or ys c.args.place 0 < length c.args.named.now) (sym c.list_of.ensures) (c.requires.items _ _ (depends_at c.args.named.now c.args.variable c.args.place c.requires.place))
