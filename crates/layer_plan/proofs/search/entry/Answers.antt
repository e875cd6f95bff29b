use Rattle.std.proofs.Common.{ℕ, ◌<◌, subst, sym, length, get_or, List}
use Rattle.layer_plan.specs.Dependencies.{DependsOn}
use Rattle.layer_plan.proofs.Lists.{depends_at}
use Rattle.layer_plan.proofs.search.entry.Goals as goal

pub returns-clause-depends : goal.returns-clause-depends
returns-clause-depends c = subst (λ (ys : List ℕ). DependsOn c.args.deps.now c.args.item (get_or ys c.args.place 0)) (sym c.list_of.ensures) (depends_at c.args.deps.now c.args.item c.args.place c.requires.place)

pub returns-clause-within : goal.returns-clause-within
returns-clause-within c = subst (λ (ys : List ℕ). get_or ys c.args.place 0 < length c.args.deps.now) (sym c.list_of.ensures) (c.requires.items _ _ (depends_at c.args.deps.now c.args.item c.args.place c.requires.place))
