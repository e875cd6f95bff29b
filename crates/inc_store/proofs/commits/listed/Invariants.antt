use Rattle.std.proofs.Common.{◌≡◌, map}
use Rattle.inc_store.proofs.commits.listed.Given as goal

abbrev pub invariant-loop-change : goal.invariant-loop-change
invariant-loop-change l = record {
  list : l.list.items ≡ map (λ e. e.1) l.yielded;
}
