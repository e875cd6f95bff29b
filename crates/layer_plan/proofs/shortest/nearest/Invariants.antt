use Rattle.std.proofs.Common.{ℕ, ◌<◌, length, get_or}
use Rattle.layer_plan.specs.Dependencies.{list_of, DependsOn}
use Rattle.layer_plan.specs.Nearness.{ComesFirst}
use Rattle.layer_plan.proofs.shortest.nearest.Given as goal

abbrev pub invariant-loop-place : goal.invariant-loop-place
invariant-loop-place l = DependsOn l.deps l.item l.best × (l.best < length l.deps) × ((k : ℕ) → k < l.place → ComesFirst (λ v. get_or l.near v 0) l.best (get_or (list_of l.deps l.item) k 0))
