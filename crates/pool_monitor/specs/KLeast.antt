-- The least solutions: what a pool keeps after a history, whatever order the solutions came in. A rule of this
-- project.
use Rattle.std.specs.Prelude.{◌≡◌, ◌==◌, ℕ, cond, List, [], ◌∷◌, ◌++◌, take, IsPermutation, IsSortedByKey}
use Rattle.std.specs.List.Sorted.{IsStableByKey}
use Rattle.std.specs.Ordering.{int_cmp}
use Rattle.best_turn.specs.declared.replays.Entry.{Entry}
use Rattle.best_monitor.specs.declared.request.Reply.{Reply}
use Rattle.pool_monitor.specs.declared.pool.Solution.{Solution}
use Rattle.pool_monitor.specs.declared.request.PoolRequest.TheVariants.{Add}
use Rattle.pool_monitor.specs.declared.request.DeskRequest.{DeskRequest}
use Rattle.pool_monitor.specs.declared.request.DeskRequest.TheVariants.{Pool}
use Rattle.pool_monitor.specs.Pool.{PoolState}

-- what a request adds to a pool, if it does
abbrev pub added_by : ℕ → DeskRequest → List Solution
added_by p (Pool (Add o value list)) = cond (o == p) (record { value = value; list = list } ∷ []) []
added_by p _ = []

-- what a history adds to a pool, in order
abbrev pub all_added : ℕ → List (Entry DeskRequest Reply) → List Solution
all_added p [] = []
all_added p (e ∷ es) = added_by p e.request ++ all_added p es

-- These are the same solutions, sorted stably by value: none has a lesser value than the one before it, and
-- those of equal values stand in the order that they had.
pub record IsSortedStably (all sorted : List Solution) : Type 0 where
  pub same : IsPermutation all sorted
  pub ascending : IsSortedByKey (λ (s : Solution). s.value) int_cmp sorted
  pub stable : IsStableByKey (λ (s : Solution). s.value) int_cmp all sorted

-- the pool keeps at most `most`, and has the first `most` of all these, sorted stably by value
pub record HasLeast (most : ℕ) (all : List Solution) (pool : PoolState) : Type 0 where
  pub most_is : pool.most ≡ most
  pub sorted : List Solution
  pub stably : IsSortedStably all sorted
  pub first : pool.solutions ≡ take most sorted
