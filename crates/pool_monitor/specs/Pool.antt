-- The step of a pool: its solutions after a request, and the reply. A new solution is put behind the last one
-- whose value isn't greater, and then the last is dropped where there are too many. A rule of this project.
use Rattle.std.specs.Prelude.{ℕ, ◌-◌, ℤ, pos, Bool, not, ◌||◌, if◌then◌else◌, nat_lt, nat_abs, int_lt, int_le, Option, None, Some, List, [], ◌∷◌, length, take, insert, slice_get, suc}
use Rattle.best_monitor.specs.declared.request.Reply.{Reply}
use Rattle.best_monitor.specs.declared.request.Reply.TheVariants as reply
use Rattle.pool_monitor.specs.declared.pool.Solution.{Solution}
use Rattle.pool_monitor.specs.declared.request.PoolRequest.{PoolRequest}
use Rattle.pool_monitor.specs.declared.request.PoolRequest.TheVariants.{Add, Size, Rank, Take}

-- how many solutions a pool keeps at most, and those that it keeps
pub record PoolState : Type 0 where
  pub most : ℕ
  pub solutions : List Solution

-- a pool to which nothing was added
abbrev pub empty_pool : ℕ → PoolState
empty_pool most = record { most = most; solutions = [] }

-- the pool that a request names
abbrev pub pool_of : PoolRequest → ℕ
pool_of (Add p value list) = p
pool_of (Size p) = p
pool_of (Rank p rank) = p
pool_of (Take p rank room) = p

-- how many solutions there are through the last one whose value isn't greater than this
abbrev pub place_for : ℤ → List Solution → ℕ
place_for value [] = 0
place_for value (s ∷ ss) = if nat_lt 0 (place_for value ss) || not (int_lt value s.value) then suc (place_for value ss) else 0

-- the solutions with a new one, which stands behind the last one whose value isn't greater
abbrev pub with_solution : Solution → List Solution → List Solution
with_solution new solutions = insert solutions (place_for new.value solutions) new

-- the solutions without the last one, where there are more than `most`
abbrev pub without_excess : ℕ → List Solution → List Solution
without_excess most solutions = if nat_lt most (length solutions) then take (length solutions - 1) solutions else solutions

-- the solutions of a pool after a new one was added
abbrev pub added : PoolState → Solution → List Solution
added pool new = without_excess pool.most (with_solution new pool.solutions)

-- whether a new solution is still there: its place is one of those that are left
abbrev pub is_kept : PoolState → Solution → Bool
is_kept pool new = nat_lt (place_for new.value pool.solutions) (length (added pool new))

-- a pool after a new solution was added, and its reply
abbrev pub add_step : PoolState → Solution → PoolState × Reply
add_step pool new = (record { most = pool.most; solutions = added pool new }, reply.Truth (is_kept pool new))

-- the solution of a rank, which is counted from 1
abbrev pub ranked : ℤ → List Solution → Option Solution
ranked rank solutions = if int_le (pos 1) rank then slice_get solutions (nat_abs rank - 1) else None

-- its value
abbrev pub value_reply : Option Solution → Reply
value_reply None = reply.Missing
value_reply (Some s) = reply.Number s.value

-- its list, if there is room for it
abbrev pub list_reply : ℕ → Option Solution → Reply
list_reply room None = reply.Missing
list_reply room (Some s) = if nat_lt room (length s.list) then reply.Long (length s.list) else reply.List s.list

-- a pool after a request, and its reply
abbrev pub pool_step : PoolState → PoolRequest → PoolState × Reply
pool_step pool (Add p value list) = add_step pool (record { value = value; list = list })
pool_step pool (Size p) = (pool, reply.Number (pos (length pool.solutions)))
pool_step pool (Rank p rank) = (pool, value_reply (ranked rank pool.solutions))
pool_step pool (Take p rank room) = (pool, list_reply room (ranked rank pool.solutions))
