-- What the search back from a root keeps. Its queue holds the items that were reached, the nearest
-- first, and begins with the root; `head` is how many of them were left behind.
use Rattle.std.specs.Prelude.{Vec, ℕ, ◌+◌, ◌<◌, ◌≤◌, ◌≡◌, List, length, slice_index, cond, nat_lt, sum_by}
use Rattle.std.specs.declared.alloc.Global.{Global}
use Rattle.layer_plan.specs.Dependencies.{DependsOn}
use Rattle.layer_plan.specs.declared.rounds.Rounds.{Rounds}

-- 1 for an item that wasn't reached
abbrev pub is_far : ℕ → ℕ → ℕ
is_far count near = cond (nat_lt near count) 0 1

-- the user was reached, by one step more than the item at most
abbrev pub IsReachedFrom : (ℕ → ℕ) → ℕ → ℕ → ℕ → Type 0
IsReachedFrom near count item user = (near user < count) × (near user ≤ near item + 1)

pub record IsSpread (uses : List (Vec ℕ Global)) (near : ℕ → ℕ) (queue : List ℕ) (head : ℕ) : Type 0 where
  pub begun : 0 < length queue
  pub size : length queue ≤ length uses
  pub items : (i : ℕ) → i < length queue → slice_index queue i < length uses
  pub at_root : near (slice_index queue 0) ≡ 0
  pub only_root : (v : ℕ) → v < length uses → near v ≡ 0 → v ≡ slice_index queue 0
  pub bound : (i : ℕ) → i < length queue → near (slice_index queue i) ≤ i
  pub all : (v : ℕ) → v < length uses → near v < length uses → (i : ℕ) × (i < length queue) × (slice_index queue i ≡ v)
  pub scanned : (i v : ℕ) → i < head → i < length queue → DependsOn uses (slice_index queue i) v → IsReachedFrom near (length uses) (slice_index queue i) v
  pub rising : (i j : ℕ) → i ≤ j → j < length queue → near (slice_index queue i) ≤ near (slice_index queue j)
  pub flat : (j : ℕ) → j < length queue → head < length queue → near (slice_index queue j) ≤ near (slice_index queue head) + 1
  pub reached : (v : ℕ) → v < length uses → 0 < near v → near v < length uses → (w : ℕ) × DependsOn uses w v × (near w + 1 ≡ near v)

abbrev pub near_of : Rounds → ℕ → ℕ
near_of s v = slice_index s.near.items v

pub record AreRounds (uses : List (Vec ℕ Global)) (s : Rounds) (head : ℕ) : Type 0 where
  pub count : length s.near.items ≡ length uses
  pub room : length s.queue.items + sum_by (is_far (length uses)) s.near.items ≤ length uses
  pub spread : IsSpread uses (near_of s) s.queue.items head

-- what was reached stays as near, and in its place
pub record KeepsReached (uses : List (Vec ℕ Global)) (a b : Rounds) : Type 0 where
  pub longer : length a.queue.items ≤ length b.queue.items
  pub places : (i : ℕ) → i < length a.queue.items → slice_index b.queue.items i ≡ slice_index a.queue.items i
  pub near : (v : ℕ) → near_of a v < length uses → near_of b v ≡ near_of a v
