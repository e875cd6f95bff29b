-- What the depth-first search over the items keeps. `rest` says of each item how many entries of its
-- list, from the front, are still to be looked at; the others are placed, and below the item.
use Rattle.std.specs.Prelude.{Vec, ℕ, ◌+◌, ◌<◌, ◌≤◌, ◌≡◌, ◌⊎◌, List, length, slice_index, slice_index_or, sum, sum_by}
use Rattle.std.specs.declared.alloc.Global.{Global}
use Rattle.layer_plan.specs.Dependencies.{list_of, DependsOn}
use Rattle.layer_plan.specs.Nearness.{HasCycle}
use Rattle.layer_plan.specs.declared.search.Stage.{Stage}
use Rattle.layer_plan.specs.declared.search.Stage.TheVariants.{Untouched, Open, Placed}
use Rattle.layer_plan.specs.declared.search.Search.{Search}
use Rattle.layer_plan.specs.declared.search.SearchStop.{SearchStop}
use Rattle.layer_plan.specs.declared.search.SearchStop.TheVariants.{Cycle, NoMemory}

abbrev pub stage_of : Search → ℕ → Stage
stage_of s v = slice_index_or s.stages.items v Untouched

abbrev pub layer_of : Search → ℕ → ℕ
layer_of s v = slice_index s.layers.items v

abbrev pub rest_of : Search → ℕ → ℕ
rest_of s v = slice_index s.rest.items v

-- how often a stage still changes
abbrev pub weight : Stage → ℕ
weight Untouched = 2
weight Open = 1
weight Placed = 0

-- 1 for an item that isn't placed
abbrev pub is_left : Stage → ℕ
is_left Untouched = 1
is_left Open = 1
is_left Placed = 0

abbrev pub unplaced : Search → ℕ
unplaced s = sum_by is_left s.stages.items

-- how much is left to do
abbrev pub work : Search → ℕ
work s = sum_by weight s.stages.items + sum s.rest.items

-- the layer is 0, or one more than that of a placed item which the item depends on
abbrev pub IsReached : List (Vec ℕ Global) → (ℕ → Stage) → (ℕ → ℕ) → ℕ → Type 0
IsReached deps stage layer v = (layer v ≡ 0) ⊎ ((w : ℕ) × DependsOn deps v w × (stage w ≡ Placed) × (layer v ≡ layer w + 1))

pub record Kept (deps : List (Vec ℕ Global)) (stage : ℕ → Stage) (layer rest : ℕ → ℕ) (left : ℕ) : Type 0 where
  pub within : (v : ℕ) → v < length deps → rest v ≤ length (list_of deps v)
  pub placed : (v k : ℕ) → v < length deps → rest v ≤ k → k < length (list_of deps v) → stage (slice_index (list_of deps v) k) ≡ Placed
  pub below : (v k : ℕ) → v < length deps → rest v ≤ k → k < length (list_of deps v) → layer (slice_index (list_of deps v) k) < layer v
  pub reached : (v : ℕ) → v < length deps → IsReached deps stage layer v
  pub done : (v : ℕ) → v < length deps → stage v ≡ Placed → rest v ≡ 0
  pub room : (v : ℕ) → v < length deps → layer v + left ≤ length deps
  pub room_placed : (v : ℕ) → v < length deps → stage v ≡ Placed → layer v + left < length deps

-- the open items are those of the stack, each depends on the next
pub record IsTrail (deps : List (Vec ℕ Global)) (stage : ℕ → Stage) (stack : List ℕ) : Type 0 where
  pub items : (i : ℕ) → i < length stack → slice_index stack i < length deps
  pub open_each : (i : ℕ) → i < length stack → stage (slice_index stack i) ≡ Open
  pub distinct : (i j : ℕ) → i < j → j < length stack → ¬ (slice_index stack i ≡ slice_index stack j)
  pub all : (v : ℕ) → v < length deps → stage v ≡ Open → (i : ℕ) × (i < length stack) × (slice_index stack i ≡ v)
  pub chain : (i : ℕ) → i + 1 < length stack → DependsOn deps (slice_index stack i) (slice_index stack (i + 1))

pub record IsSound (deps : List (Vec ℕ Global)) (s : Search) : Type 0 where
  pub stages : length s.stages.items ≡ length deps
  pub layers : length s.layers.items ≡ length deps
  pub rest : length s.rest.items ≡ length deps
  pub kept : Kept deps (stage_of s) (layer_of s) (rest_of s) (unplaced s)
  pub trail : IsTrail deps (stage_of s) s.stack.items

-- the last of the stack, if any, depends on the item
abbrev pub LeadsOn : List (Vec ℕ Global) → List ℕ → ℕ → Type 0
LeadsOn deps stack item = (i : ℕ) → i + 1 ≡ length stack → DependsOn deps (slice_index stack i) item

-- what was touched stays so
abbrev pub KeepsTouched : Search → Search → Type 0
KeepsTouched a b = (v : ℕ) → (stage_of a v ≡ Untouched → ⊥) → stage_of b v ≡ Untouched → ⊥

-- the item is the last of the stack
abbrev pub IsLast : List ℕ → ℕ → Type 0
IsLast stack item = (i : ℕ) × (i + 1 ≡ length stack) × (slice_index stack i ≡ item)

-- where the search tells of a cycle there is one
abbrev pub IsTrueStop : List (Vec ℕ Global) → SearchStop → Type 0
IsTrueStop deps Cycle = HasCycle deps
IsTrueStop deps NoMemory = Unit {0}
