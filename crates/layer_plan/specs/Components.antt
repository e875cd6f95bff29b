-- What the search for components keeps. Its path holds the open items, in the order in which they were
-- touched, cut into components: all items of a component lead to one another, and to those of the
-- components behind. Each start is the place where a component begins. The trail holds the open items
-- with entries of their lists that are left, in the same order.
use Rattle.std.specs.Prelude.{Vec, ℕ, ◌+◌, ◌<◌, ◌≤◌, ◌≡◌, List, length, slice_index, slice_index_or, sum, sum_by}
use Rattle.std.specs.declared.alloc.Global.{Global}
use Rattle.layer_plan.specs.Dependencies.{list_of, DependsOn}
use Rattle.layer_plan.specs.Nearness.{HasWay, LeadsBack}
use Rattle.layer_plan.specs.declared.components.Mark.{Mark}
use Rattle.layer_plan.specs.declared.components.Mark.TheVariants.{Untouched, Open, Closed}
use Rattle.layer_plan.specs.declared.components.Components.{Components}

-- the other place is in the same component as the one, or in one behind
abbrev pub IsNoEarlier : List ℕ → ℕ → ℕ → Type 0
IsNoEarlier starts i j = (k : ℕ) → k < length starts → slice_index starts k ≤ i → slice_index starts k ≤ j

pub record IsPlaced (deps : List (Vec ℕ Global)) (mark : ℕ → Mark) (place : ℕ → ℕ) (path : List ℕ) : Type 0 where
  pub items : (i : ℕ) → i < length path → slice_index path i < length deps
  pub open_each : (i : ℕ) → i < length path → mark (slice_index path i) ≡ Open
  pub place_of : (i : ℕ) → i < length path → place (slice_index path i) ≡ i
  pub place_in : (v : ℕ) → v < length deps → mark v ≡ Open → place v < length path
  pub at_place : (v : ℕ) → v < length deps → mark v ≡ Open → slice_index path (place v) ≡ v

pub record IsTrailing (deps : List (Vec ℕ Global)) (mark : ℕ → Mark) (rest place : ℕ → ℕ) (trail : List ℕ) : Type 0 where
  pub items : (i : ℕ) → i < length trail → slice_index trail i < length deps
  pub open_each : (i : ℕ) → i < length trail → mark (slice_index trail i) ≡ Open
  pub rising : (i j : ℕ) → i < j → j < length trail → place (slice_index trail i) < place (slice_index trail j)
  pub left : (v : ℕ) → v < length deps → mark v ≡ Open → 0 < rest v → (i : ℕ) × (i < length trail) × (slice_index trail i ≡ v)

pub record AreStarts (count : ℕ) (starts : List ℕ) : Type 0 where
  pub within : (k : ℕ) → k < length starts → slice_index starts k < count
  pub rising : (i j : ℕ) → i < j → j < length starts → slice_index starts i < slice_index starts j
  pub some : (i : ℕ) → i < count → (k : ℕ) × (k < length starts) × (slice_index starts k ≤ i)

-- what was looked at of an open item's list is touched, and no earlier than the item where it is open
pub record IsSeen (deps : List (Vec ℕ Global)) (mark : ℕ → Mark) (rest place : ℕ → ℕ) (starts : List ℕ) : Type 0 where
  pub fresh : (v : ℕ) → v < length deps → mark v ≡ Untouched → rest v ≡ length (list_of deps v)
  pub within : (v : ℕ) → v < length deps → rest v ≤ length (list_of deps v)
  pub touched : (v k : ℕ) → v < length deps → mark v ≡ Open → rest v ≤ k → k < length (list_of deps v) → mark (slice_index (list_of deps v) k) ≡ Untouched → ⊥
  pub no_earlier : (v k : ℕ) → v < length deps → mark v ≡ Open → rest v ≤ k → k < length (list_of deps v) → mark (slice_index (list_of deps v) k) ≡ Open → IsNoEarlier starts (place v) (place (slice_index (list_of deps v) k))

abbrev pub IsLinked : List (Vec ℕ Global) → List ℕ → List ℕ → Type 0
IsLinked deps path starts = (i j : ℕ) → i < length path → j < length path → IsNoEarlier starts i j → HasWay deps (slice_index path i) (slice_index path j)

-- closed items depend on closed ones, and of those that lie on a cycle the least is known
pub record IsSettled (deps : List (Vec ℕ Global)) (mark : ℕ → Mark) (least : ℕ) : Type 0 where
  pub closed : (v w : ℕ) → mark v ≡ Closed → DependsOn deps v w → mark w ≡ Closed
  pub least_of : (v : ℕ) → mark v ≡ Closed → LeadsBack deps v → least ≤ v
  pub on_itself : (v : ℕ) → DependsOn deps v v → least ≤ v
  pub lies : least < length deps → LeadsBack deps least

abbrev pub mark_of : Components → ℕ → Mark
mark_of s v = slice_index_or s.marks.items v Untouched

abbrev pub rest_of : Components → ℕ → ℕ
rest_of s v = slice_index s.rest.items v

abbrev pub place_of : Components → ℕ → ℕ
place_of s v = slice_index s.places.items v

pub record AreComponents (deps : List (Vec ℕ Global)) (s : Components) : Type 0 where
  pub marks : length s.marks.items ≡ length deps
  pub rest : length s.rest.items ≡ length deps
  pub places : length s.places.items ≡ length deps
  pub placed : IsPlaced deps (mark_of s) (place_of s) s.path.items
  pub trailing : IsTrailing deps (mark_of s) (rest_of s) (place_of s) s.trail.items
  pub starts : AreStarts (length s.path.items) s.starts.items
  pub seen : IsSeen deps (mark_of s) (rest_of s) (place_of s) s.starts.items
  pub linked : IsLinked deps s.path.items s.starts.items
  pub settled : IsSettled deps (mark_of s) s.least

-- how often an item that isn't touched yet is still changed
abbrev pub weight : Mark → ℕ
weight Untouched = 3
weight Open = 0
weight Closed = 0

-- how much is left to do
abbrev pub work : Components → ℕ
work s = sum_by weight s.marks.items + sum s.rest.items + length s.trail.items + length s.starts.items

-- what was touched stays so
abbrev pub KeepsTouched : Components → Components → Type 0
KeepsTouched a b = (v : ℕ) → (mark_of a v ≡ Untouched → ⊥) → mark_of b v ≡ Untouched → ⊥
