-- How the ids are marked on which a target stands: the stack holds marked ids whose inputs are still to
-- be marked.
use Rattle.std.specs.Prelude.{◌≡◌, ◌⊎◌, ℕ, ◌+◌, ◌<◌, Bool, true, cond, List, length, sum_by}
use Rattle.store_turns.specs.Cones.{Among, StandsOn, has}

-- 1 for an id without a mark
abbrev pub without_mark : Bool → ℕ
without_mark mark = cond mark 0 1

-- how many ids have no mark
abbrev pub unmarked : List Bool → ℕ
unmarked marks = sum_by without_mark marks

-- these ids were marked, and those that are new were put on the stack
pub record Marks (ids : List ℕ) (marks : List Bool) (stack : List ℕ) (marks' : List Bool) (stack' : List ℕ) : Type 0 where
  pub count : length marks' ≡ length marks
  pub grows : (i : ℕ) → has marks i ≡ true → has marks' i ≡ true
  pub here : (i : ℕ) → Among i ids → has marks' i ≡ true
  pub only : (i : ℕ) → has marks' i ≡ true → (has marks i ≡ true) ⊎ (Among i ids × Among i stack')
  pub kept : (i : ℕ) → Among i stack → Among i stack'
  pub stacked : (i : ℕ) → Among i stack' → Among i stack ⊎ (Among i ids × (i < length marks))
  pub left : unmarked marks' + length stack' ≡ unmarked marks + length stack

-- the marks so far
pub record IsMarking (inputs : ℕ → List ℕ) (count target : ℕ) (marks : List Bool) (stack : List ℕ) : Type 0 where
  pub many : length marks ≡ count
  pub rooted : has marks target ≡ true
  pub stands : (i : ℕ) → i < count → has marks i ≡ true → StandsOn inputs target i
  pub closed : (i : ℕ) → i < count → has marks i ≡ true → Among i stack ⊎ ((d : ℕ) → Among d (inputs i) → has marks d ≡ true)
  pub within : (i : ℕ) → Among i stack → i < count
  pub marked : (i : ℕ) → Among i stack → has marks i ≡ true
