-- The numbers that the first of many changes make at their places, by those places. A rule of this project.
use Rattle.std.specs.Prelude.{◌≡◌, ◌<◌, ℕ, ℤ, List, length, take, unwrap_or}
use Rattle.std.specs.BTreeMap.{get}
use Rattle.std.specs.Ordering.{nat_cmp}
use Rattle.node_base.specs.declared.number_change.NumberChange.{NumberChange}
use Rattle.node_count.specs.After.{number_after}
use Rattle.diff_comb.specs.declared.new_numbers.NewNumbers.{NewNumbers}

-- the number that is kept of a place, and else this one
abbrev pub number_in : NewNumbers → ℕ → ℤ → ℤ
number_in kept place x = unwrap_or (get nat_cmp kept.by_place place) x

-- of more than eight changes these are what the first `count` make
abbrev pub AreNewNumbers : NewNumbers → List NumberChange → ℕ → Type 0
AreNewNumbers kept changes count = 8 < length changes → (place : ℕ) (x : ℤ) → number_in kept place x ≡ number_after place x (take count changes)
