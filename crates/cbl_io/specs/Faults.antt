-- A count of faults never falls. It has risen where it is greater than before, or stands at the last
-- value of its type, which it can't pass.
use Rattle.std.specs.Prelude.{◌≡◌, ◌⊎◌, ◌<◌, ◌+◌, ◌-◌, ◌^◌, ℕ, List, min, count_by, bytes_eq}

abbrev pub last_count : ℕ
last_count = 2 ^ 64 - 1

abbrev pub HasRisen : ℕ → ℕ → Type 0
HasRisen old new = (old < new) ⊎ (new ≡ last_count)

-- one more, or the last count again
abbrev pub next_count : ℕ → ℕ
next_count count = min (count + 1) last_count

-- how often a name stands among the names whose reads failed
abbrev pub times_of : List ℕ → List (List ℕ) → ℕ
times_of name failed = count_by (bytes_eq name) failed
