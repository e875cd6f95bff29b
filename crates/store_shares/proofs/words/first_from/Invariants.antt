use Rattle.std.proofs.Common.{◌-◌, ◌<◌, ◌≤◌, ℕ, length}
use Rattle.store_shares.specs.Words.{word_at}
use Rattle.store_shares.proofs.words.first_from.Given as goal

abbrev pub invariant-loop-low : goal.invariant-loop-low
invariant-loop-low l =
    (l.low ≤ l.high) × (l.high ≤ length l.words) × ((i : ℕ) → i < l.low → (word_at l.words i).index < l.index) × ((i : ℕ) → l.high ≤ i → i < length l.words → l.index ≤ (word_at l.words i).index)

abbrev pub decreases-loop-low : goal.decreases-loop-low
decreases-loop-low l = l.high - l.low
