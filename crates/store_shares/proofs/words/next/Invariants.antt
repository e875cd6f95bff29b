use Rattle.std.proofs.Common.{length, ◌-◌, ◌≡◌, ◌<◌, ◌≤◌, ◌/◌, ℕ, false}
use Rattle.store_shares.specs.Words.{word_has, word_at}
use Rattle.store_shares.proofs.words.next.Given as goal

abbrev pub invariant-loop-at : goal.invariant-loop-at
invariant-loop-at l =
    ((i k : ℕ) → i < l.at → l.from ≤ k → k < l.limit → word_has (word_at l.words i) k ≡ false) × ((i : ℕ) → l.at ≤ i → i < length l.words → l.from / 64 ≤ (word_at l.words i).index)

abbrev pub decreases-loop-at : goal.decreases-loop-at
decreases-loop-at l = length l.words - l.at
