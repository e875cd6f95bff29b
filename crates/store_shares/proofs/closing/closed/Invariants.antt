use Rattle.std.proofs.Common.{◌≡◌, ℕ, Bool, length}
use Rattle.layer_plan.specs.Dependencies.{list_of}
use Rattle.store_shares.specs.Closing.{Closes}
use Rattle.store_shares.specs.Naming.{words_of}
use Rattle.store_shares.specs.Settled.{AreRanked, AreRight, AreRising, IsKnownBelow}
use Rattle.store_shares.specs.Words.{has}
use Rattle.store_shares.proofs.closing.closed.Given as goal

abbrev pub invariant-loop-round : goal.invariant-loop-round
invariant-loop-round l = record {
  count : length l.sets.items ≡ length l.own;
  rising : AreRising l.sets.items;
  right : (all : ℕ → ℕ → Bool) → Closes all (λ x. has (words_of l.own x)) (list_of l.users) (length l.own) → AreRight all l.sets.items;
  below : (ranked : AreRanked (list_of l.users) (length l.own)) → IsKnownBelow ranked.rank (length l.own) l._round l.sets.items;
}
