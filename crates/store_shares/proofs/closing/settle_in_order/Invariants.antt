use Rattle.std.proofs.Common.{◌≡◌, ℕ, Bool, length}
use Rattle.layer_plan.specs.Dependencies.{list_of}
use Rattle.store_shares.specs.Closing.{Closes}
use Rattle.store_shares.specs.Naming.{words_of}
use Rattle.store_shares.specs.Settled.{AreRight, AreRising}
use Rattle.store_shares.specs.Words.{has}
use Rattle.store_shares.proofs.closing.settle_in_order.Given as goal

abbrev pub invariant-loop-variable : goal.invariant-loop-variable
invariant-loop-variable l = record {
  count : length l.sets.items ≡ length l.own;
  rising : AreRising l.sets.items;
  right : (all : ℕ → ℕ → Bool) → Closes all (λ x. has (words_of l.own x)) (list_of l.users) (length l.own) → AreRight all l.fn.sets.items → AreRight all l.sets.items;
}
