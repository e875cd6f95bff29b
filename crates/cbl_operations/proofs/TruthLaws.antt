-- Truth values of lists.
use Rattle.std.proofs.Common.{◌≡◌, ◌≢◌, ℤ, pos, Bool, true, false, List, refl, ap}
use Rattle.std.specs.Prelude.{◌↔◌, All, Any}
use Rattle.std.specs.List.{list_all, list_any}
use Rattle.std.specs.Ordering.{int_eq}
use Rattle.std.proofs.lemmas.Bool.{not-true, not_from_false, false_from_ne_true, both_ways}
use Rattle.std.proofs.lemmas.Bool.Decides.{Decides-int_eq}
use Rattle.std.proofs.lemmas.List.Sums.{AllPass-from_list_all, list_all-from_AllPass}
use Rattle.std.proofs.lemmas.List.Folds.{Any-from_list_any, list_any-from_Any}
use Rattle.std.proofs.lemmas.List.Elements.{All-weaker}
use Rattle.cbl_operations.specs.Truth.{truth, is_true}

-- a test as a number
pub one_is_true : (b : Bool) → truth b ≡ pos 1 → b ≡ true
one_is_true true e = refl
one_is_true false e = cc

pub truth_of : (b : Bool) → b ≡ true → truth b ≡ pos 1
truth_of b e = ap (λ t. truth t) e

-- a number is true exactly where it isn't 0
pub true_is_not_0 : (x : ℤ) → is_true x ≡ true → x ≢ pos 0
true_is_not_0 x e zero = both_ways (int_eq x (pos 0)) (not-true (int_eq x (pos 0)) e) ((Decides-int_eq x (pos 0)).1 zero)

pub not_0_is_true : (x : ℤ) → x ≢ pos 0 → is_true x ≡ true
not_0_is_true x ne = not_from_false (int_eq x (pos 0)) (false_from_ne_true (int_eq x (pos 0)) (λ e. ne ((Decides-int_eq x (pos 0)).0 e)))

pub all_true : (xs : List ℤ) → (list_all is_true xs ≡ true) ↔ All (λ x. x ≢ pos 0) xs
all_true xs = (
  λ e. All-weaker (λ (x : ℤ). is_true x ≡ true) (λ (x : ℤ). x ≢ pos 0) true_is_not_0 xs (AllPass-from_list_all is_true xs e),
  λ all. list_all-from_AllPass is_true xs (All-weaker (λ (x : ℤ). x ≢ pos 0) (λ (x : ℤ). is_true x ≡ true) not_0_is_true xs all),
)

pub some_true : (xs : List ℤ) → (list_any is_true xs ≡ true) ↔ Any (λ x. x ≢ pos 0) xs
some_true xs = (
  λ e. let one = Any-from_list_any is_true xs e in (one.0, one.1, one.2, one.3, true_is_not_0 one.1 one.4),
  λ one. list_any-from_Any is_true xs (one.0, one.1, one.2, one.3, not_0_is_true one.1 one.4),
)
