-- How many numbers of a list are true, as the numbers change, and what that says of all and of some.
use Rattle.std.proofs.Common.{◌≡◌, ℕ, zero, suc, ℤ, ◌+◌, ◌<◌, ◌≤◌, Bool, true, false, ◌&&◌, ◌||◌, cond, List, [], ◌∷◌, length, get_or, refl, ap, sym, ◌∙◌, arith}
use Rattle.std.specs.Prelude.{nat_eq, nat_lt, Ok}
use Rattle.std.specs.List.{list_all, list_any}
use Rattle.std.proofs.lemmas.List.Sums.{sum_by-cons, sum_by-set, count_by-le-length}
use Rattle.std.proofs.lemmas.Bool.Decides.{nat_tests}
use Rattle.cbl_operations.specs.Truth.{truth, is_true}
use Rattle.node_num.specs.declared.junction.JunctionKind.{JunctionKind}
use Rattle.node_num.specs.declared.junction.JunctionKind.TheVariants.{And, Or}
use Rattle.node_num.specs.JunctionRules.{rule_of_junction}
use Rattle.node_base.specs.declared.number_change.NumberChange.{NumberChange}
use Rattle.node_base.specs.NumberChanges.{after_number_change, IsNumberChange}
use Rattle.node_base.proofs.ChangeLemmas.{number_within, number_read}
use Rattle.node_num.specs.Truths.{one_if_true, truths_in}

truths-cons : (x : ℤ) (xs : List ℤ) → truths_in (x ∷ xs) ≡ one_if_true x + truths_in xs
truths-cons x xs = sum_by-cons one_if_true x xs

pub truths-le-length : (xs : List ℤ) → truths_in xs ≤ length xs
truths-le-length xs = count_by-le-length is_true xs

-- at a change of what stands there
module _ (xs : List ℤ) (c : NumberChange) (h : IsNumberChange xs c) where
  pub truths_after_change : truths_in (after_number_change xs c) + one_if_true c.old ≡ truths_in xs + one_if_true c.new
  truths_after_change =
      ap (λ v. truths_in (after_number_change xs c) + one_if_true v) (sym (number_read xs c c.old h)) ∙ sum_by-set one_if_true xs c.place c.new c.old (number_within xs c h)

  pub old_counted : one_if_true c.old ≤ truths_in xs
  old_counted = counted xs c.place c.old (number_within xs c h) (number_read xs c c.old h)
    where
      counted : (xs : List ℤ) (p : ℕ) (v : ℤ) → p < length xs → get_or xs p v ≡ v → one_if_true v ≤ truths_in xs
      counted [] p v lt at = absurd (omega arith)
      counted (x ∷ xs) zero v lt at = omega (arith, truths-cons x xs, ap one_if_true at)
      counted (x ∷ xs) (suc p) v lt at = omega (arith, truths-cons x xs, counted xs p v (omega arith) at)

-- all are true where as many are as there are
pub all_true : (xs : List ℤ) (n : ℕ) → n ≡ truths_in xs → list_all is_true xs ≡ nat_eq n (length xs)
all_true xs n e = by_count xs ∙ ap (λ m. nat_eq m (length xs)) (sym e)
  where
    step : (b : Bool) (x : ℤ) (xs : List ℤ) → list_all is_true xs ≡ nat_eq (truths_in xs) (length xs) → (b && list_all is_true xs) ≡ nat_eq (cond b 1 0 + truths_in xs) (suc (length xs))
    step true x xs h = h ∙ grind (arith, nat_tests)
    step false x xs h = let few = truths-le-length xs in grind (arith, nat_tests, few)

    by_count : (xs : List ℤ) → list_all is_true xs ≡ nat_eq (truths_in xs) (length xs)
    by_count [] = refl
    by_count (x ∷ xs) = step (is_true x) x xs (by_count xs) ∙ ap (λ m. nat_eq m (suc (length xs))) (sym (truths-cons x xs))

-- some is true where one is at least
pub some_true : (xs : List ℤ) (n : ℕ) → n ≡ truths_in xs → list_any is_true xs ≡ nat_lt 0 n
some_true xs n e = by_count xs ∙ ap (nat_lt 0) (sym e)
  where
    step : (b : Bool) (x : ℤ) (xs : List ℤ) → list_any is_true xs ≡ nat_lt 0 (truths_in xs) → (b || list_any is_true xs) ≡ nat_lt 0 (cond b 1 0 + truths_in xs)
    step true x xs h = grind (arith, nat_tests)
    step false x xs h = h ∙ grind (arith, nat_tests)

    by_count : (xs : List ℤ) → list_any is_true xs ≡ nat_lt 0 (truths_in xs)
    by_count [] = refl
    by_count (x ∷ xs) = step (is_true x) x xs (by_count xs) ∙ ap (nat_lt 0) (sym (truths-cons x xs))

-- so as values
pub and_value : (kind : JunctionKind) (xs : List ℤ) (n k : ℕ) (v : ℤ) → kind ≡ And → n ≡ truths_in xs → length xs ≡ k → v ≡ truth (nat_eq n k) → Ok v ≡ (rule_of_junction kind).value xs
and_value kind xs n k v is e long value =
    ap Ok (value ∙ ap (λ m. truth (nat_eq n m)) (sym long) ∙ ap truth (sym (all_true xs n e))) ∙ ap (λ j. (rule_of_junction j).value xs) (sym is)

pub or_value : (kind : JunctionKind) (xs : List ℤ) (n : ℕ) (v : ℤ) → kind ≡ Or → n ≡ truths_in xs → v ≡ truth (nat_lt 0 n) → Ok v ≡ (rule_of_junction kind).value xs
or_value kind xs n v is e value = ap Ok (value ∙ ap truth (sym (some_true xs n e))) ∙ ap (λ j. (rule_of_junction j).value xs) (sym is)
