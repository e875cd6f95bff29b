-- The new numbers of one change more.
use Rattle.std.proofs.Common.{◌≡◌, ℕ, ℤ, ◌+◌, ◌<◌, ◌==◌, Bool, true, false, List, length, get_or, arith, refl, ap, sym, ◌∙◌}
use Rattle.std.specs.Prelude.{unwrap_or, Some, if◌then◌else◌, Option}
use Rattle.std.specs.BTreeMap.{is_at}
use Rattle.std.specs.Ordering.{nat_cmp}
use Rattle.std.proofs.lemmas.Bool.Decides.{nat_tests}
use Rattle.std.proofs.lemmas.List.Sums.{fold_more}
use Rattle.node_base.specs.declared.number_change.NumberChange.{NumberChange}
use Rattle.node_count.specs.After.{number_after_one}
use Rattle.diff_comb.specs.declared.new_numbers.NewNumbers.{NewNumbers}
use Rattle.diff_comb.specs.NewNumbers.{number_in, AreNewNumbers}

is_at_place : (p q : ℕ) → is_at (nat_cmp p) q ≡ (p == q)
is_at_place p q = grind (arith, nat_tests)

-- a number that is written at a place, as it is read
pub written_number : (found found' : Option ℤ) (p q : ℕ) (n x : ℤ) → found' ≡ (if is_at (nat_cmp p) q then Some n else found) → unwrap_or found' x ≡ (if p == q then n else unwrap_or found x)
written_number found found' p q n x e = ap (λ o. unwrap_or o x) e ∙ by_test (is_at (nat_cmp p) q) ∙ ap (λ b. if b then n else unwrap_or found x) (is_at_place p q)
  where
    by_test : (b : Bool) → unwrap_or (if b then Some n else found) x ≡ (if b then n else unwrap_or found x)
    by_test true = refl
    by_test false = refl

pub new_numbers_more : (old new : NewNumbers) (changes : List NumberChange) (i : ℕ) (d : NumberChange) → i < length changes → AreNewNumbers old changes i
    → ((place : ℕ) (x : ℤ) → number_in new place x ≡ number_after_one place (number_in old place x) (get_or changes i d)) → AreNewNumbers new changes (i + 1)
new_numbers_more old new changes i d lt are more many place x =
    more place x ∙ ap (λ y. number_after_one place y (get_or changes i d)) (are many place x) ∙ sym (fold_more (number_after_one place) x changes i d lt)
