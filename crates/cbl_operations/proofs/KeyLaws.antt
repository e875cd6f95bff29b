-- Which keys a set of keys has.
use Rattle.std.proofs.Common.{◌≡◌, ℕ, ℤ, ◌≤ℤ◌, zero, suc, Bool, true, ◌||◌, List, [], ◌∷◌, Some, inl, inr, refl, sym, ap, ◌∙◌, subst, arith}
use Rattle.std.specs.Prelude.{◌↔◌, IsTrue, Contains, map, filter, zip, slice_get}
use Rattle.std.specs.Ordering.{int_eq}
use Rattle.std.proofs.lemmas.Bool.{false≢true, both_ways, cases_Bool, cond_both, or_left, or_right}
use Rattle.std.proofs.lemmas.Bool.Decides.{Decides-int_eq}
use Rattle.std.proofs.lemmas.Option.{slice_get_within, get_or_from_slice_get}
use Rattle.std.proofs.lemmas.List.Elements.{All-contains}
use Rattle.std.proofs.lemmas.Int.{ints}
use Rattle.cbl_base.specs.Sets.{is_member, set_of}
use Rattle.cbl_base.proofs.SetLemmas.{is_member-set_of}
use Rattle.cbl_operations.specs.SetForms.{keys_where}
use Rattle.cbl_operations.specs.Places.{IsKeyWhere, IsLeastOf, IsGreatestOf}
use Rattle.cbl_operations.specs.Operations.Least.{least_of}
use Rattle.cbl_operations.specs.Operations.Greatest.{greatest_of}
use Rattle.cbl_operations.proofs.LeastLaws.{least_is, greatest_is}

pub contains_got : (xs : List ℤ) (i : ℕ) (x : ℤ) → slice_get xs i ≡ Some x → Contains xs x
contains_got xs i x e = (i, slice_get_within xs i x e, get_or_from_slice_get xs i x x e)

-- the key of a pair
abbrev first : ℤ × ℤ → ℤ
first pair = pair.0

-- the same one place on
one_on : (P : ℤ → Type 0) (k : ℤ) (ks : List ℤ) (x : ℤ) (xs : List ℤ) (key : ℤ) → IsKeyWhere P ks xs key → IsKeyWhere P (k ∷ ks) (x ∷ xs) key
one_on P k ks x xs key found = (suc found.0, found.1, found.2, found.3, found.4)

found_key : (p : ℤ → Bool) (keys numbers : List ℤ) (key : ℤ) → is_member key (keys_where p keys numbers) ≡ true → IsKeyWhere (λ x. p x ≡ true) keys numbers key
found_key p [] numbers key h = absurd (false≢true h)
found_key p (k ∷ ks) [] key h = absurd (false≢true h)
found_key p (k ∷ ks) (x ∷ xs) key h =
    let found = filter (λ (pair : ℤ × ℤ). p pair.1) (zip ks xs) in
    let later : is_member key (keys_where p ks xs) ≡ true → IsKeyWhere (λ x. p x ≡ true) (k ∷ ks) (x ∷ xs) key =
    λ m. one_on (λ y. p y ≡ true) k ks x xs key (found_key p ks xs key m) in
    cond_both (p x) ((k, x) ∷ found) found (λ t. is_member key (map first t) ≡ true → IsKeyWhere (λ x. p x ≡ true) (k ∷ ks) (x ∷ xs) key)
    (λ passes m. elim (cases_Bool (int_eq k key)) [
      | inl same ↦ (0, x, ap (λ z. Some z) ((Decides-int_eq k key).0 same), refl, passes)
      | inr other ↦ later (subst (λ (b : Bool). (b || is_member key (map first found)) ≡ true) other m)
    ])
    (λ fails m. later m)
    h

key_found : (p : ℤ → Bool) (keys numbers : List ℤ) (key : ℤ) (place : ℕ) (x : ℤ) → slice_get keys place ≡ Some key → slice_get numbers place ≡ Some x → p x ≡ true → is_member key (keys_where p keys numbers) ≡ true
key_found p [] numbers key place x at of passes = cc
key_found p (k ∷ ks) [] key place x at of passes = cc
key_found p (k ∷ ks) (y ∷ ys) key zero x at of passes =
    let found = filter (λ (pair : ℤ × ℤ). p pair.1) (zip ks ys) in
    let same : k ≡ key = cc in
    let number : y ≡ x = cc in
    cond_both (p y) ((k, y) ∷ found) found (λ t. is_member key (map first t) ≡ true)
    (λ _. or_left (int_eq k key) (is_member key (map first found)) ((Decides-int_eq k key).1 same))
    (λ fails. absurd (both_ways (p y) fails (subst (λ z. p z ≡ true) (sym number) passes)))
key_found p (k ∷ ks) (y ∷ ys) key (suc place) x at of passes =
    let found = filter (λ (pair : ℤ × ℤ). p pair.1) (zip ks ys) in
    let later = key_found p ks ys key place x at of passes in
    cond_both (p y) ((k, y) ∷ found) found (λ t. is_member key (map first t) ≡ true)
    (λ _. or_right (int_eq k key) (is_member key (map first found)) later)
    (λ _. later)

-- a test that decides P of each number of the list
pub keys_law : (P : ℤ → Type 0) (p : ℤ → Bool) (keys xs s : List ℤ) (key : ℤ)
    → ((x : ℤ) → Contains xs x → (p x ≡ true → P x) × (P x → p x ≡ true)) → set_of (keys_where p keys xs) ≡ s → IsTrue (is_member key s) ↔ IsKeyWhere P keys xs key
keys_law P p keys xs s key decides e =
    let all = ap (λ t. is_member key t) (sym e) ∙ is_member-set_of key (keys_where p keys xs) in (
      λ m.
          let found = found_key p keys xs key (sym all ∙ m) in
          (found.0, found.1, found.2, found.3, (decides found.1 (contains_got xs found.0 found.1 found.3)).0 found.4),
      λ found. all ∙ key_found p keys xs key found.0 found.1 found.2 found.3 ((decides found.1 (contains_got xs found.0 found.1 found.3)).1 found.4),
    )

pub least_decides : (xs : List ℤ) (x : ℤ) → Contains xs x → (int_eq x (least_of xs) ≡ true → IsLeastOf xs x) × (IsLeastOf xs x → int_eq x (least_of xs) ≡ true)
least_decides xs x there =
    let least = least_is xs (omega (arith, there.1)) in (
      λ e. subst (λ v. IsLeastOf xs v) (sym ((Decides-int_eq x (least_of xs)).0 e)) least.1,
      λ low. (Decides-int_eq x (least_of xs)).1 (omega (arith, ints, All-contains (λ (y : ℤ). x ≤ℤ y) xs (least_of xs) low least.0, All-contains (λ (y : ℤ). least_of xs ≤ℤ y) xs x least.1 there)),
    )

pub greatest_decides : (xs : List ℤ) (x : ℤ) → Contains xs x → (int_eq x (greatest_of xs) ≡ true → IsGreatestOf xs x) × (IsGreatestOf xs x → int_eq x (greatest_of xs) ≡ true)
greatest_decides xs x there =
    let greatest = greatest_is xs (omega (arith, there.1)) in (
      λ e. subst (λ v. IsGreatestOf xs v) (sym ((Decides-int_eq x (greatest_of xs)).0 e)) greatest.1,
      λ high. (Decides-int_eq x (greatest_of xs)).1 (omega (arith, ints, All-contains (λ (y : ℤ). y ≤ℤ x) xs (greatest_of xs) high greatest.0, All-contains (λ (y : ℤ). y ≤ℤ greatest_of xs) xs x greatest.1 there)),
    )
