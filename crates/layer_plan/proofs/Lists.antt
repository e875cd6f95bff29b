-- An item's list, as the code reads it.
use Rattle.std.proofs.lemmas.Option.{slice_get_within, get_or_from_slice_get, slice_get-get_or}
use Rattle.std.proofs.lemmas.Bool.{cases_lt}
use Rattle.std.specs.List.{slice_get}
use Rattle.layer_plan.specs.Search.{IsLast}
use Rattle.std.proofs.Common.{Option, Some, None, ◌-◌, sym, refl, inl, inr, Vec, zero, suc, ℕ, ◌<◌, ◌≡◌, ◌∙◌, List, [], ◌∷◌, length, get_or, ap, arith}
use Rattle.std.specs.declared.alloc.Global.{Global}
use Rattle.std.proofs.lemmas.List.{get_or_default}
use Rattle.layer_plan.specs.Dependencies.{list_of, DependsOn}

pub list_of-read : (deps : List (Vec ℕ Global)) (item : ℕ) (list d : Vec ℕ Global) → item < length deps → list ≡ get_or deps item d → list.items ≡ list_of deps item
unfolding list_of
list_of-read [] item list d h e = absurd (omega arith)
list_of-read (x ∷ xs) zero list d h e = ap (λ (v : Vec ℕ Global). v.items) e
list_of-read (x ∷ xs) (suc item) list d h e = list_of-read xs item list d (omega arith) e

-- what stands in an item's list, it depends on
pub depends_at : (deps : List (Vec ℕ Global)) (item k : ℕ) → k < length (list_of deps item) → DependsOn deps item (get_or (list_of deps item) k 0)
unfolding DependsOn
depends_at deps item k h = (k, h, get_or_default (list_of deps item) k (get_or (list_of deps item) k 0) 0 h)

-- and the other way
pub place_of : (deps : List (Vec ℕ Global)) (item next : ℕ) → DependsOn deps item next → (k : ℕ) × (k < length (list_of deps item)) × (get_or (list_of deps item) k 0 ≡ next)
unfolding DependsOn
place_of deps item next h = (h.0, h.1, get_or_default (list_of deps item) h.0 0 next h.1 ∙ h.2)

in_of_place : (deps : List (Vec ℕ Global)) (item k : ℕ) → k < length (list_of deps item) → item < length deps
unfolding list_of
in_of_place [] item k h = absurd (omega arith)
in_of_place (x ∷ xs) zero k h = omega arith
in_of_place (x ∷ xs) (suc item) k h = let i = in_of_place xs item k h in omega arith

-- what depends on something is an item
pub depends_in : (deps : List (Vec ℕ Global)) (item next : ℕ) → DependsOn deps item next → item < length deps
unfolding DependsOn
depends_in deps item next h = in_of_place deps item h.0 h.1

-- the last of a list, as a call gives it
pub last_of : (xs ys : List ℕ) (r : Option ℕ) (x : ℕ) → r ≡ slice_get ys (length ys - 1) → ys ≡ xs → r ≡ Some x → IsLast xs x
last_of xs ys r x is e some =
    let at : slice_get xs (length xs - 1) ≡ Some x = ap (λ zs. slice_get zs (length zs - 1)) (sym e) ∙ sym is ∙ some in
    let inside = slice_get_within xs (length xs - 1) x at in
    (length xs - 1, omega arith, get_or_from_slice_get xs (length xs - 1) x 0 at)

pub last_none : (xs ys : List ℕ) (r : Option ℕ) → r ≡ slice_get ys (length ys - 1) → ys ≡ xs → r ≡ None → length xs ≡ 0
last_none xs ys r is e none = elim (cases_lt 0 (length xs)) [
  | inl some ↦ (let at : slice_get xs (length xs - 1) ≡ None = ap (λ zs. slice_get zs (length zs - 1)) (sym e) ∙ sym is ∙ none in let other = slice_get-get_or xs (length xs - 1) 0 (omega arith) in absurd (cc))
  | inr h ↦ omega arith
]

empty : (xs : List ℕ) → length xs ≡ 0 → xs ≡ []
empty [] e = refl
empty (x ∷ xs) e = absurd (omega arith)

pub empty_of : (xs ys : List ℕ) (r : Option ℕ) → r ≡ slice_get ys (length ys - 1) → ys ≡ xs → r ≡ None → xs ≡ []
empty_of xs ys r is e none = empty xs (last_none xs ys r is e none)
