-- A constraint is made again from what it is as numbers and lists, so these tell which it is.
use Rattle.std.proofs.Common.{◌≡◌, ℕ, ℤ, pos, negsuc, List, [], ◌∷◌, refl, sym, ap, ◌∙◌}
use Rattle.std.specs.Prelude.{slice_index_or}
use Rattle.cbl_violations.specs.Constraints.{constraint_numbers, first_kept, second_kept}
use Rattle.cbl_violations.specs.declared.constraint.Constraint.{Constraint}
use Rattle.cbl_violations.specs.declared.constraint.Constraint.TheVariants.{Eq, Ne, Le, Lt, AllDifferent, AtMost, AtLeast, Exactly, Knapsack, MultiKnapsack, Sequence, AllOf, AnyOf, NotHeld}

abbrev at : List ℤ → ℕ → ℤ
at ns k = slice_index_or ns k (pos 0)

abbrev natural : ℤ → ℕ
natural (pos n) = n
natural (negsuc n) = 0

-- the constraints in order of declaration, each with these numbers and lists
abbrev all_with : List ℤ → List ℤ → List ℤ → List Constraint
all_with ns xs ys =
    Eq ∷ Ne ∷ Le ∷ Lt ∷ AllDifferent ∷ AtMost (at ns 1) xs ∷ AtLeast (at ns 1) xs ∷ Exactly (at ns 1) xs
    ∷ Knapsack xs (at ns 1) ∷ MultiKnapsack xs (at ns 1) ys ∷ Sequence xs (at ns 1) (at ns 2) ∷ AllOf ∷ AnyOf ∷ NotHeld ∷ []

-- the constraint that is this as numbers and lists
abbrev pub constraint_of : List ℤ → List ℤ → List ℤ → Constraint
constraint_of ns xs ys = slice_index_or (all_with ns xs ys) (natural (at ns 0)) Eq

pub constraint_again : (c : Constraint) → constraint_of (constraint_numbers c) (first_kept c) (second_kept c) ≡ c
constraint_again Eq = refl
constraint_again Ne = refl
constraint_again Le = refl
constraint_again Lt = refl
constraint_again AllDifferent = refl
constraint_again (AtMost low bounds) = refl
constraint_again (AtLeast low bounds) = refl
constraint_again (Exactly low bounds) = refl
constraint_again (Knapsack weights capacity) = refl
constraint_again (MultiKnapsack sizes low capacities) = refl
constraint_again (Sequence values most window) = refl
constraint_again AllOf = refl
constraint_again AnyOf = refl
constraint_again NotHeld = refl

pub constraint_same : (a b : Constraint) → constraint_numbers a ≡ constraint_numbers b → first_kept a ≡ first_kept b → second_kept a ≡ second_kept b → a ≡ b
constraint_same a b ns xs ys =
    sym (constraint_again a)
    ∙ ap (λ l. constraint_of l (first_kept a) (second_kept a)) ns
    ∙ ap (λ l. constraint_of (constraint_numbers b) l (second_kept a)) xs
    ∙ ap (λ l. constraint_of (constraint_numbers b) (first_kept b) l) ys
    ∙ constraint_again b
