-- Operations that are the same are equal: an operation is made again from its name and what it keeps.
use Rattle.std.proofs.Common.{◌≡◌, ℕ, ℤ, pos, negsuc, true, ◌&&◌, List, [], ◌∷◌, Option, Some, None, refl, sym, ap, ◌∙◌, slice_get, arith, subst}
use Rattle.std.specs.Prelude.{nat_eq, slice_index_or, unwrap_or}
use Rattle.std.specs.Option.{option_map}
use Rattle.std.specs.Ordering.{int_eq}
use lib.Pointwise.{pointwise}
use Rattle.std.proofs.lemmas.Bool.{and_parts}
use Rattle.std.specs.Cmp.Rules.{signed_items}
use Rattle.cbl_violations.proofs.ConstraintNumbers.{constraint_of, constraint_again}
use Rattle.cbl_operations.proofs.OpNumbers.{unary_at, binary_at, nary_at, keyed_at, two_sets_at, unary_again, binary_again, nary_again, keyed_again, two_sets_again}
use Rattle.cbl_operations.specs.declared.op.Op.{Op}
use Rattle.cbl_operations.specs.declared.op.Op.TheVariants.{Unary, Binary, Nary, Keyed, Element, Element2, TwoSets, Card, Member, Constraint, User}
use Rattle.term_model.specs.SameOperations.{name_of, numbers_of, first_of, second_of, same_operation}

abbrev Maker : Type 0
Maker = List ℤ → List ℤ → List ℤ → Op

abbrev at : List ℤ → ℕ → ℤ
at ns i = slice_index_or ns i (pos 0)

abbrev natural : ℤ → ℕ
natural (pos n) = n
natural (negsuc n) = 0

abbrev makers : List Maker
makers =
    (λ ns first second. Unary (unary_at (natural (at ns 0)))) ∷
    (λ ns first second. Binary (binary_at (natural (at ns 0)))) ∷
    (λ ns first second. Nary (nary_at (natural (at ns 0)))) ∷
    (λ ns first second. Keyed (keyed_at (natural (at ns 0))) first) ∷
    (λ ns first second. Element (at ns 0) (natural (at ns 1))) ∷
    (λ ns first second. Element2 (at ns 0) (natural (at ns 1)) (at ns 2) (natural (at ns 3))) ∷
    (λ ns first second. TwoSets (two_sets_at (natural (at ns 0)))) ∷
    (λ ns first second. Card) ∷
    (λ ns first second. Member) ∷
    (λ ns first second. Constraint (constraint_of ns first second)) ∷
    (λ ns first second. User (natural (at ns 0))) ∷
    []

abbrev made : Op → Option Maker → Op
made op (Some make) = make (numbers_of op) (first_of op) (second_of op)
made op None = op

-- what an operation is made again from
again : (op : Op) → made op (slice_get makers (name_of op)) ≡ op
again (Unary op) = ap Unary (unary_again op)
again (Binary op) = ap Binary (binary_again op)
again (Nary op) = ap Nary (nary_again op)
again (Keyed op keys) = ap (λ o. Keyed o keys) (keyed_again op)
again (Element low len) = refl
again (Element2 low1 len1 low2 len2) = refl
again (TwoSets op) = ap TwoSets (two_sets_again op)
again Card = refl
again Member = refl
again (Constraint constraint) = ap Constraint (constraint_again constraint)
again (User number) = refl

there : (op : Op) → None ≡ slice_get makers (name_of op) → ⊥
there (Unary op) e = cc
there (Binary op) e = cc
there (Nary op) e = cc
there (Keyed op keys) e = cc
there (Element low len) e = cc
there (Element2 low1 len1 low2 len2) e = cc
there (TwoSets op) e = cc
there Card e = cc
there Member e = cc
there (Constraint constraint) e = cc
there (User number) e = cc

of_maker : (a b : Op) (m n : Option Maker) → m ≡ n → n ≡ slice_get makers (name_of b) → numbers_of a ≡ numbers_of b → first_of a ≡ first_of b → second_of a ≡ second_of b → made a m ≡ made b n
of_maker a b (Some m) (Some n) same is ns firsts seconds =
    ap (λ o. unwrap_or (option_map (λ (k : Maker). k (numbers_of a) (first_of a) (second_of a)) o) a) same
    ∙ ap (λ l. n l (first_of a) (second_of a)) ns ∙ ap (λ l. n (numbers_of b) l (second_of a)) firsts ∙ ap (λ l. n (numbers_of b) (first_of b) l) seconds
of_maker a b (Some m) None same is ns firsts seconds = let c : Some m ≡ None = same in cc
of_maker a b None (Some n) same is ns firsts seconds = let c : None ≡ Some n = same in cc
of_maker a b None None same is ns firsts seconds = absurd (there b is)

by_parts : (a b : Op) → name_of a ≡ name_of b → numbers_of a ≡ numbers_of b → first_of a ≡ first_of b → second_of a ≡ second_of b → a ≡ b
by_parts a b names ns firsts seconds =
    sym (again a) ∙ of_maker a b (slice_get makers (name_of a)) (slice_get makers (name_of b)) (ap (slice_get makers) names) refl ns firsts seconds ∙ again b

eq_of : (a b : ℕ) → nat_eq a b ≡ true → a ≡ b
eq_of a b h = grind (arith, h)

pub same_is_equal : (a b : Op) → same_operation a b ≡ true → a ≡ b
unfolding same_operation
same_is_equal a b h =
    let three = and_parts (nat_eq (name_of a) (name_of b) && pointwise int_eq (numbers_of a) (numbers_of b) && pointwise int_eq (first_of a) (first_of b)) (pointwise int_eq (second_of a) (second_of b)) h in
    let two = and_parts (nat_eq (name_of a) (name_of b) && pointwise int_eq (numbers_of a) (numbers_of b)) (pointwise int_eq (first_of a) (first_of b)) three.0 in
    let one = and_parts (nat_eq (name_of a) (name_of b)) (pointwise int_eq (numbers_of a) (numbers_of b)) two.0 in
    by_parts a b (eq_of (name_of a) (name_of b) one.0) ((signed_items (numbers_of a) (numbers_of b)).0 one.1) ((signed_items (first_of a) (first_of b)).0 two.1) ((signed_items (second_of a) (second_of b)).0 three.1)

eq_itself : (a : ℕ) → nat_eq a a ≡ true
eq_itself a = grind arith

same_itself : (a : Op) → same_operation a a ≡ true
unfolding same_operation
same_itself a =
    rw (eq_itself (name_of a), (signed_items (numbers_of a) (numbers_of a)).1 refl, (signed_items (first_of a) (first_of a)).1 refl, (signed_items (second_of a) (second_of a)).1 refl) refl

pub equal_is_same : (a b : Op) → a ≡ b → same_operation a b ≡ true
equal_is_same a b e = subst (λ o. same_operation a o ≡ true) e (same_itself a)
