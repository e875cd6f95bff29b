-- The members of a set that two are combined to, and what it is after one of them got or lost a member.
use Rattle.std.proofs.Common.{◌≡◌, ℤ, Bool, true, false, not, ◌&&◌, ◌||◌, inl, inr, List, [], ◌∷◌, ◌++◌, refl, ap, sym, ◌∙◌, subst, get_or, arith}
use Rattle.std.specs.Prelude.{filter}
use Rattle.std.specs.Ordering.{int_eq}
use Rattle.std.proofs.lemmas.Bool.{both_ways, cases_Bool}
use Rattle.cbl_base.specs.Inputs.{kinds_of}
use Rattle.cbl_base.specs.Sets.{IsRising, is_member}
use Rattle.cbl_base.specs.declared.input.Input.{Input}
use Rattle.cbl_base.specs.declared.input.Input.TheVariants.{Int, Set}
use Rattle.cbl_base.proofs.SetLemmas.{int_eq-itself, int_eq-true, is_member-append, is_member-filter, is_member-with, is_member-without, is_member-set_of, rising-with, rising-without, rising-set_of, same_set}
use Rattle.cbl_operations.specs.SetForms.{members_of, are_two_sets}
use Rattle.node_set.specs.Placing.{placed, placed_in}
use Rattle.node_set.specs.Combining.{both, combined, belongs, exchanged}
use Rattle.node_set.specs.declared.two_sets.Combining.{Combining}
use Rattle.node_set.specs.declared.two_sets.Combining.TheVariants.{Either, Both, FirstAlone, SecondAlone}

-- ---- a number that is placed in a set or out of it
pub is_member-placed : (v : ℤ) (b : Bool) (s : List ℤ) → is_member v (placed v b s) ≡ b
is_member-placed v true s = let at = is_member-with v v s in let e = int_eq-itself v in grind (arith, at, e)
is_member-placed v false s = let at = is_member-without v v s in let e = int_eq-itself v in grind (arith, at, e)

pub is_member-placed_other : (w v : ℤ) (b : Bool) (s : List ℤ) → int_eq v w ≡ false → is_member w (placed v b s) ≡ is_member w s
is_member-placed_other w v true s e = let at = is_member-with w v s in grind (arith, at, e)
is_member-placed_other w v false s e = let at = is_member-without w v s in grind (arith, at, e)

pub rising-placed : (v : ℤ) (b : Bool) (s : List ℤ) → IsRising s → IsRising (placed v b s)
rising-placed v true s up = rising-with v s up
rising-placed v false s up = rising-without v s up

-- ---- the combined set
and_comm : (a b : Bool) → (a && b) ≡ (b && a)
and_comm true true = refl
and_comm true false = refl
and_comm false true = refl
and_comm false false = refl

pub is_member-combined : (how : Combining) (v : ℤ) (s t : List ℤ) → is_member v (combined how s t) ≡ belongs how (is_member v s) (is_member v t)
is_member-combined Either v s t = is_member-set_of v (s ++ t) ∙ is_member-append v s t
is_member-combined Both v s t =
    is_member-set_of v (filter (λ w. is_member w t) s) ∙ is_member-filter (λ w. is_member w t) v s ∙ and_comm (is_member v t) (is_member v s)
is_member-combined FirstAlone v s t =
    is_member-set_of v (filter (λ w. not (is_member w t)) s) ∙ is_member-filter (λ w. not (is_member w t)) v s ∙ and_comm (not (is_member v t)) (is_member v s)
is_member-combined SecondAlone v s t =
    is_member-set_of v (filter (λ w. not (is_member w s)) t) ∙ is_member-filter (λ w. not (is_member w s)) v t

pub rising-combined : (how : Combining) (s t : List ℤ) → IsRising (combined how s t)
rising-combined Either s t = rising-set_of (s ++ t)
rising-combined Both s t = rising-set_of (filter (λ w. is_member w t) s)
rising-combined FirstAlone s t = rising-set_of (filter (λ w. not (is_member w t)) s)
rising-combined SecondAlone s t = rising-set_of (filter (λ w. not (is_member w s)) t)

or_comm : (a b : Bool) → (a || b) ≡ (b || a)
or_comm true true = refl
or_comm true false = refl
or_comm false true = refl
or_comm false false = refl

belongs-exchanged : (how : Combining) (a b : Bool) → belongs (exchanged how) b a ≡ belongs how a b
belongs-exchanged Either a b = or_comm b a
belongs-exchanged Both a b = and_comm b a
belongs-exchanged FirstAlone a b = and_comm (not b) a
belongs-exchanged SecondAlone a b = and_comm b (not a)

-- of the sets in the other order
pub combined-exchanged : (how : Combining) (s t : List ℤ) → combined (exchanged how) t s ≡ combined how s t
combined-exchanged how s t =
    same_set (combined (exchanged how) t s) (combined how s t) (rising-combined (exchanged how) t s) (rising-combined how s t)
    (λ v. is_member-combined (exchanged how) v t s ∙ belongs-exchanged how (is_member v s) (is_member v t) ∙ sym (is_member-combined how v s t))

pub kept-exchanged : (how other : Combining) (s t : List ℤ) (kept : Input) → other ≡ exchanged how → kept ≡ Set (combined how s t) → kept ≡ Set (combined other t s)
kept-exchanged how other s t kept is_other is_kept =
    is_kept ∙ ap Set (sym (combined-exchanged how s t)) ∙ ap (λ h. Set (combined h t s)) (sym is_other)

pub kept-exchanged_back : (how other : Combining) (s t : List ℤ) (kept : Input) → other ≡ exchanged how → kept ≡ Set (combined other t s) → kept ≡ Set (combined how s t)
kept-exchanged_back how other s t kept is_other is_kept =
    is_kept ∙ ap (λ h. Set (combined h t s)) is_other ∙ ap Set (combined-exchanged how s t)

-- a number in one of the sets or out of it
pub combined-placed : (how : Combining) (v : ℤ) (b : Bool) (s t : List ℤ) → placed v (belongs how b (is_member v t)) (combined how s t) ≡ combined how (placed v b s) t
combined-placed how v b s t =
    let c = belongs how b (is_member v t) in
    same_set (placed v c (combined how s t)) (combined how (placed v b s) t) (rising-placed v c (combined how s t) (rising-combined how s t)) (rising-combined how (placed v b s) t)
    (λ w. elim (cases_Bool (int_eq v w)) [
      | inl e ↦ subst (λ z. is_member z (placed v c (combined how s t)) ≡ is_member z (combined how (placed v b s) t)) (int_eq-true v w e)
          (is_member-placed v c (combined how s t) ∙ ap (λ a. belongs how a (is_member v t)) (sym (is_member-placed v b s)) ∙ sym (is_member-combined how v (placed v b s) t))
      | inr e ↦ is_member-placed_other w v c (combined how s t) e ∙ is_member-combined how w s t
          ∙ ap (λ a. belongs how a (is_member w t)) (sym (is_member-placed_other w v b s e)) ∙ sym (is_member-combined how w (placed v b s) t)
    ])

-- the same where the set before, the set after and the input are known by equations
pub kept-placed : (how : Combining) (v : ℤ) (b c : Bool) (s t u : List ℤ) (kept new : Input) → kept ≡ Set (combined how s t) → c ≡ belongs how b (is_member v t) → u ≡ placed v b s → new ≡ placed_in v c kept → new ≡ Set (combined how u t)
kept-placed how v b c s t u kept new is_kept is_c is_u is_new =
    is_new ∙ ap (placed_in v c) is_kept ∙ ap (λ d. Set (placed v d (combined how s t))) is_c ∙ ap Set (combined-placed how v b s t) ∙ ap (λ x. Set (combined how x t)) (sym is_u)

-- ---- two sets as inputs
pub two_sets : (inputs : List Input) (x y : Input) → are_two_sets (kinds_of inputs) ≡ true → x ≡ get_or inputs 0 x → y ≡ get_or inputs 1 y → both (members_of x) (members_of y) ≡ inputs
two_sets (Set s ∷ Set t ∷ []) x y e at_x at_y = ap (λ z. both (members_of z) (members_of y)) at_x ∙ ap (λ z. both s (members_of z)) at_y
two_sets [] x y e at_x at_y = absurd (both_ways false refl e)
two_sets (Int a ∷ inputs) x y e at_x at_y = absurd (both_ways false refl e)
two_sets (Set s ∷ []) x y e at_x at_y = absurd (both_ways false refl e)
two_sets (Set s ∷ Int b ∷ inputs) x y e at_x at_y = absurd (both_ways false refl e)
two_sets (Set s ∷ Set t ∷ z ∷ inputs) x y e at_x at_y = absurd (both_ways false refl e)
