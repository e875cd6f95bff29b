-- A set that gets what it lacks of another, and then loses what the other lacks, is the other.
use Rattle.std.proofs.Common.{◌≡◌, ℕ, ℤ, Bool, true, false, List, [], ◌∷◌, set, refl, ap, sym, ◌∙◌, subst, arith}
use Rattle.std.specs.Prelude.{pos, not, ◌&&◌, ◌||◌, filter}
use Rattle.std.specs.Ordering.{int_eq}
use Rattle.std.proofs.lemmas.Option.{get_or_from_slice_get}
use Rattle.cbl_base.specs.declared.input.Change.TheVariants.{Set as SetChange}
use Rattle.cbl_base.specs.declared.input.Input.TheVariants.{Int, Set}
use Rattle.cbl_base.specs.Changes.{edited, AreMembers, AreNoMembers, IsEdit}
use Rattle.cbl_base.specs.Sets.{IsRising, is_member, with_members, without_members}
use Rattle.cbl_base.proofs.SetLemmas.{int_eq-itself, is_member-filter, is_member-set_of, is_member-with_members, is_member-without_members, rising-with_members, rising-without_members, same_set}
use Rattle.cbl_operations.specs.TwoSets.{minus_of}
use Rattle.node_states.specs.Step.{IsStep}

is_member-minus : (v : ℤ) (s t : List ℤ) → is_member v (minus_of s t) ≡ (not (is_member v t) && is_member v s)
is_member-minus v s t = is_member-set_of v (filter (λ w. not (is_member w t)) s) ∙ is_member-filter (λ w. not (is_member w t)) v s

both_sides : (m n : Bool) → (not (not n && m) && ((not m && n) || m)) ≡ n
both_sides false false = refl
both_sides false true = refl
both_sides true false = refl
both_sides true true = refl

lacked : (m n : Bool) → (not m && n) ≡ true → m ≡ false
lacked false n h = refl
lacked true n h = sym h

had : (m n : Bool) → (not m && n) ≡ true → n ≡ true
had false n h = h
had true n h = absurd (grind (arith, h))

here : (v : ℤ) (vs : List ℤ) → is_member v (v ∷ vs) ≡ true
here v vs = let e = int_eq-itself v in grind (arith, e)

later : (v w : ℤ) (vs : List ℤ) → is_member w vs ≡ true → is_member w (v ∷ vs) ≡ true
later v w vs h = or_true (int_eq v w) (is_member w vs) h
  where
    or_true : (a b : Bool) → b ≡ true → (a || b) ≡ true
    or_true true b h = refl
    or_true false b h = h

no_members : (vs s : List ℤ) → ((v : ℤ) → is_member v vs ≡ true → is_member v s ≡ false) → AreNoMembers vs s
no_members [] s h = tt
no_members (v ∷ vs) s h = (h v (here v vs), no_members vs s (λ w m. h w (later v w vs m)))

all_members : (vs s : List ℤ) → ((v : ℤ) → is_member v vs ≡ true → is_member v s ≡ true) → AreMembers vs s
all_members [] s h = tt
all_members (v ∷ vs) s h = (h v (here v vs), all_members vs s (λ w m. h w (later v w vs m)))

becomes : (s t : List ℤ) → IsRising s → IsRising t → without_members (minus_of s t) (with_members (minus_of t s) s) ≡ t
becomes s t up up' =
    let mid = with_members (minus_of t s) s in
    same_set (without_members (minus_of s t) mid) t (rising-without_members (minus_of s t) mid (rising-with_members (minus_of t s) s up)) up' (λ v.
    is_member-without_members v (minus_of s t) mid
    ∙ ap (λ b. not b && is_member v mid) (is_member-minus v s t)
    ∙ ap (λ b. not (not (is_member v t) && is_member v s) && b) (is_member-with_members v (minus_of t s) s)
    ∙ ap (λ b. not (not (is_member v t) && is_member v s) && (b || is_member v s)) (is_member-minus v t s)
    ∙ both_sides (is_member v s) (is_member v t))

pub set_step : (place : ℕ) (s t a r : List ℤ) → IsRising s → IsRising t → a ≡ minus_of t s → r ≡ minus_of s t
    → IsStep place (Set s) (Set t) (SetChange place a r)
set_step place s t a r up up' ea er =
    let is_a : minus_of t s ≡ a = sym ea in
    let is_r : minus_of s t ≡ r = sym er in
    let fits : AreNoMembers a s × AreMembers r s = (
      subst (λ vs. AreNoMembers vs s) is_a (no_members (minus_of t s) s (λ v m. lacked (is_member v s) (is_member v t) (sym (is_member-minus v t s) ∙ m))),
      subst (λ vs. AreMembers vs s) is_r (all_members (minus_of s t) s (λ v m. had (is_member v t) (is_member v s) (sym (is_member-minus v s t) ∙ m))),
    ) in
    let comes : without_members r (with_members a s) ≡ t = ap (λ x. without_members r (with_members x s)) (sym is_a) ∙ ap (λ x. without_members x (with_members (minus_of t s) s)) (sym is_r) ∙ becomes s t up up' in
    record {
      at = refl;
      fits = λ inputs e. subst (λ o. IsEdit a r o) (sym e) fits;
      after = λ inputs e. ap (λ x. set inputs place (edited a r x)) (get_or_from_slice_get inputs place (Set s) (Int (pos 0)) e) ∙ ap (λ u. set inputs place (Set u)) comes;
    }
