-- The members of the sets that operations give.
use Rattle.std.proofs.Common.{◌≡◌, ℤ, Bool, true, false, ◌||◌, ◌&&◌, List, ◌++◌, refl, ◌∙◌, subst}
use Rattle.std.specs.Prelude.{filter}
use Rattle.cbl_base.specs.Sets.{IsRising, is_member, set_of}
use Rattle.cbl_base.proofs.SetLemmas.{is_member-set_of, is_member-append, is_member-filter, rising-set_of}

-- a set that has exactly the members that pass
abbrev pub HasMembers : (ℤ → Bool) → List ℤ → Type 0
HasMembers p u = IsRising u × ((v : ℤ) → is_member v u ≡ p v)

pub of_either : (s t u : List ℤ) → set_of (s ++ t) ≡ u → HasMembers (λ v. is_member v s || is_member v t) u
of_either s t u e =
    subst (λ w. HasMembers (λ v. is_member v s || is_member v t) w) e
    (rising-set_of (s ++ t), λ v. is_member-set_of v (s ++ t) ∙ is_member-append v s t)

and_comm : (a b : Bool) → (a && b) ≡ (b && a)
and_comm true true = refl
and_comm true false = refl
and_comm false true = refl
and_comm false false = refl

pub of_those : (p : ℤ → Bool) (s u : List ℤ) → set_of (filter p s) ≡ u → HasMembers (λ v. is_member v s && p v) u
of_those p s u e =
    subst (λ w. HasMembers (λ v. is_member v s && p v) w) e
    (rising-set_of (filter p s), λ v. is_member-set_of v (filter p s) ∙ is_member-filter p v s ∙ and_comm (p v) (is_member v s))
