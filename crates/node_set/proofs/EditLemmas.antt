-- What changes make of a number and a set, and how many members a set has after a change.
use Rattle.std.proofs.Common.{◌≡◌, ℕ, ◌+◌, zero, suc, ℤ, pos, ◌<ℤ◌, ◌≤◌, Bool, true, false, not, ◌&&◌, inl, inr, List, [], ◌∷◌, length, length-append, Result, Ok, refl, ap, sym, ◌∙◌, subst, arith}
use Rattle.std.specs.Prelude.{Some, slice_get, int_lt}
use Rattle.std.specs.Ordering.{int_eq}
use Rattle.std.proofs.lemmas.Bool.{both_ways}
use Rattle.std.proofs.lemmas.Int.{ints}
use Rattle.cbl_base.specs.Changes.{after_change, after_changes, place_of, IsChange, AreChanges, AreMembers, AreNoMembers}
use Rattle.cbl_base.specs.Sets.{IsBelowAll, IsRising, is_member, below, above, with_member, without_member, with_members, without_members}
use Rattle.cbl_base.specs.declared.input.Input.{Input}
use Rattle.cbl_base.specs.declared.input.Input.TheVariants.{Int, Set}
use Rattle.cbl_base.specs.declared.input.Change.{Change}
use Rattle.cbl_base.specs.declared.input.Change.TheVariants.{Int as IntChange, Set as SetChange}
use Rattle.cbl_base.specs.declared.faults.RunFault.{RunFault}
use Rattle.cbl_operations.specs.Operations.Card.{card}
use Rattle.cbl_operations.specs.Operations.Member.{member}
use Rattle.cbl_operations.specs.Truth.{truth}
use Rattle.cbl_base.proofs.SetLemmas.{int_lt-true, int_lt-false, int_lt-itself, int_eq-itself, int_eq-false, below_equal_above, is_member-with, is_member-without, is_member-with_members, is_member-without_members, rising-without, rising-with_members, absent-below_all}
use Rattle.cbl_base.proofs.InputLemmas.{changes-after_change}
use Rattle.node_set.specs.Edits.{number_after_one, number_after, set_after_one, set_after, is_in_after_one, is_in_after}

-- ---- a number and a set
after_one : (x : ℤ) (s : List ℤ) (c : Change) → IsChange (Int x ∷ Set s ∷ []) c → after_change (Int x ∷ Set s ∷ []) c ≡ Int (number_after_one x c) ∷ Set (set_after_one s c) ∷ []
after_one x s (IntChange zero old new) h = refl
after_one x s (IntChange (suc zero) old new) h = absurd (cc)
after_one x s (IntChange (suc (suc place)) old new) h = absurd (cc)
after_one x s (SetChange zero added removed) h = absurd h
after_one x s (SetChange (suc zero) added removed) h = refl
after_one x s (SetChange (suc (suc place)) added removed) h = absurd h

pub after_all : (x : ℤ) (s : List ℤ) (cs : List Change) → AreChanges (Int x ∷ Set s ∷ []) cs → after_changes (Int x ∷ Set s ∷ []) cs ≡ Int (number_after x cs) ∷ Set (set_after s cs) ∷ []
after_all x s [] h = refl
after_all x s (c ∷ cs) h =
    let next = after_one x s c h.0 in
    ap (λ t. after_changes t cs) next
    ∙ after_all (number_after_one x c) (set_after_one s c) cs (subst (λ t. AreChanges t cs) next (changes-after_change (Int x ∷ Set s ∷ []) c cs h.1 h.2))

in_after_one : (v : ℤ) (s : List ℤ) (c : Change) → is_member v (set_after_one s c) ≡ is_in_after_one v (is_member v s) c
in_after_one v s (IntChange place old new) = refl
in_after_one v s (SetChange place added removed) =
    is_member-without_members v removed (with_members added s) ∙ ap (λ b. not (is_member v removed) && b) (is_member-with_members v added s)

pub in_after : (v : ℤ) (s : List ℤ) (cs : List Change) → is_member v (set_after s cs) ≡ is_in_after v (is_member v s) cs
in_after v s [] = refl
in_after v s (c ∷ cs) = in_after v (set_after_one s c) cs ∙ ap (λ b. is_in_after v b cs) (in_after_one v s c)

-- ---- how many members
beside : (v : ℤ) (s : List ℤ) → is_member v s ≡ false → length (below v s) + length (above v s) ≡ length s
beside v [] h = refl
beside v (x ∷ s) h =
    elim (below_equal_above x v) [
      | inl lt ↦
          let low = int_lt-true x v lt in
          let high = int_lt-false v x (λ gt. omega (arith, ints, lt, gt)) in
          let later = beside v s (grind (arith, h)) in
          grind (arith, low, high, later)
      | inr (inl e) ↦ absurd (both_ways _ h (let at = (subst (λ z. int_eq z v ≡ true) (sym e) (int_eq-itself v)) in grind (arith, at)))
      | inr (inr gt) ↦
          let low = int_lt-false x v (λ lt. omega (arith, ints, lt, gt)) in
          let high = int_lt-true v x gt in
          let later = beside v s (grind (arith, h)) in
          grind (arith, low, high, later)
    ]

pub length-with : (v : ℤ) (s : List ℤ) → is_member v s ≡ false → length (with_member v s) ≡ length s + 1
length-with v s h = omega (arith, beside v s h, length-append (below v s) (v ∷ above v s))

beside_it : (v : ℤ) (s : List ℤ) → IsRising s → is_member v s ≡ true → length (below v s) + length (above v s) + 1 ≡ length s
beside_it v [] up h = absurd (both_ways _ refl h)
beside_it v (x ∷ s) up h =
    elim (below_equal_above x v) [
      | inl lt ↦
          let low = int_lt-true x v lt in
          let high = int_lt-false v x (λ gt. omega (arith, ints, lt, gt)) in
          let other = int_eq-false x v (λ e. omega (arith, ints, lt, e)) in
          let later = beside_it v s up.1 (grind (arith, h, other)) in
          grind (arith, low, high, later)
      | inr (inl e) ↦
          let low : int_lt x v ≡ false = subst (λ z. int_lt z v ≡ false) (sym e) (int_lt-itself v) in
          let high : int_lt v x ≡ false = subst (λ z. int_lt v z ≡ false) (sym e) (int_lt-itself v) in
          let gone : is_member v s ≡ false = subst (λ z. is_member z s ≡ false) e (absent-below_all x s up.0) in
          let later = beside v s gone in
          grind (arith, low, high, later)
      | inr (inr gt) ↦
          let other = int_eq-false x v (λ e. omega (arith, ints, gt, e)) in
          absurd (both_ways _ (absent-below_all v (x ∷ s) (gt, further v x s gt up.0)) h)
    ]
  where
    further : (a b : ℤ) (ys : List ℤ) → a <ℤ b → IsBelowAll b ys → IsBelowAll a ys
    further a b [] lt all = tt
    further a b (y ∷ ys) lt all = (omega (arith, ints, lt, all.0), further a b ys lt all.1)

pub length-without : (v : ℤ) (s : List ℤ) → IsRising s → is_member v s ≡ true → length (without_member v s) + 1 ≡ length s
length-without v s up h = omega (arith, beside_it v s up h, length-append (below v s) (above v s))

-- members that come are new one after the other
still_new : (v : ℤ) (vs s : List ℤ) → IsBelowAll v vs → AreNoMembers vs s → AreNoMembers vs (with_member v s)
still_new v [] s low h = tt
still_new v (w ∷ vs) s low h =
    let at = is_member-with w v s in
    let other = int_eq-false v w (λ e. omega (arith, ints, low.0, e)) in
    (grind (arith, at, other, h.0), still_new v vs s low.1 h.1)

length-with_members : (vs s : List ℤ) → IsRising vs → AreNoMembers vs s → length (with_members vs s) ≡ length s + length vs
length-with_members [] s up h = omega arith
length-with_members (v ∷ vs) s up h =
    omega (arith, length-with_members vs (with_member v s) up.1 (still_new v vs s up.0 h.1), length-with v s h.0)

-- and those that go are there one after the other
still_there : (v : ℤ) (vs s : List ℤ) → IsBelowAll v vs → AreMembers vs s → AreMembers vs (without_member v s)
still_there v [] s low h = tt
still_there v (w ∷ vs) s low h =
    let at = is_member-without w v s in
    let other = int_eq-false v w (λ e. omega (arith, ints, low.0, e)) in
    (grind (arith, at, other, h.0), still_there v vs s low.1 h.1)

length-without_members : (vs s : List ℤ) → IsRising vs → IsRising s → AreMembers vs s → length (without_members vs s) + length vs ≡ length s
length-without_members [] s up rising h = omega arith
length-without_members (v ∷ vs) s up rising h =
    omega (arith, length-without_members vs (without_member v s) up.1 (rising-without v s rising) (still_there v vs s up.0 h.1), length-without v s rising h.0)

there_after : (vs ws s : List ℤ) → AreMembers vs s → AreMembers vs (with_members ws s)
there_after [] ws s h = tt
there_after (v ∷ vs) ws s h =
    let at = is_member-with_members v ws s in
    let here = h.0 in
    (grind (arith, at, here), there_after vs ws s h.1)

pub length-edited : (added removed s : List ℤ) → IsRising added → IsRising removed → IsRising s → AreNoMembers added s → AreMembers removed s
    → length (without_members removed (with_members added s)) + length removed ≡ length s + length added
length-edited added removed s up_added up_removed rising new there =
    let more = length-with_members added s up_added new in
    let less = length-without_members removed (with_members added s) up_removed (rising-with_members added s rising) (there_after removed added s there) in
    omega (arith, more, less)

-- ---- what a probe finds
pub member_probed : (x : ℤ) (s : List ℤ) (cs : List Change) (number : ℤ) (before is_in : Bool) → AreChanges (Int x ∷ Set s ∷ []) cs → number ≡ number_after x cs → before ≡ is_member number s → is_in ≡ is_in_after number before cs
    → member.value (after_changes (Int x ∷ Set s ∷ []) cs) ≡ Ok (Int (truth is_in))
member_probed x s cs number before is_in h is_number is_before is_after =
    let ends = in_after number s cs ∙ ap (λ b. is_in_after number b cs) (sym is_before) ∙ sym is_after in
    ap member.value (after_all x s cs h)
    ∙ ap (λ v. member.value (Int v ∷ Set (set_after s cs) ∷ [])) (sym is_number)
    ∙ ap ok_truth ends
  where
    ok_truth : Bool → Result Input RunFault
    ok_truth b = Ok (Int (truth b))

-- the one change of a set
pub card_probed : (s : List ℤ) (cs : List Change) (place : ℕ) (added removed : List ℤ) → AreChanges (Set s ∷ []) cs → slice_get cs 0 ≡ Some (SetChange place added removed)
    → (AreNoMembers added s × AreMembers removed s) × (after_changes (Set s ∷ []) cs ≡ Set (without_members removed (with_members added s)) ∷ [])
card_probed s [] place added removed h first = absurd cc
card_probed s (c ∷ []) place added removed h first = here c place h.0 (cc)
  where
    here : (c : Change) (place : ℕ) → IsChange (Set s ∷ []) c → c ≡ SetChange place added removed
        → (AreNoMembers added s × AreMembers removed s) × (after_change (Set s ∷ []) c ≡ Set (without_members removed (with_members added s)) ∷ [])
    here c zero is e = (subst (λ d. IsChange (Set s ∷ []) d) e is, ap (after_change (Set s ∷ [])) e)
    here c (suc place) is e = absurd (subst (λ d. IsChange (Set s ∷ []) d) e is)
card_probed s (c ∷ d ∷ cs) place added removed h first = absurd (two c d h.0 h.2.0 h.1.0)
  where
    at_zero : (c : Change) → IsChange (Set s ∷ []) c → place_of c ≡ 0
    at_zero (IntChange zero old new) is = refl
    at_zero (IntChange (suc place) old new) is = absurd cc
    at_zero (SetChange zero added removed) is = refl
    at_zero (SetChange (suc place) added removed) is = absurd is

    two : (c d : Change) → IsChange (Set s ∷ []) c → IsChange (Set s ∷ []) d → (place_of d ≡ place_of c → ⊥) → ⊥
    two c d is is' ne = ne (at_zero d is' ∙ sym (at_zero c is))

pub card_after : (s : List ℤ) (cs : List Change) (place : ℕ) (added removed : List ℤ) (n : ℕ) → AreChanges (Set s ∷ []) cs → slice_get cs 0 ≡ Some (SetChange place added removed) → IsRising s → IsRising added → IsRising removed
    → n + length removed ≡ length s + length added → card.value (after_changes (Set s ∷ []) cs) ≡ Ok (Int (pos n))
card_after s cs place added removed n h first up up_added up_removed is_n =
    let found = card_probed s cs place added removed h first in
    let after = without_members removed (with_members added s) in
    let many = length-edited added removed s up_added up_removed up found.0.0 found.0.1 in
    let same : length after ≡ n = omega (arith, many, is_n) in
    ap card.value found.1 ∙ ap ok_number same
  where
    ok_number : ℕ → Result Input RunFault
    ok_number k = Ok (Int (pos k))

-- no more members go than there are
pub card_enough : (s : List ℤ) (cs : List Change) (place : ℕ) (added removed : List ℤ) → AreChanges (Set s ∷ []) cs → slice_get cs 0 ≡ Some (SetChange place added removed) → IsRising s → IsRising added → IsRising removed
    → length removed ≤ length s + length added
card_enough s cs place added removed h first up up_added up_removed =
    let found = card_probed s cs place added removed h first in
    omega (arith, length-edited added removed s up_added up_removed up found.0.0 found.0.1)
