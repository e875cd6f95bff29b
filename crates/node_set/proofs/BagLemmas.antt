-- A bag after one of its numbers came or went.
use Rattle.std.proofs.Common.{◌≡◌, ◌≢◌, ℕ, ◌+◌, ◌==◌, ℤ, Bool, true, false, not, ◌&&◌, ◌||◌, nat_lt, inl, inr, List, ap, sym, ◌∙◌, subst, arith}
use Rattle.std.specs.Prelude.{if◌then◌else◌, OnOk, Result, Ok, Err}
use Rattle.std.specs.Ordering.{int_eq}
use Rattle.std.proofs.lemmas.Bool.{both_ways, cases_Bool, cond-true, cond-false}
use Rattle.std.proofs.lemmas.Bool.Decides.{nat_tests}
use Rattle.cbl_base.specs.Counts.{count_of}
use Rattle.cbl_base.specs.Sets.{is_member, set_of, with_member, without_member}
use Rattle.cbl_base.specs.declared.input.Input.{Input}
use Rattle.cbl_base.specs.declared.input.Input.TheVariants.{Set}
use Rattle.cbl_base.proofs.CountLemmas.{count_of-absent, count_of-member}
use Rattle.cbl_base.proofs.SetLemmas.{int_eq-true, is_member-with, is_member-without, is_member-set_of, rising-set_of, rising-with, rising-without, same_set}
use Rattle.node_base.specs.KeptCounts.{times_kept}
use Rattle.node_set.specs.Bags.{one_where, IsBagOf, IsChangedBy}
use Rattle.node_set.specs.Placing.{placed_in}
use Rattle.node_set.specs.declared.key_bag.KeyBag.{KeyBag}

stands : (v : ℤ) (xs : List ℤ) → is_member v xs ≡ nat_lt 0 (count_of v xs)
stands v xs =
    elim (cases_Bool (is_member v xs)) [
      | inl e ↦ let some = count_of-member v xs e in grind (arith, nat_tests, e, some)
      | inr e ↦ let none = count_of-absent v xs e in grind (arith, nat_tests, e, none)
    ]

-- the sets of two lists are the same where each number stands in both or in none
same_sets : (xs ys : List ℤ) → ((q : ℤ) → count_of q ys ≡ count_of q xs) → set_of xs ≡ set_of ys
same_sets xs ys same =
    same_set (set_of xs) (set_of ys) (rising-set_of xs) (rising-set_of ys)
    (λ v. is_member-set_of v xs ∙ stands v xs ∙ ap (nat_lt 0) (sym (same v)) ∙ sym (stands v ys) ∙ sym (is_member-set_of v ys))

pub bag_stays : (bag : KeyBag) (xs ys : List ℤ) → IsBagOf bag xs → ((q : ℤ) → count_of q ys ≡ count_of q xs) → IsBagOf bag ys
bag_stays bag xs ys is same = record { counts = λ q. is.counts q ∙ sym (same q); kept = is.kept ∙ ap Set (same_sets xs ys same) }

-- ---- one more of a key
more_set : (key : ℤ) (xs ys : List ℤ) → ((q : ℤ) → count_of q ys ≡ count_of q xs + one_where true key q) → with_member key (set_of xs) ≡ set_of ys
more_set key xs ys more =
    same_set (with_member key (set_of xs)) (set_of ys) (rising-with key (set_of xs) (rising-set_of xs)) (rising-set_of ys)
    (λ v. is_member-with v key (set_of xs) ∙ ap (λ b. int_eq key v || b) (is_member-set_of v xs ∙ stands v xs) ∙ at v ∙ sym (stands v ys) ∙ sym (is_member-set_of v ys))
  where
    at : (v : ℤ) → (int_eq key v || nat_lt 0 (count_of v xs)) ≡ nat_lt 0 (count_of v ys)
    at v =
        let here = more v in
        elim (cases_Bool (int_eq key v)) [ inl e ↦ grind (arith, nat_tests, here, e) | inr e ↦ grind (arith, nat_tests, here, e) ]

pub bag_more : (old new : KeyBag) (key : ℤ) (xs ys : List ℤ) → ((q : ℤ) → times_kept new.counts q ≡ times_kept old.counts q + one_where true key q) → new.kept ≡ placed_in key true old.kept
    → IsBagOf old xs → IsChangedBy key false true xs ys → IsBagOf new ys
bag_more old new key xs ys counts kept is by =
    let more : (q : ℤ) → count_of q ys ≡ count_of q xs + one_where true key q = λ q. grind (arith, by q) in
    record {
      counts = λ q. counts q ∙ ap (λ n. n + one_where true key q) (is.counts q) ∙ sym (more q);
      kept = kept ∙ ap (placed_in key true) is.kept ∙ ap Set (more_set key xs ys more);
    }

-- ---- one less of a key
one_here : (key : ℤ) → one_where true key key ≡ 1
one_here key = cond-true (int_eq key key) 1 0 (Rattle.cbl_base.proofs.SetLemmas.int_eq-itself key)

less_set : (key : ℤ) (xs ys : List ℤ) → count_of key xs ≡ 1 → ((q : ℤ) → count_of q ys + one_where true key q ≡ count_of q xs) → without_member key (set_of xs) ≡ set_of ys
less_set key xs ys last less =
    same_set (without_member key (set_of xs)) (set_of ys) (rising-without key (set_of xs) (rising-set_of xs)) (rising-set_of ys)
    (λ v. is_member-without v key (set_of xs) ∙ ap (λ b. not (int_eq key v) && b) (is_member-set_of v xs ∙ stands v xs) ∙ at v ∙ sym (stands v ys) ∙ sym (is_member-set_of v ys))
  where
    at : (v : ℤ) → (not (int_eq key v) && nat_lt 0 (count_of v xs)) ≡ nat_lt 0 (count_of v ys)
    at v =
        let here = less v in
        elim (cases_Bool (int_eq key v)) [
          | inl e ↦
              let one : count_of v xs ≡ 1 = subst (λ z. count_of z xs ≡ 1) (int_eq-true key v e) last in
              grind (arith, nat_tests, here, one, e)
          | inr e ↦ grind (arith, nat_tests, here, e)
        ]

-- where others of the key are left the set stays
left_set : (key : ℤ) (xs ys : List ℤ) → count_of key xs ≢ 1 → ((q : ℤ) → count_of q ys + one_where true key q ≡ count_of q xs) → set_of xs ≡ set_of ys
left_set key xs ys others less =
    same_set (set_of xs) (set_of ys) (rising-set_of xs) (rising-set_of ys)
    (λ v. is_member-set_of v xs ∙ stands v xs ∙ at v ∙ sym (stands v ys) ∙ sym (is_member-set_of v ys))
  where
    at : (v : ℤ) → nat_lt 0 (count_of v xs) ≡ nat_lt 0 (count_of v ys)
    at v =
        let here = less v in
        elim (cases_Bool (int_eq key v)) [
          | inl e ↦
              let more : count_of v xs ≢ 1 = subst (λ z. count_of z xs ≢ 1) (int_eq-true key v e) others in
              grind (arith, nat_tests, here, more, e)
          | inr e ↦ grind (arith, nat_tests, here, e)
        ]

pub kept_without : (n m : ℕ) (key : ℤ) (a b : Input) → n ≡ m → (n ≡ 1 → ⊥) → b ≡ (if m == 1 then a else b)
kept_without n m key a b same other =
    let no : (m == 1) ≡ false = grind (arith, nat_tests, same, other) in
    sym (cond-false (m == 1) a b no)

pub bag_less : (old new : KeyBag) (key : ℤ) (xs ys : List ℤ) → ((q : ℤ) → times_kept new.counts q + one_where true key q ≡ times_kept old.counts q)
    → new.kept ≡ (if times_kept old.counts key == 1 then placed_in key false old.kept else old.kept) → IsBagOf old xs → IsChangedBy key true false xs ys → IsBagOf new ys
bag_less old new key xs ys counts kept is by =
    let less : (q : ℤ) → count_of q ys + one_where true key q ≡ count_of q xs = λ q. grind (arith, by q) in
    record {
      counts = λ q. let now = counts q in let was = is.counts q in let then_ = less q in omega (arith, now, was, then_);
      kept = elim (cases_Bool (times_kept old.counts key == 1)) [
        | inl e ↦
            let one : count_of key xs ≡ 1 = sym (is.counts key) ∙ grind (arith, nat_tests, e) in
            kept ∙ cond-true (times_kept old.counts key == 1) (placed_in key false old.kept) old.kept e ∙ ap (placed_in key false) is.kept ∙ ap Set (less_set key xs ys one less)
        | inr e ↦
            let others : count_of key xs ≢ 1 = λ one. both_ways (times_kept old.counts key == 1) e (let at = is.counts key ∙ one in grind (arith, nat_tests, at)) in
            kept ∙ cond-false (times_kept old.counts key == 1) (placed_in key false old.kept) old.kept e ∙ is.kept ∙ ap Set (left_set key xs ys others less)
      ];
    }

-- a change that changes nothing
pub bag_unchanged : (bag : KeyBag) (key : ℤ) (was is : Bool) (xs ys : List ℤ) → was ≡ is → IsBagOf bag xs → IsChangedBy key was is xs ys → IsBagOf bag ys
bag_unchanged bag key was is xs ys same held by =
    bag_stays bag xs ys held (λ q. let here = by q in let at = ap (λ b. one_where b key q) same in omega (arith, here, at))

-- ---- of what a call ensures where it answers Ok
on_ok_two : {T E A B C : Type 0} (r : Result T E) → (A → B → C) → OnOk r A → OnOk r B → OnOk r C
on_ok_two (Ok x) f a b = f a b
on_ok_two (Err e) f a b = tt

pub changed_more : {T E : Type 0} (r : Result T E) (old new : KeyBag) (key : ℤ) (was is : Bool) → was ≡ false → is ≡ true
    → OnOk r ((q : ℤ) → times_kept new.counts q ≡ times_kept old.counts q + one_where true key q) → OnOk r (new.kept ≡ placed_in key true old.kept)
    → OnOk r ((xs ys : List ℤ) → IsBagOf old xs → IsChangedBy key was is xs ys → IsBagOf new ys)
changed_more r old new key was is e f counts kept =
    rw (e, f) (on_ok_two r (λ (n : (q : ℤ) → times_kept new.counts q ≡ times_kept old.counts q + one_where true key q) (k : new.kept ≡ placed_in key true old.kept) xs ys. bag_more old new key xs ys n k) counts kept)

pub changed_less : {T E : Type 0} (r : Result T E) (old new : KeyBag) (key : ℤ) (was is : Bool) → was ≡ true → is ≡ false
    → OnOk r ((q : ℤ) → times_kept new.counts q + one_where true key q ≡ times_kept old.counts q)
    → OnOk r (new.kept ≡ (if times_kept old.counts key == 1 then placed_in key false old.kept else old.kept))
    → OnOk r ((xs ys : List ℤ) → IsBagOf old xs → IsChangedBy key was is xs ys → IsBagOf new ys)
changed_less r old new key was is e f counts kept =
    rw (e, f) (on_ok_two r (λ (n : (q : ℤ) → times_kept new.counts q + one_where true key q ≡ times_kept old.counts q) (k : new.kept ≡ (if times_kept old.counts key == 1 then placed_in key false old.kept else old.kept)) xs ys. bag_less old new key xs ys n k) counts kept)
