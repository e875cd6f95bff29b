-- The keys whose number is 1, after the number at one place became another.
use Rattle.std.proofs.Common.{◌≡◌, ℕ, zero, suc, ◌+◌, ◌<◌, ◌≤◌, ◌^◌, ℤ, pos, Bool, true, false, inl, inr, List, [], ◌∷◌, length, get_or, set, take, map, Result, Ok, ap, sym, ◌∙◌, arith}
use Rattle.std.specs.Prelude.{filter, zip}
use Rattle.std.specs.Ordering.{int_eq}
use Rattle.std.proofs.lemmas.Bool.{cases_Bool, cond-true, cond-false}
use Rattle.cbl_base.specs.Counts.{count_of}
use Rattle.cbl_base.specs.Inputs.{as_inputs}
use Rattle.cbl_base.specs.Sets.{set_of}
use Rattle.cbl_base.specs.declared.input.Input.{Input}
use Rattle.cbl_base.specs.declared.input.Input.TheVariants.{Set}
use Rattle.cbl_base.specs.declared.faults.RunFault.{RunFault}
use Rattle.cbl_base.proofs.InputLemmas.{numbers_of-as_inputs}
use Rattle.cbl_operations.specs.Operations.SetOf.{set_of_ones}
use Rattle.cbl_base.proofs.CountLemmas.{count_of-cons, count_of-le-length}
use Rattle.cbl_base.proofs.SetLemmas.{int_eq-itself}
use Rattle.cbl_operations.specs.SetForms.{keys_where}
use Rattle.cbl_operations.specs.Truth.{is_one}
use Rattle.node_base.specs.KeptCounts.{times_kept}
use Rattle.node_set.specs.Bags.{one_where, IsBagOf, IsChangedBy}
use Rattle.node_set.specs.declared.key_bag.KeyBag.{KeyBag}

-- the first key and its number, and the others
count_where : (q k x : ℤ) (ks xs : List ℤ) → count_of q (keys_where is_one (k ∷ ks) (x ∷ xs)) ≡ one_where (is_one x) k q + count_of q (keys_where is_one ks xs)
count_where q k x ks xs =
    let pairs = filter (λ pair. is_one pair.1) (zip ks xs) in
    elim (cases_Bool (is_one x)) [
      | inl e ↦
          let first = ap (λ t. count_of q (map (λ pair. pair.0) t)) (cond-true (is_one x) ((k, x) ∷ pairs) pairs e) in
          first ∙ count_of-cons q k (keys_where is_one ks xs) ∙ ap (λ b. one_where b k q + count_of q (keys_where is_one ks xs)) (sym e)
      | inr e ↦
          let first = ap (λ t. count_of q (map (λ pair. pair.0) t)) (cond-false (is_one x) ((k, x) ∷ pairs) pairs e) in
          let none = ap (λ b. one_where b k q) e in
          omega (arith, first, none)
    ]

-- another number at a place
pub changed_where : (keys xs : List ℤ) (p : ℕ) (n : ℤ) → length xs ≡ length keys → p < length xs
    → IsChangedBy (get_or keys p (pos 0)) (is_one (get_or xs p (pos 0))) (is_one n) (keys_where is_one keys xs) (keys_where is_one keys (set xs p n))
changed_where [] [] p n same lt q = absurd (omega arith)
changed_where [] (x ∷ xs) p n same lt q = absurd (omega arith)
changed_where (k ∷ ks) [] p n same lt q = absurd (omega arith)
changed_where (k ∷ ks) (x ∷ xs) zero n same lt q = omega (arith, count_where q k x ks xs, count_where q k n ks xs)
changed_where (k ∷ ks) (x ∷ xs) (suc p) n same lt q =
    let later = changed_where ks xs p n (omega arith) (omega arith) q in
    omega (arith, count_where q k x ks xs, count_where q k x ks (set xs p n), later)

-- one more key and its number
pub more_where : (keys xs : List ℤ) (i : ℕ) → length xs ≡ length keys → i < length keys
    → IsChangedBy (get_or keys i (pos 0)) false (is_one (get_or xs i (pos 0))) (keys_where is_one (take i keys) (take i xs)) (keys_where is_one (take (i + 1) keys) (take (i + 1) xs))
more_where [] [] i same lt q = absurd (omega arith)
more_where [] (x ∷ xs) i same lt q = absurd (omega arith)
more_where (k ∷ ks) [] i same lt q = absurd (omega arith)
more_where (k ∷ ks) (x ∷ xs) zero same lt q = omega (arith, count_where q k x [] [])
more_where (k ∷ ks) (x ∷ xs) (suc i) same lt q =
    let later = more_where ks xs i (omega arith) (omega arith) q in
    let step : suc i + 1 ≡ suc (i + 1) = omega arith in
    rw step (omega (arith, count_where q k x (take i ks) (take i xs), count_where q k x (take (i + 1) ks) (take (i + 1) xs), later))

-- a key whose number is 1 stands there
pub stood_where : (keys xs : List ℤ) (p : ℕ) → length xs ≡ length keys → p < length xs → is_one (get_or xs p (pos 0)) ≡ true → 0 < count_of (get_or keys p (pos 0)) (keys_where is_one keys xs)
stood_where keys xs p same lt e =
    let key = get_or keys p (pos 0) in
    let less = changed_where keys xs p (pos 0) same lt key in
    let one : one_where (is_one (get_or xs p (pos 0))) key key ≡ 1 = ap (λ b. one_where b key key) e ∙ cond-true (int_eq key key) 1 0 (int_eq-itself key) in
    omega (arith, less, one)

-- no more keys than there are
length-keys_where : (keys xs : List ℤ) → length (keys_where is_one keys xs) ≤ length keys
length-keys_where [] [] = omega arith
length-keys_where [] (x ∷ xs) = omega arith
length-keys_where (k ∷ ks) [] = omega arith
length-keys_where (k ∷ ks) (x ∷ xs) =
    let later = length-keys_where ks xs in
    elim (cases_Bool (is_one x)) [ inl e ↦ grind (arith, later, e) | inr e ↦ grind (arith, later, e) ]

pub few_where : (bag : KeyBag) (keys xs : List ℤ) (q : ℤ) → IsBagOf bag (keys_where is_one keys xs) → length keys < 2 ^ 63 → times_kept bag.counts q + 1 < 2 ^ 64
few_where bag keys xs q is short =
    let here = is.counts q in
    let most = count_of-le-length q (keys_where is_one keys xs) in
    let all = length-keys_where keys xs in
    omega (arith, here, most, all, short)

-- the set of the keys is the value
pub kept_value : (keys xs : List ℤ) (held : List Input) (bag : KeyBag) (kept : Input) → as_inputs xs ≡ held → IsBagOf bag (keys_where is_one keys xs) → kept ≡ bag.kept → (set_of_ones keys).value held ≡ Ok kept
kept_value keys xs held bag kept same is at =
    ap (λ t. (set_of_ones keys).value t) (sym same) ∙ ap (λ ys. set_value ys) (numbers_of-as_inputs xs) ∙ ap (λ k. ok k) (sym (at ∙ is.kept))
  where
    ok : Input → Result Input RunFault
    ok k = Ok k

    set_value : List ℤ → Result Input RunFault
    set_value ys = Ok (Set (set_of (keys_where is_one keys ys)))

-- ---- what a bag of the keys whose number is 1 needs, and is, where a number becomes another
pub stood_turn : (bag : KeyBag) (keys xs : List ℤ) (p : ℕ) (old key : ℤ) (was : Bool) → IsBagOf bag (keys_where is_one keys xs) → length xs ≡ length keys → p < length xs → get_or xs p (pos 0) ≡ old
    → key ≡ get_or keys p (pos 0) → was ≡ is_one old → was ≡ true → 0 < times_kept bag.counts key
stood_turn bag keys xs p old key was is same lt there at is_was counts =
    let here : is_one (get_or xs p (pos 0)) ≡ true = ap is_one there ∙ sym is_was ∙ counts in
    rw at (let stood = stood_where keys xs p same lt here in let count = is.counts (get_or keys p (pos 0)) in omega (arith, stood, count))

pub next_turn : (before after : KeyBag) (keys xs : List ℤ) (p : ℕ) (old new key : ℤ) (was is : Bool) → ((ys zs : List ℤ) → IsBagOf before ys → IsChangedBy key was is ys zs → IsBagOf after zs)
    → IsBagOf before (keys_where is_one keys xs) → length xs ≡ length keys → p < length xs → get_or xs p (pos 0) ≡ old → key ≡ get_or keys p (pos 0) → was ≡ is_one old → is ≡ is_one new
    → IsBagOf after (keys_where is_one keys (set xs p new))
next_turn before after keys xs p old new key was is step held same lt there at is_was is_is =
    let by = changed_where keys xs p new same lt in
    step (keys_where is_one keys xs) (keys_where is_one keys (set xs p new)) held (rw (at, is_was, is_is, ← there) by)

pub more_turn : (before after : KeyBag) (keys xs : List ℤ) (i : ℕ) (key : ℤ) (is : Bool) → ((ys zs : List ℤ) → IsBagOf before ys → IsChangedBy key false is ys zs → IsBagOf after zs)
    → IsBagOf before (keys_where is_one (take i keys) (take i xs)) → length xs ≡ length keys → i < length keys → key ≡ get_or keys i (pos 0) → is ≡ is_one (get_or xs i (pos 0))
    → IsBagOf after (keys_where is_one (take (i + 1) keys) (take (i + 1) xs))
more_turn before after keys xs i key is step held same lt at is_is =
    step (keys_where is_one (take i keys) (take i xs)) (keys_where is_one (take (i + 1) keys) (take (i + 1) xs)) held (rw (at, is_is) (more_where keys xs i same lt))
