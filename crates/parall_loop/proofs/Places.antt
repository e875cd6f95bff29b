-- Outcomes that are put into their places.
use Rattle.std.proofs.Common.{◌≡◌, ◌≢◌, ℕ, zero, suc, ◌+◌, ◌<◌, List, [], ◌∷◌, ◌++◌, length, map, set, refl, ap, sym, subst, ◌∙◌, arith, Option, Some, None}
use Rattle.std.specs.Prelude.{slice_get}
use Rattle.std.specs.List.{AllByRecursion}
use Rattle.std.specs.Option.{option_to_list}
use Rattle.std.proofs.lemmas.List.{length-set}
use native.Mathlib.Decide.{ℕ_discrete}
use Rattle.iter_claim.specs.Numbers.{times}
use Rattle.parall_loop.specs.Runs.{put_into, filled}
use Rattle.parall_loop.proofs.Numbers.{times_here, times_else}

get_set_same : {X : Type 0} (xs : List X) (i : ℕ) (y : X) → i < length xs → slice_get (set xs i y) i ≡ Some y
get_set_same [] i y small = absurd (omega arith)
get_set_same (z ∷ zs) zero y small = refl
get_set_same (z ∷ zs) (suc i) y small = get_set_same zs i y (omega arith)

get_set_other : {X : Type 0} (xs : List X) (i j : ℕ) (y : X) → i ≢ j → slice_get (set xs i y) j ≡ slice_get xs j
get_set_other [] i j y ne = refl
get_set_other (z ∷ zs) zero zero y ne = absurd (ne refl)
get_set_other (z ∷ zs) zero (suc j) y ne = refl
get_set_other (z ∷ zs) (suc i) zero y ne = refl
get_set_other (z ∷ zs) (suc i) (suc j) y ne = get_set_other zs i j y (λ e. ne (ap suc e))

module _ {T : Type 0} where
  abbrev firsts : List (ℕ × T) → List ℕ
  firsts xs = map (λ x. x.0) xs

  pub put_append : (places : List (Option T)) (xs ys : List (ℕ × T)) → put_into places (xs ++ ys) ≡ put_into (put_into places xs) ys
  put_append places [] ys = refl
  put_append places (x ∷ xs) ys = put_append (set places x.0 (Some x.1)) xs ys

  pub put_length : (places : List (Option T)) (xs : List (ℕ × T)) → length (put_into places xs) ≡ length places
  put_length places [] = refl
  put_length places (x ∷ xs) = put_length (set places x.0 (Some x.1)) xs ∙ length-set places x.0 (Some x.1)

  put_other : (k : ℕ) (places : List (Option T)) (xs : List (ℕ × T)) → times k (firsts xs) ≡ 0 → slice_get (put_into places xs) k ≡ slice_get places k
  put_other k places [] none = refl
  put_other k places (x ∷ xs) none = cases (ℕ_discrete x.0 k) (put_other k (set places x.0 (Some x.1)) xs)
    where
      cases : Dec (x.0 ≡ k) → (times k (firsts xs) ≡ 0 → slice_get (put_into (set places x.0 (Some x.1)) xs) k ≡ slice_get (set places x.0 (Some x.1)) k) → slice_get (put_into (set places x.0 (Some x.1)) xs) k ≡ slice_get places k
      cases (yes is) rest = let h : times k (x.0 ∷ firsts xs) ≡ 1 + times k (firsts xs) = times_here k x.0 (firsts xs) is in absurd (omega arith)
      cases (no ne) rest = rest (sym (times_else k x.0 (firsts xs) ne) ∙ none) ∙ get_set_other places x.0 k (Some x.1) ne

  -- where a number stands among the outcomes, its place has one of them
  pub put_gives : (P : ℕ × T → Type 0) (k : ℕ) (places : List (Option T)) (xs : List (ℕ × T)) → k < length places → 0 < times k (firsts xs) → AllByRecursion P xs
      → (x : ℕ × T) × P x × (x.0 ≡ k) × (slice_get (put_into places xs) k ≡ Some (Some x.1))
  put_gives P k places [] small some each = absurd (omega arith)
  put_gives P k places (x ∷ xs) small some each = cases (ℕ_discrete (times k (firsts xs)) 0) (ℕ_discrete x.0 k) (λ s m. put_gives P k (set places x.0 (Some x.1)) xs s m each.1)
    where
      cases : Dec (times k (firsts xs) ≡ 0) → Dec (x.0 ≡ k)
          → (k < length (set places x.0 (Some x.1)) → 0 < times k (firsts xs) → (y : ℕ × T) × P y × (y.0 ≡ k) × (slice_get (put_into (set places x.0 (Some x.1)) xs) k ≡ Some (Some y.1)))
          → (y : ℕ × T) × P y × (y.0 ≡ k) × (slice_get (put_into (set places x.0 (Some x.1)) xs) k ≡ Some (Some y.1))
      cases (yes none) (yes is) rest = (x, each.0, is, put_other k (set places x.0 (Some x.1)) xs none ∙ subst (λ i. slice_get (set places x.0 (Some x.1)) i ≡ Some (Some x.1)) is (get_set_same places x.0 (Some x.1) (let h : k < length places = small in omega arith)))
      cases (yes none) (no ne) rest = let h : times k (x.0 ∷ firsts xs) ≡ times k (firsts xs) = times_else k x.0 (firsts xs) ne in absurd (omega arith)
      cases (no some_more) d rest = rest (let h : length (set places x.0 (Some x.1)) ≡ length places = length-set places x.0 (Some x.1) in omega arith) (omega arith)

  not_empty : (places : List (Option T)) → ((k : ℕ) → k < length (None ∷ places) → (t : T) × (slice_get (None ∷ places) k ≡ Some (Some t))) → ⊥
  not_empty places all = let x = all 0 (omega arith) in let h : ◌≡◌ {A = Option (Option T)} (Some None) (Some (Some x.0)) = x.1 in cc

  -- where every place is filled, the list of what is in them has it in the same order
  pub filled_length : (places : List (Option T)) → ((k : ℕ) → k < length places → (t : T) × (slice_get places k ≡ Some (Some t))) → length (filled places) ≡ length places
  filled_length [] all = refl
  filled_length (None ∷ places) all = absurd (not_empty places all)
  filled_length (Some x ∷ places) all = ap suc (filled_length places (λ k small. all (suc k) (omega arith)))

  pub filled_get : (places : List (Option T)) → ((k : ℕ) → k < length places → (t : T) × (slice_get places k ≡ Some (Some t))) → (k : ℕ) (t : T) → slice_get (filled places) k ≡ Some t → slice_get places k ≡ Some (Some t)
  filled_get [] all k t e = let c : None ≡ Some t = e in cc
  filled_get (None ∷ places) all k t e = absurd (not_empty places all)
  filled_get (Some x ∷ places) all zero t e = let h : Some x ≡ Some t = e in ap Some h
  filled_get (Some x ∷ places) all (suc k) t e = filled_get places (λ j small. all (suc j) (omega arith)) k t e

  pub filled_more : (place : Option T) (places : List (Option T)) → filled (place ∷ places) ≡ option_to_list place ++ filled places
  filled_more None places = refl
  filled_more (Some t) places = refl
