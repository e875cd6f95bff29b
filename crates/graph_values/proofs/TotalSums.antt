-- The totals of all systems, or of all objectives: all of them, or the first that doesn't fit.
use Rattle.std.proofs.Common.{◌≡◌, ℕ, ℤ, zero, suc, ◌+◌, ◌<◌, List, [], ◌∷◌, ◌++◌, map, fold, Option, Some, None, length, refl, sym, ap, ◌∙◌, slice_get, Result, Ok, Err, arith}
use Rattle.std.specs.Prelude.{unwrap_or}
use Rattle.std.specs.List.{enumerate_from, range_with_len}
use Rattle.std.proofs.lemmas.List.{append-nil, append_assoc}
use Rattle.cbl_base.specs.NumberRule.{NumberRule}
use Rattle.cbl_base.specs.declared.input.Input.{Input}
use Rattle.model_values.specs.Fresh.{Sums, add_sum, first_of, gather_sum, whole_by}
use Rattle.model_values.specs.Outcomes.{gather}
use Rattle.model_values.specs.Wholes.{sum_in}
use Rattle.model_values.specs.declared.failure.Failure.{Failure}
use Rattle.term_model.specs.declared.model.Model.{Model}
use Rattle.term_model.specs.declared.model.Total.{Total}
use Rattle.term_model.specs.declared.posting.Side.{Side}

module _ (users : ℕ → NumberRule) (M : Model) (env : ℕ → Option Input) (side : Side) where
  abbrev pub sum_at : ℕ → Total → Option (Result ℤ Failure)
  sum_at k total = sum_in users M env (whole_by side k) total.place

  abbrev pub sums_from : Sums → ℕ → List Total → Sums
  sums_from so_far n totals = fold (add_sum users M env side) so_far (enumerate_from n totals)

  start : (n : ℕ) → n + 0 ≡ n
  start n = omega arith

  next : (n k : ℕ) → n + suc k ≡ n + 1 + k
  next n k = omega arith

  here : (n : ℕ) (t : Total) (q : Option (Result ℤ Failure)) → sum_at (n + 0) t ≡ q → sum_at n t ≡ q
  here n t q e = ap (λ m. sum_at m t) (sym (start n)) ∙ e

  later : (n k : ℕ) (t : Total) (q : Option (Result ℤ Failure)) → sum_at (n + suc k) t ≡ q → sum_at (n + 1 + k) t ≡ q
  later n k t q e = ap (λ m. sum_at m t) (sym (next n k)) ∙ e

  -- where each fits, all of them
  pub all_fit : (z : ℕ → ℤ) (n : ℕ) (zs : List ℤ) (totals : List Total) → ((k : ℕ) (t : Total) → slice_get totals k ≡ Some t → sum_at (n + k) t ≡ Some (Ok (z (n + k)))) →
      sums_from (Some (Ok zs)) n totals ≡ Some (Ok (zs ++ map z (range_with_len n (length totals))))
  all_fit z n zs [] fit = ap (λ ys. Some (Ok ys)) (sym (append-nil zs))
  all_fit z n zs (t ∷ totals) fit =
      let one : sum_at n t ≡ Some (Ok (z n)) = here n t (Some (Ok (z (n + 0)))) (fit zero t refl) ∙ ap (λ m. Some (Ok (z m))) (start n) in
      ap (λ q. sums_from (gather_sum (Some (Ok zs)) q) (n + 1) totals) one
      ∙ all_fit z (n + 1) (zs ++ z n ∷ []) totals (λ k u at. later n k u (Some (Ok (z (n + suc k)))) (fit (suc k) u at) ∙ ap (λ m. Some (Ok (z m))) (next n k))
      ∙ ap (λ ys. Some (Ok ys)) (append_assoc zs (z n ∷ []) (map z (range_with_len (n + 1) (length totals))))

  abbrev pub AreThere : ℕ → List Total → Type 0
  AreThere n totals = (k : ℕ) (t : Total) → slice_get totals k ≡ Some t → (r : Result ℤ Failure) × (sum_at (n + k) t ≡ Some r)

  rest_there : (n : ℕ) (t : Total) (totals : List Total) → AreThere n (t ∷ totals) → AreThere (n + 1) totals
  rest_there n t totals there k u at = let one = there (suc k) u at in (one.0, later n k u (Some one.0) one.1)

  -- a failure stays
  failure_stays : (f : Failure) (n : ℕ) (totals : List Total) → AreThere n totals → sums_from (Some (Err f)) n totals ≡ Some (Err f)
  failure_stays f n [] there = refl
  failure_stays f n (t ∷ totals) there =
      let one = there zero t refl in
      ap (λ q. sums_from (gather_sum (Some (Err f)) q) (n + 1) totals) (here n t (Some one.0) one.1) ∙ failure_stays f (n + 1) totals (rest_there n t totals there)

  -- the first that doesn't fit
  pub first_fails : (f : Failure) (n k : ℕ) (t : Total) (zs : List ℤ) (totals : List Total) → slice_get totals k ≡ Some t → sum_at (n + k) t ≡ Some (Err f) →
      ((j : ℕ) (u : Total) → j < k → slice_get totals j ≡ Some u → (z : ℤ) × (sum_at (n + j) u ≡ Some (Ok z))) → AreThere n totals → sums_from (Some (Ok zs)) n totals ≡ Some (Err f)
  first_fails f n k t zs [] at e before there = let c : None ≡ Some t = at in cc
  first_fails f n zero t zs (u ∷ totals) at e before there =
      let same : sum_at n u ≡ Some (Err f) = ap (λ o. sum_at n (unwrap_or o u)) at ∙ here n t (Some (Err f)) e in
      ap (λ q. sums_from (gather_sum (Some (Ok zs)) q) (n + 1) totals) same ∙ failure_stays f (n + 1) totals (rest_there n u totals there)
  first_fails f n (suc k) t zs (u ∷ totals) at e before there =
      let one = before zero u (omega arith) refl in
      ap (λ q. sums_from (gather_sum (Some (Ok zs)) q) (n + 1) totals) (here n u (Some (Ok one.0)) one.1)
      ∙ first_fails f (n + 1) k t (zs ++ one.0 ∷ []) totals at (later n k t (Some (Err f)) e)
      (λ j v lt at'. (let two = before (suc j) v (omega (arith, lt)) at' in (two.0, later n j v (Some (Ok two.0)) two.1))) (rest_there n u totals there)

  -- where each is there, there is an answer
  pub answer_there : (r : Result (List ℤ) Failure) (n : ℕ) (totals : List Total) → AreThere n totals → (q : Result (List ℤ) Failure) × (sums_from (Some r) n totals ≡ Some q)
  answer_there r n [] there = (r, refl)
  answer_there r n (t ∷ totals) there =
      let one = there zero t refl in
      let rest = answer_there (first_of r one.0) (n + 1) totals (rest_there n t totals there) in
      (rest.0, ap (λ q. sums_from (gather_sum (Some r) q) (n + 1) totals) (here n t (Some one.0) one.1) ∙ rest.1)

  -- ---- where there is a sum of all, each is there
  none_stays : (n : ℕ) (totals : List Total) → sums_from None n totals ≡ None
  none_stays n [] = refl
  none_stays n (t ∷ totals) = none_stays (n + 1) totals

  none_gathered : (s : Sums) → gather_sum s None ≡ None
  none_gathered (Some r) = refl
  none_gathered None = refl

  pub each_there : (s : Sums) (n : ℕ) (totals : List Total) (r : Result (List ℤ) Failure) → sums_from s n totals ≡ Some r → AreThere n totals
  each_there s n [] r e k t at = let c : None ≡ Some t = at in cc
  each_there s n (u ∷ totals) r e zero t at = let own = first (sum_at n u) refl in (own.0, ap (λ m. sum_at m t) (start n) ∙ ap (λ o. sum_at n (unwrap_or o t)) (sym at) ∙ own.1)
    where
      first : (q : Option (Result ℤ Failure)) → sum_at n u ≡ q → (p : Result ℤ Failure) × (sum_at n u ≡ Some p)
      first (Some p) is = (p, is)
      first None is =
          let c : None ≡ Some r = sym (none_stays (n + 1) totals) ∙ ap (λ v. sums_from v (n + 1) totals) (sym (none_gathered s)) ∙ ap (λ q. sums_from (gather_sum s q) (n + 1) totals) (sym is) ∙ e in cc
  each_there s n (u ∷ totals) r e (suc k) t at =
      let own = each_there (gather_sum s (sum_at n u)) (n + 1) totals r e k t at in (own.0, ap (λ m. sum_at m t) (next n k) ∙ own.1)

-- ---- the values of all variables
module _ (f : ℕ → Option Input) where
  pub all_gathered : (x : ℕ → Input) (n len : ℕ) (so_far : List Input) → ((k : ℕ) → k < len → f (n + k) ≡ Some (x (n + k))) →
      fold gather (Some so_far) (map f (range_with_len n len)) ≡ Some (so_far ++ map x (range_with_len n len))
  all_gathered x n zero so_far each = ap (λ ys. Some ys) (sym (append-nil so_far))
  all_gathered x n (suc len) so_far each =
      let same : n + 0 ≡ n = omega arith in
      let one : f n ≡ Some (x n) = ap f (sym same) ∙ each zero (omega arith) ∙ ap (λ m. Some (x m)) same in
      ap (λ q. fold gather (gather (Some so_far) q) (map f (range_with_len (n + 1) len))) one
      ∙ all_gathered x (n + 1) len (so_far ++ x n ∷ []) (λ k lt. (let next : n + suc k ≡ n + 1 + k = omega arith in ap f (sym next) ∙ each (suc k) (omega (arith, lt)) ∙ ap (λ m. Some (x m)) next))
      ∙ ap (λ ys. Some ys) (append_assoc so_far (x n ∷ []) (map x (range_with_len (n + 1) len)))

  none_left : (n len : ℕ) → fold gather None (map f (range_with_len n len)) ≡ None
  none_left n zero = refl
  none_left n (suc len) = none_left (n + 1) len

  no_value : (v : Option (List Input)) → gather v None ≡ None
  no_value (Some xs) = refl
  no_value None = refl

  pub each_gathered : (n len : ℕ) (v : Option (List Input)) (xs : List Input) → fold gather v (map f (range_with_len n len)) ≡ Some xs → (k : ℕ) → k < len → (x : Input) × (f (n + k) ≡ Some x)
  each_gathered n zero v xs e k lt = absurd (omega (arith, lt))
  each_gathered n (suc len) v xs e zero lt = let own = first (f n) refl in (own.0, ap f (let same : n + 0 ≡ n = omega arith in same) ∙ own.1)
    where
      first : (q : Option Input) → f n ≡ q → (x : Input) × (f n ≡ Some x)
      first (Some x) is = (x, is)
      first None is =
          let c : None ≡ Some xs = sym (none_left (n + 1) len) ∙ ap (λ w. fold gather w (map f (range_with_len (n + 1) len))) (sym (no_value v)) ∙ ap (λ q. fold gather (gather v q) (map f (range_with_len (n + 1) len))) (sym is) ∙ e in cc
  each_gathered n (suc len) v xs e (suc k) lt =
      let own = each_gathered (n + 1) len (gather v (f n)) xs e k (omega (arith, lt)) in (own.0, ap f (let next : n + suc k ≡ n + 1 + k = omega arith in next) ∙ own.1)
