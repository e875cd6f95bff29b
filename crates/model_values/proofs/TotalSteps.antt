-- The totals of all systems or objectives, as far as they have been gone through; and the values of all
-- variables.
use Rattle.std.proofs.Common.{◌≡◌, ℕ, suc, ◌+◌, ◌<◌, ◌≤◌, List, [], ◌∷◌, Some, Option, Ok, length, get_or, take, map, refl, sym, ap, ◌∙◌, arith, slice_get}
use Rattle.std.specs.List.{enumerate_from, range_with_len}
use Rattle.std.proofs.lemmas.List.{take_all}
use Rattle.std.proofs.lemmas.List.Sums.{fold_more}
use Rattle.std.proofs.lemmas.List.FromFn.{get_or-enumerate_from, length-enumerate_from}
use Rattle.cbl_base.specs.NumberRule.{NumberRule}
use Rattle.model_values.specs.Fresh.{Sums, add_sum, fresh_vars, sums_in}
use Rattle.model_values.specs.Outcomes.{Outcome, env_of, gathered, known}
use Rattle.term_model.specs.declared.model.Model.{Model}
use Rattle.term_model.specs.declared.model.Total.{Total}
use Rattle.term_model.specs.declared.posting.Side.{Side}

module _ (users : ℕ → NumberRule) (M : Model) (env : ℕ → Outcome) (side : Side) (totals : List Total) where
  pub sums_more : (k : ℕ) (t : Total) (so_far after : Sums) → k < length totals → t ≡ get_or totals k t →
      so_far ≡ sums_in users M env side (take k (enumerate_from 0 totals)) → after ≡ add_sum users M env side so_far (k, t) → after ≡ sums_in users M env side (take (k + 1) (enumerate_from 0 totals))
  sums_more k t so_far after lt is e h =
      let within : k < length (enumerate_from 0 totals) = omega (arith, length-enumerate_from 0 totals) in
      let zero_more : 0 + k ≡ k = omega arith in
      h ∙ ap (λ s. add_sum users M env side s (k, t)) e
      ∙ sym (fold_more (add_sum users M env side) (Some (Ok [])) (enumerate_from 0 totals) k (0, t) within
      ∙ ap (add_sum users M env side (sums_in users M env side (take k (enumerate_from 0 totals)))) (get_or-enumerate_from 0 totals k (0, t) lt ∙ ap (λ n. (n, get_or totals k t)) zero_more ∙ ap (λ q. (k, q)) (sym is)))

  pub sums_all : (k : ℕ) (so_far : Sums) → length totals ≤ k → so_far ≡ sums_in users M env side (take k (enumerate_from 0 totals)) → so_far ≡ sums_in users M env side (enumerate_from 0 totals)
  sums_all k so_far le e = e ∙ ap (sums_in users M env side) (take_all k (enumerate_from 0 totals) (omega (arith, length-enumerate_from 0 totals)))

map_known : (f : ℕ → Outcome) (cells : List (Option Outcome)) (a : ℕ) → ((k : ℕ) → k < length cells → known (slice_get cells k) ≡ f (a + k)) → map (λ c. known (Some c)) cells ≡ map f (range_with_len a (length cells))
map_known f [] a h = refl
map_known f (c ∷ cells) a h =
    let first : known (Some c) ≡ f a = h 0 (omega arith) ∙ ap f (let e : a + 0 ≡ a = omega arith in e) in
    let rest = map_known f cells (a + 1) (λ k lt. h (suc k) (omega arith) ∙ ap f (let e : a + suc k ≡ a + 1 + k = omega arith in e)) in
    ap (λ o. o ∷ map (λ c. known (Some c)) cells) first ∙ ap (λ os. f a ∷ os) rest

pub vars_known : (users : ℕ → NumberRule) (M : Model) (cells : List (Option Outcome)) → length cells ≡ length M.vars.items → gathered (map (λ c. known (Some c)) cells) ≡ fresh_vars users M (env_of cells)
vars_known users M cells count =
    ap gathered (map_known (env_of cells) cells 0 (λ k lt. ap (env_of cells) (let e : k ≡ 0 + k = omega arith in e)) ∙ ap (λ n. map (env_of cells) (range_with_len 0 n)) count)
