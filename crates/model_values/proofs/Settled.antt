-- Each round settles the variables that rank one higher; and where all are settled, what is known is what the
-- variables come to.
use Rattle.std.proofs.Common.{◌≡◌, ℕ, ℤ, zero, suc, ◌+◌, ◌<◌, ◌≤◌, true, List, [], ◌∷◌, Option, Some, None, is_some, length, replicate, refl, sym, ap, ◌∙◌, subst, arith, true≢false, slice_get}
use Rattle.std.specs.List.{list_all}
use native.Mathlib.Decide.{ℕ_discrete}
use Rattle.std.proofs.Math.Path.{fun_ext}
use Rattle.std.proofs.lemmas.List.{length-replicate}
use Rattle.std.specs.Option.{option_map}
use Rattle.cbl_base.specs.NumberRule.{NumberRule}
use Rattle.cbl_base.specs.declared.input.Input.{Input}
use Rattle.cbl_base.specs.declared.input.Input.TheVariants.{Int}
use Rattle.term_model.specs.Definitions.{definition_of, DependsOn, IsAcyclic}
use Rattle.model_values.specs.Outcomes.{Outcome, env_of, known}
use Rattle.model_values.specs.Settling.{is_there, is_known, IsRight, KeepsKnown, IsKnownBelow}
use Rattle.model_values.specs.VarOutcomes.{outcome_by, outcomes_through, outcome_of_var}
use Rattle.term_model.specs.Wellformed.{IsWellFormed}
use Rattle.term_model.specs.declared.model.Model.{Model}
use Rattle.term_model.proofs.Rounds.{names_within}
use Rattle.term_model.proofs.VarLaws.{definition_found}

pub round_more : (M : Model) → IsWellFormed M → (acyclic : IsAcyclic M) (k : ℕ) (old after : List (Option Outcome)) → IsKnownBelow M acyclic.rank k old →
    ((i : ℕ) → i < length M.vars.items → ((d : ℕ) → DependsOn M i d → is_known old d ≡ true) → is_known after i ≡ true) → IsKnownBelow M acyclic.rank (k + 1) after
round_more M formed acyclic k old after below settled i lt ranks =
    settled i lt (λ d in'. let falls = acyclic.falls i d in' in below d (names_within M formed i d lt in') (omega arith))

pub known_where_some : (cells : List (Option Outcome)) → list_all is_some cells ≡ true → (i : ℕ) → i < length cells → is_known cells i ≡ true
known_where_some [] h i lt = absurd (omega arith)
known_where_some (Some o ∷ cells) h zero lt = refl
known_where_some (Some o ∷ cells) h (suc i) lt = known_where_some cells h i (omega arith)
known_where_some (None ∷ cells) h i lt = absurd (true≢false (sym h))

none_at : (n i : ℕ) (o : Outcome) → slice_get (replicate n None) i ≡ Some (Some o) → ⊥
none_at zero i o e = let c : None ≡ Some (Some o) = e in cc
none_at (suc n) zero o e = let c : Some None ≡ Some (Some o) = e in cc
none_at (suc n) (suc i) o e = none_at n i o e

none_known : (n i : ℕ) (x : Input) → known (slice_get (replicate n None) i) ≡ Some x → ⊥
none_known zero i x e = let c : None ≡ Some x = e in cc
none_known (suc n) zero x e = let c : None ≡ Some x = e in cc
none_known (suc n) (suc i) x e = none_known n i x e

pub right_start : (users : ℕ → NumberRule) (M : Model) (a : List ℤ) (cells : List (Option Outcome)) → cells ≡ replicate (length M.vars.items) None → IsRight users M a cells
right_start users M a cells e = subst (IsRight users M a) (sym e) (record {
  count = length-replicate (length M.vars.items) None;
  right = λ i o at. absurd (none_at (length M.vars.items) i o at);
  kinds = λ i x at. absurd (none_known (length M.vars.items) i x at);
})

-- one variable more was settled
pub kept_both : (old mid after : List (Option Outcome)) → KeepsKnown old mid → KeepsKnown mid after → KeepsKnown old after
kept_both old mid after first second i known = second i (first i known)

pub settled_more : (M : Model) (old mid after : List (Option Outcome)) (k : ℕ) → KeepsKnown old mid → ((i : ℕ) → i < k → ((d : ℕ) → DependsOn M i d → is_known old d ≡ true) → is_known mid i ≡ true) →
    KeepsKnown mid after → (((d : ℕ) → DependsOn M k d → is_known mid d ≡ true) → is_known after k ≡ true) →
    (i : ℕ) → i < k + 1 → ((d : ℕ) → DependsOn M i d → is_known old d ≡ true) → is_known after i ≡ true
settled_more M old mid after k kept settled keeps last i lt ready = cases (ℕ_discrete i k)
  where
    cases : Dec (i ≡ k) → is_known after i ≡ true
    cases (yes is) = subst (λ j. is_known after j ≡ true) (sym is) (last (λ d in'. kept d (ready d (subst (λ j. DependsOn M j d) (sym is) in'))))
    cases (no ne) = keeps i (settled i (omega (arith, ne)) ready)

-- ---- all is known
known_one : (cell : Option (Option Outcome)) (v : Outcome) → is_there cell ≡ true → ((o : Outcome) → cell ≡ Some (Some o) → o ≡ v) → known cell ≡ v
known_one (Some (Some o)) v there right = right o refl
known_one (Some None) v there right = absurd (true≢false (sym there))
known_one None v there right = absurd (true≢false (sym there))

beyond : {X : Type 0} (xs : List X) (i : ℕ) → length xs ≤ i → slice_get xs i ≡ None
beyond [] i le = refl
beyond (x ∷ xs) zero le = absurd (omega arith)
beyond (x ∷ xs) (suc i) le = beyond xs i (omega arith)

pub lt_dec : (i n : ℕ) → Dec (i < n)
lt_dec i zero = no (λ lt. absurd (omega (arith, lt)))
lt_dec zero (suc n) = yes (omega arith)
lt_dec (suc i) (suc n) = more (lt_dec i n)
  where
    more : Dec (i < n) → Dec (suc i < suc n)
    more (yes lt) = yes (omega (arith, lt))
    more (no ge) = no (λ lt. ge (omega (arith, lt)))

pub not_defined : (M : Model) → IsWellFormed M → (i : ℕ) → length M.vars.items ≤ i → (entry : Option ℕ) → definition_of M i ≡ entry → entry ≡ None
not_defined M formed i le None e = refl
not_defined M formed i le (Some d) e =
    let found = definition_found M i d e in
    let within : i < length M.vars.items = subst (λ n. n < length M.vars.items) found.2 (formed.defs d found.0 found.1).var in
    absurd (omega (arith, within, le))

module _ (users : ℕ → NumberRule) (M : Model) (a : List ℤ) (formed : IsWellFormed M) (long : length a ≡ length M.vars.items) where
  -- what isn't a variable of the model comes to nothing
  pub none_through : (n i : ℕ) → length M.vars.items ≤ i → outcomes_through users M a n i ≡ None
  unfolding outcomes_through
  none_through zero i le = refl
  none_through (suc n) i le =
      ap (outcome_by users M a (outcomes_through users M a n) i) (not_defined M formed i le (definition_of M i) refl)
      ∙ ap (option_map (λ z. Int z)) (beyond a i (omega (arith, long, le)))

  module _ (cells : List (Option Outcome)) (right : IsRight users M a cells) (all : (i : ℕ) → i < length M.vars.items → is_known cells i ≡ true) where
    env_at : (i : ℕ) → Dec (i < length M.vars.items) → env_of cells i ≡ outcome_of_var users M a i
    env_at i (yes lt) = known_one (slice_get cells i) (outcome_of_var users M a i) (all i lt) (right.right i)
    env_at i (no ge) =
        let le : length M.vars.items ≤ i = omega (arith, ge) in
        ap known (beyond cells i (subst (λ n. n ≤ i) (sym right.count) le)) ∙ sym (none_through (length M.vars.items) i le)

    pub env_right : env_of cells ≡ outcome_of_var users M a
    env_right = fun_ext (λ i. env_at i (lt_dec i (length M.vars.items)))

pub settled_some : (users : ℕ → NumberRule) (M : Model) (a : List ℤ) (cells : List (Option Outcome)) → IsWellFormed M → length a ≡ length M.vars.items → IsRight users M a cells → list_all is_some cells ≡ true → env_of cells ≡ outcome_of_var users M a
settled_some users M a cells formed long right h =
    env_right users M a formed long cells right (λ i lt. known_where_some cells h i (subst (λ n. i < n) (sym right.count) lt))
