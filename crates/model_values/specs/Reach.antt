-- What the search for the variables on which others depend keeps: marks, and a stack of marked variables whose
-- own definitions are still to be looked at.
use Rattle.std.specs.Prelude.{◌≡◌, ◌⊎◌, ◌+◌, ◌<◌, ℕ, Bool, true, List, length, sum_by, if◌then◌else◌}
use Rattle.std.specs.List.{Contains}
use Rattle.model_values.specs.Dependence.{marked}
use Rattle.model_values.specs.Support.{one_depends}
use Rattle.term_model.specs.Definitions.{DependsOn}
use Rattle.term_model.specs.declared.model.Model.{Model}

abbrev pub unmarked : List Bool → ℕ
unmarked marks = sum_by (λ m. if m then 0 else 1) marks

-- these variables were marked, and those that are new were put on the stack
pub record Spreads (vars : List ℕ) (marks : List Bool) (stack : List ℕ) (marks' : List Bool) (stack' : List ℕ) : Type 0 where
  pub count : length marks' ≡ length marks
  pub grows : (i : ℕ) → marked marks i ≡ true → marked marks' i ≡ true
  pub here : (i : ℕ) → Contains vars i → i < length marks → marked marks' i ≡ true
  pub only : (i : ℕ) → marked marks' i ≡ true → (marked marks i ≡ true) ⊎ (Contains vars i × Contains stack' i)
  pub kept : (i : ℕ) → Contains stack i → Contains stack' i
  pub stacked : (i : ℕ) → Contains stack' i → Contains stack i ⊎ (Contains vars i × (i < length marks))
  pub left : unmarked marks' + length stack' ≡ unmarked marks + length stack

-- the marks so far, from these roots
pub record IsReaching (M : Model) (roots : List ℕ) (marks : List Bool) (stack : List ℕ) : Type 0 where
  pub count : length marks ≡ length M.vars.items
  pub sound : (i : ℕ) → marked marks i ≡ true → one_depends M roots i ≡ true
  pub rooted : (i : ℕ) → Contains roots i → marked marks i ≡ true
  pub closed : (i : ℕ) → marked marks i ≡ true → Contains stack i ⊎ ((d : ℕ) → DependsOn M i d → marked marks d ≡ true)
  pub within : (i : ℕ) → Contains stack i → i < length M.vars.items
  pub stacked : (i : ℕ) → Contains stack i → marked marks i ≡ true
