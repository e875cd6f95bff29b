-- Where a solver keeps its model, its assignment and its rules, nothing changed, and no event is queued.
use Rattle.std.proofs.Common.{◌≡◌, refl, ap, ◌∙◌, rules, ℕ, ℤ, Bool, true, false, List, [], ◌∷◌, Option, Some, None, filter_map, if◌then◌else◌}
use Rattle.std.specs.List.{range_with_len, cons_option}
use Rattle.posted_users.specs.KeptRule.{users_of}
use Rattle.model_values.specs.VarOutcomes.{outcome_of_var}
use Rattle.std.specs.Ordering.{int_eq}
use Rattle.comet_meaning.specs.Values as values
use Rattle.comet_meaning.specs.Values.{Value}
use Rattle.comet_meaning.specs.Solvers.{SolverState, variable_count}
use Rattle.comet_meaning.specs.Parts.{value_of, value_now}
use Rattle.comet_meaning.specs.Changes.{change_between, changes_between, changes_of}

int_same : (z : ℤ) → int_eq z z ≡ true
int_same z = search rules

pub same_value : (x : ℕ) (v : Value) → change_between x v v ≡ None
same_value x (values.Number z) = ap (λ b. if b then None else Some (record { index = x; old = z; new = z })) (int_same z)
same_value x v = refl

none_of : {A B : Type 0} (f : A → Option B) (xs : List A) → ((x : A) → f x ≡ None) → filter_map f xs ≡ []
none_of f [] k = refl
none_of f (x ∷ xs) k = ap (λ o. cons_option o (filter_map f xs)) (k x) ∙ none_of f xs k

value_kept : (m n : SolverState) → n.model ≡ m.model → n.assignment ≡ m.assignment → n.rules ≡ m.rules → (x : ℕ) → value_now n x ≡ value_now m x
value_kept m n p q r x =
    ap (λ M. value_of (outcome_of_var (users_of n.rules) M n.assignment x)) p ∙ (ap (λ a. value_of (outcome_of_var (users_of n.rules) m.model a x)) q
    ∙ ap (λ rs. value_of (outcome_of_var (users_of rs) m.model m.assignment x)) r)

-- what waits, and what the names are, changes no value
pub nothing_changed : (m n : SolverState) → n.model ≡ m.model → n.assignment ≡ m.assignment → n.rules ≡ m.rules → changes_of m n ≡ []
nothing_changed m n p q r = on m.closed where
  between : changes_between m n ≡ []
  between = none_of _ (range_with_len 0 (variable_count m)) (λ x. ap (λ v. change_between x (value_now m x) v) (value_kept m n p q r x) ∙ same_value x (value_now m x))

  on : (b : Bool) → (if b then changes_between m n else []) ≡ []
  on true = between
  on false = refl
