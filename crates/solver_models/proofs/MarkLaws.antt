-- Refusals that are decided by marks.
use Rattle.std.proofs.Common.{◌≡◌, ℕ, ℤ, ◌+◌, ◌<◌, Bool, true, false, ◌||◌, List, [], ◌∷◌, Option, Some, None, is_some, true≢false, refl, sym, ap, ◌∙◌, subst, arith}
use native.Mathlib.Decide.{ℕ_discrete}
use Rattle.std.specs.Bool.{OnFalse, OnTrue}
use Rattle.std.specs.List.{list_any}
use Rattle.cbl_base.specs.declared.ids.VarId.{VarId}
use Rattle.solver_models.specs.Ids.{has_definition}
use Rattle.solver_models.specs.Kept.{AreMarkedOrNumbers, AreMarks, mark_at}
use Rattle.term_model.specs.Definitions.{definition_of}
use Rattle.term_model.specs.Wellformed.{HasDefinedSets}
use Rattle.term_model.specs.declared.model.Model.{Model}

pub any_marks : (M : Model) (marks : List Bool) (moves : List (VarId × ℤ)) → AreMarks M marks → list_any (λ m. mark_at marks m.0.index) moves ≡ list_any (λ m. has_definition M m.0.index) moves
any_marks M marks [] are = refl
any_marks M marks (m ∷ moves) are = ap (λ b. b || list_any (λ m. mark_at marks m.0.index) moves) (are.each m.0.index) ∙ ap (λ b. has_definition M m.0.index || b) (any_marks M marks moves are)

pub marked_is : (M : Model) (marks : List Bool) (i : ℕ) → AreMarks M marks → mark_at marks i ≡ has_definition M i
marked_is M marks i are = are.each i

-- what holds below a number and of it holds below the next
pub below_more : (P : ℕ → Type 0) (k : ℕ) → ((j : ℕ) → j < k → P j) → P k → (j : ℕ) → j < k + 1 → P j
below_more P k below here j lt = cases (ℕ_discrete j k)
  where
    cases : Dec (j ≡ k) → P j
    cases (yes same) = subst P (sym same) here
    cases (no ne) = below j (omega (arith, lt, ne))

free_marks : (M : Model) (marks : List Bool) → AreMarks M marks → AreMarkedOrNumbers marks M.vars.items → HasDefinedSets M
free_marks M marks are all i lt free = all i lt (are.each i ∙ ap is_some free)

pub sets_by_marks : (M : Model) (marks : List Bool) (b : Bool) → AreMarks M marks → OnTrue b (AreMarkedOrNumbers marks M.vars.items) → OnTrue b (HasDefinedSets M)
sets_by_marks M marks true are all = free_marks M marks are all
sets_by_marks M marks false are all = tt

none_of : (o : Option ℕ) → is_some o ≡ false → o ≡ None
none_of (Some d) h = absurd (true≢false h)
none_of None h = refl

marked_sets : (M : Model) (marks : List Bool) → AreMarks M marks → HasDefinedSets M → AreMarkedOrNumbers marks M.vars.items
marked_sets M marks are sets i lt free = sets i lt (none_of (definition_of M i) (sym (are.each i) ∙ free))

pub no_sets_by_marks : (M : Model) (marks : List Bool) (b : Bool) → AreMarks M marks → OnFalse b (AreMarkedOrNumbers marks M.vars.items → ⊥) → OnFalse b (HasDefinedSets M → ⊥)
no_sets_by_marks M marks true are none = tt
no_sets_by_marks M marks false are none = λ sets. none (marked_sets M marks are sets)
