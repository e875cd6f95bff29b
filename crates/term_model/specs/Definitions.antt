-- The definition of a variable: which one it is. A variable depends on those that stand in its definition's
-- term. A rule of this project.
use Rattle.std.specs.Prelude.{ℕ, ◌<◌, Bool, false, List, [], ◌∷◌, ◌++◌, fold, length, nat_eq, Option, Some, None, slice_get, unwrap_or, if◌then◌else◌, ◌≡◌}
use Rattle.std.specs.Option.{option_map}
use Rattle.std.specs.List.{Contains}
use Rattle.term_model.specs.declared.model.Definition.{Definition}
use Rattle.term_model.specs.declared.model.Model.{Model}
use Rattle.term_model.specs.declared.model.Posted.{Posted}
use Rattle.term_model.specs.declared.model.Posted.TheVariants.{Define, Constrain, Part}
use Rattle.term_model.specs.declared.term.Term.{Term}
use Rattle.term_model.specs.declared.term.Term.TheOpen.{Term-F}
use Rattle.term_model.specs.declared.term.Term.TheFolds.{fold-Term}

-- the variables in a term, from the left
abbrev pub joined : List (List ℕ) → List ℕ
joined [] = []
joined (xs ∷ xss) = xs ++ joined xss

abbrev pub vars_step : Term-F (List ℕ) → List ℕ
vars_step (Term-F.Const x) = []
vars_step (Term-F.ConstSet s) = []
vars_step (Term-F.Var v) = v.index ∷ []
vars_step (Term-F.Node op args place) = joined args.items

abbrev pub vars_of : Term → List ℕ
vars_of = fold-Term (List ℕ) vars_step

-- whether the definition with this number is of the variable
abbrev pub is_of : List Definition → ℕ → ℕ → Bool
is_of defs i d = unwrap_or (option_map (λ def. nat_eq def.var.index i) (slice_get defs d)) false

-- the number of the definition so far, and what was posted
abbrev pub note : List Definition → ℕ → Option ℕ → Posted → Option ℕ
note defs i so_far (Define d) = if is_of defs i d then Some d else so_far
note defs i so_far (Constrain system member) = so_far
note defs i so_far (Part objective member) = so_far

-- the number of the definition of a variable
abbrev pub definition_in : List Definition → List Posted → ℕ → Option ℕ
definition_in defs posted i = fold (note defs i) None posted

abbrev pub definition_of : Model → ℕ → Option ℕ
definition_of M i = definition_in M.defs.items M.posted.items i

-- the table has for each variable the number of its definition
abbrev pub IsTableOf : Model → List (Option ℕ) → Type 0
IsTableOf M table = (i : ℕ) → i < length M.vars.items → slice_get table i ≡ Some (definition_of M i)

-- the term of the definition with this number
abbrev pub term_of : List Definition → ℕ → Option Term
term_of defs d = option_map (λ def. def.term) (slice_get defs d)

-- the variables that a variable's definition names, none for a variable without one
abbrev pub vars_named : Option Term → List ℕ
vars_named (Some term) = vars_of term
vars_named None = []

abbrev pub named_by : List Definition → Option ℕ → List ℕ
named_by defs (Some d) = vars_named (term_of defs d)
named_by defs None = []

abbrev pub DependsOn : Model → ℕ → ℕ → Type 0
DependsOn M i d = Contains (named_by M.defs.items (definition_of M i)) d

-- the variables can be ranked, so that each one ranks above those that it depends on: exactly where no
-- variable depends on itself, also through others
pub record IsAcyclic (M : Model) : Type 0 where
  pub rank : ℕ → ℕ
  pub within : (i : ℕ) → i < length M.vars.items → rank i < length M.vars.items
  pub falls : (i d : ℕ) → DependsOn M i d → rank d < rank i
