-- An id that a solver gave carries the solver's number, and the place of a variable of its model. A term names only
-- such ids where all variables in it are such. A rule of this project.
use Rattle.std.specs.Prelude.{ℕ, Bool, true, ◌&&◌, length, is_some, nat_eq, nat_lt}
use Rattle.std.specs.List.{list_all}
use Rattle.cbl_base.specs.declared.ids.VarId.{VarId}
use Rattle.solver_models.specs.State.{SolverState}
use Rattle.term_model.specs.Definitions.{definition_of}
use Rattle.term_model.specs.declared.model.Model.{Model}
use Rattle.term_model.specs.declared.term.Term.{Term}
use Rattle.term_model.specs.declared.term.Term.TheOpen.{Term-F}
use Rattle.term_model.specs.declared.term.Term.TheFolds.{fold-Term}

-- whether an id is one of so many that the solver with a number gave
abbrev pub is_given : ℕ → ℕ → VarId → Bool
is_given number count x = nat_eq x.solver number && nat_lt x.index count

abbrev pub is_own : SolverState → VarId → Bool
is_own s x = is_given s.number (length s.model.vars.items) x

-- the id of the variable at a place
abbrev pub id_at : SolverState → ℕ → VarId
id_at s i = record { solver = s.number; index = i }

-- whether all ids in a term pass a test
abbrev pub names_step : (VarId → Bool) → Term-F Bool → Bool
names_step test (Term-F.Const x) = true
names_step test (Term-F.ConstSet s) = true
names_step test (Term-F.Var v) = test v
names_step test (Term-F.Node op args place) = list_all (λ b. b) args.items

abbrev pub names_only : (VarId → Bool) → Term → Bool
names_only test = fold-Term Bool (names_step test)

-- whether a variable has a definition
abbrev pub has_definition : Model → ℕ → Bool
has_definition M i = is_some (definition_of M i)
