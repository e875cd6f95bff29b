-- What forms do once their last operand has its value. From the language.
use Rattle.std.specs.Prelude.{ℕ, ℤ, List, [], ◌∷◌, ◌++◌, length, Option, None, Some, nat_eq, if◌then◌else◌}
use Rattle.cbl_base.specs.declared.ids.VarId.{VarId}
use Rattle.cbl_base.specs.declared.place.Place.{Place}
use Rattle.cbl_base.specs.declared.faults.RunFault.TheVariants.{OutOfRange}
use Rattle.comet_syntax.specs.declared.tree.statements.Step.{Step}
use Rattle.checked_tree.specs.declared.kind.Kind.{Kind}
use Rattle.checked_tree.specs.declared.expressions.Builtin.{Builtin}
use Rattle.checked_tree.specs.declared.expressions.Method.{Method}
use Rattle.checked_tree.specs.declared.expressions.Slot.{Slot}
use Rattle.checked_tree.specs.Actions.{Varying}
use Rattle.checked_tree.specs.Shape.{Seen, Shape, whole}
use Rattle.comet_meaning.specs.Builtins.{builtin_value}
use Rattle.comet_meaning.specs.Blocks.{commit_waiting}
use Rattle.comet_meaning.specs.Changes.{noticed}
use Rattle.comet_meaning.specs.Cells.{look, new_array, new_variables, put}
use Rattle.comet_meaning.specs.Declarations.{Dimension, array_of}
use Rattle.comet_meaning.specs.Methods.{method_value}
use Rattle.comet_meaning.specs.Parts.{value}
use Rattle.comet_meaning.specs.Outcome.{Act, ◌>>=◌, charge, give, unless}
use Rattle.comet_meaning.specs.Systems.{post}
use Rattle.comet_meaning.specs.Terms.{InTerm, standing}
use Rattle.comet_meaning.specs.Values.{Bounds, Value, Variable, as_kind, number_of}
use Rattle.comet_meaning.specs.Variables.{Beginning, cell_name, declared, listed_cell, next_cell, variable_in, variable_kind, variables_with}
use Rattle.comet_meaning.specs.Levels.{Flow, Level, Next, Target}
use Rattle.comet_meaning.specs.Writes.{changed, old_value, stepped}
use Rattle.run_objects.specs.OfRunState.Acts.{copied_into, numbers_read}
use Rattle.term_model.specs.declared.model.VarDecl.{VarDecl}
use Rattle.term_model.specs.declared.term.Term.{Term}
use Rattle.run_steps.specs.Copies.{is_array}

-- the next statement follows
abbrev pub next_behind : Unit {0} → Act Flow
next_behind u = give Next

-- a value is dropped
abbrev pub nothing_behind : Value → Act (Unit {0})
nothing_behind v = give tt

-- a function of the language, of its arguments
abbrev pub called_builtin : Place → Builtin → List Value → Act Value
called_builtin at f vs = charge 1 at >>= λ _. builtin_value at f vs

-- a method, of its object and its arguments
abbrev pub called_method : Place → Method → Shape → Value → List Value → Act Value
called_method at m o v vs = charge 1 at >>= λ _. method_value at m o v vs

-- what is posted to an object, with its weight
abbrev pub posted_with : Place → Value → Term → ℤ → Act Value
posted_with at v t z = charge 1 at >>= λ _. post at t z v

-- what a name stands for in a term
abbrev pub named_term : Slot → Act InTerm
named_term slot = look slot >>= standing

-- a variable, of its domain and how it begins
abbrev pub added_variable : Place → Varying → Bounds → Beginning → Act (Unit {0})
added_variable at v d b = variable_in at v.solver (declared (variable_kind v.kind) d) v.name b >>= λ x. put v.slot (Variable x)

-- one more cell of an array of variables, at these indices, of how it begins
abbrev pub added_cell : Place → Varying → VarDecl → List ℤ → List VarId → Beginning → Act (List VarId)
added_cell at v d is xs b = variable_in at v.solver d (cell_name v.name is) b >>= λ x. give (xs ++ x ∷ [])

-- one more cell of it, by its start, or by the numbers of a list
abbrev pub variable_cell : Level → Place → Varying → VarDecl → Option (List ℤ) → List ℤ → List VarId → Act (List VarId)
variable_cell l at v d None = next_cell l at v d
variable_cell l at v d (Some numbers) = listed_cell at v d numbers

-- the numbers of a list of exactly so many, which stands at the second place
abbrev pub exactly : Place → Place → ℕ → Value → Act (List ℤ)
exactly at place count v = do
  xs ← numbers_read place v
  _ ← unless (nat_eq (length xs) count) at OutOfRange
  give xs

-- the numbers of a list of exactly so many
abbrev pub exact_list : Level → Place → ℕ → Seen → Act (List ℤ)
exact_list l at count e = value l (whole e) >>= exactly at e.place count

-- a new array of these variables
abbrev pub made_variables : Slot → List Dimension → List VarId → Act (Unit {0})
made_variables slot ds xs = new_variables (variables_with ds xs) >>= λ a. put slot a

-- the first value of a name, which stands at the second place
abbrev pub started_value : Place → Place → Slot → Kind → Value → Act (Unit {0})
started_value at place slot k v = if is_array k then copied_into at place slot v else put slot (as_kind k v)

-- a new array of these numbers
abbrev pub made_array : Slot → List Dimension → List ℤ → Act (Unit {0})
made_array slot ds xs = new_array (array_of ds xs) >>= λ a. put slot a

-- `t++` and `t--`
abbrev pub stepped_target : Place → Step → Target → Act (Unit {0})
stepped_target at x t = old_value t >>= λ old. changed at t (stepped x (number_of old))

-- the end of the outermost `with` on a solver, whose body ended so
abbrev pub closed_block : ℕ → Flow → Act Flow
closed_block k flow = noticed k (commit_waiting k) >>= λ _. give flow
