-- Declarations of variables, and of arrays of them. The domain of an array is evaluated once; then each cell costs a unit,
-- its number or term is evaluated, and its variable is made and gets its definition. After `close` no variable comes.
-- From the language.
use Rattle.std.specs.Prelude.{ℕ, ℤ, pos, negsuc, not, List, [], ◌∷◌, ◌++◌, length, Option, Some, None, nat_eq, nat_le, nat_lt, slice_index_or}
use Rattle.cbl_base.specs.declared.ids.VarId.{VarId}
use Rattle.cbl_base.specs.declared.place.Place.{Place}
use Rattle.cbl_base.specs.declared.faults.Limit.TheVariants as limits
use Rattle.cbl_base.specs.declared.faults.RunFault.TheVariants.{AlreadyClosed, OutOfRange, TooMany}
use Rattle.checked_tree.specs.declared.kind.Kind.{Kind}
use Rattle.checked_tree.specs.declared.kind.Kind.TheVariants as kinds
use Rattle.checked_tree.specs.declared.expressions.Slot.{Slot}
use Rattle.checked_tree.specs.declared.statements.Way.{Way}
use Rattle.checked_tree.specs.declared.statements.Way.TheVariants as ways
use Rattle.checked_tree.specs.Shape.{Shape, Seen, whole}
use Rattle.checked_tree.specs.Actions.{Started, Sized, Varying}
use Rattle.term_model.specs.declared.model.VarDecl.{VarDecl}
use Rattle.term_model.specs.declared.model.VarKind.{VarKind}
use Rattle.term_model.specs.declared.model.VarKind.TheVariants.{Number, Set}
use Rattle.term_model.specs.declared.term.Term.{Term}
use Rattle.model_view.specs.Building as building
use Rattle.model_view.specs.Building.{constant_set}
use Rattle.comet_meaning.specs.Values.{Variable, Bounds, solver_of}
use Rattle.comet_meaning.specs.State.{VariableCells}
use Rattle.comet_meaning.specs.Solvers.{SolverState, variable_count}
use Rattle.comet_meaning.specs.Limits.{most_cells, most_variables}
use Rattle.comet_meaning.specs.Outcome.{Act, ◌>>=◌, give, unless, charge}
use Rattle.comet_meaning.specs.Cells.{look, put, new_variables}
use Rattle.comet_meaning.specs.Levels.{Level}
use Rattle.comet_meaning.specs.Parts.{solver_at, bounds, number, value, term}
use Rattle.comet_meaning.specs.Taking.{read_array}
use Rattle.comet_meaning.specs.Models.{put_solver, defining}
use Rattle.comet_meaning.specs.Printing.{row_text}
use Rattle.comet_meaning.specs.Declarations.{Dimension, dimensions_form, cell_count, every_cell}

-- what is declared

abbrev pub variable_kind : Kind → VarKind
variable_kind kinds.SetVariable = Set
variable_kind kinds.SetVariableArray = Set
variable_kind kinds.SetVariableGrid = Set
variable_kind k = Number

-- the domain of a variable without one
abbrev pub all_numbers : Bounds
all_numbers = record { low = negsuc 9223372036854775807; up = pos 9223372036854775807 }

unfoldable pub domain_form : Level → Option Seen → Act Bounds
domain_form l None = give all_numbers
domain_form l (Some e) = bounds l (whole e)

abbrev pub declared : VarKind → Bounds → VarDecl
declared k d = record { kind = k; low = d.low; up = d.up }

-- the name of a cell: `a[i]` or `a[i,j]`
abbrev pub cell_name : List ℕ → List ℤ → List ℕ
cell_name name [] = name
cell_name name (i ∷ is) = name ++ row_text (i ∷ is)

-- how a variable begins: with a number, or with a definition; a set variable has one from the start

pub data Beginning : Type 0 where
  free : ℤ → Beginning
  defined : Term → Beginning

abbrev pub beginning_with : VarKind → ℤ → Beginning
beginning_with Number z = free z
beginning_with Set z = defined (constant_set [])

unfoldable pub started_form : Level → VarKind → Way → Shape → Act Beginning
started_form l k ways.Define e = term l e >>= λ t. give (defined t)
started_form l k w e = number l e >>= λ z. give (beginning_with k z)

unfoldable pub beginning_form : Level → VarKind → Option Started → Act Beginning
beginning_form l k None = give (beginning_with k (pos 0))
beginning_form l k (Some x) = started_form l k x.way (whole x.value)

abbrev pub first_number : Beginning → ℤ
first_number (free z) = z
first_number (defined t) = pos 0

-- a new variable, which gets the next index

abbrev pub with_variable : SolverState → VarDecl → List ℕ → ℤ → SolverState
with_variable m d name z = record m {
  model = building.with_variable m.model d;
  assignment = m.assignment ++ z ∷ [];
  names = m.names ++ name ∷ [];
}

abbrev pub next_variable : ℕ → SolverState → VarId
next_variable k m = record { solver = k; index = variable_count m }

-- the solver that has the variable, with its definition if it begins so
abbrev pub begin : Place → VarId → Beginning → SolverState → Act (Unit {0})
begin at x (free z) m = put_solver x.solver m
begin at x (defined t) m = defining at x t m

unfoldable pub adding : Place → ℕ → VarDecl → List ℕ → Beginning → SolverState → Act VarId
adding at k d name b m = do
  _ ← unless (not m.closed) at AlreadyClosed
  _ ← unless (nat_lt (variable_count m) most_variables) at (TooMany limits.Variables)
  _ ← begin at (next_variable k m) b (with_variable m d name (first_number b))
  give (next_variable k m)

unfoldable pub new_variable : Place → ℕ → VarDecl → List ℕ → Beginning → Act VarId
new_variable at k d name b = λ s. adding at k d name b (solver_at s k) s

-- the solver is looked up when the variable's number or term has its value
unfoldable pub variable_in : Place → Slot → VarDecl → List ℕ → Beginning → Act VarId
variable_in at slot d name b = look slot >>= λ m. new_variable at (solver_of m) d name b

-- one variable

unfoldable pub single_form : Level → Place → Varying → Act (Unit {0})
single_form l at v = do
  d ← domain_form l v.domain
  b ← beginning_form l (variable_kind v.kind) v.start
  x ← variable_in at v.solver (declared (variable_kind v.kind) d) v.name b
  put v.slot (Variable x)

-- an array of variables

-- one more cell: its unit, its number or term, and then its variable
unfoldable pub next_cell : Level → Place → Varying → VarDecl → List ℤ → List VarId → Act (List VarId)
next_cell l at v d is xs = do
  _ ← charge 1 at
  b ← beginning_form l (variable_kind v.kind) v.start
  x ← variable_in at v.solver d (cell_name v.name is) b
  give (xs ++ x ∷ [])

-- the same where its number stands in a list
unfoldable pub listed_cell : Place → Varying → VarDecl → List ℤ → List ℤ → List VarId → Act (List VarId)
listed_cell at v d numbers is xs = do
  _ ← charge 1 at
  x ← variable_in at v.solver d (cell_name v.name is) (beginning_with (variable_kind v.kind) (slice_index_or numbers (length xs) (pos 0)))
  give (xs ++ x ∷ [])

-- a list of exactly as many numbers, before the first cell is charged
unfoldable pub listed_cells : Level → Place → Varying → VarDecl → List Dimension → Seen → Act (List VarId)
listed_cells l at v d ds e = do
  w ← value l (whole e)
  c ← read_array e.place w
  _ ← unless (nat_eq (length c.numbers) (cell_count ds)) at OutOfRange
  every_cell (listed_cell at v d c.numbers) ds

abbrev pub started_cells : Level → Place → Varying → VarDecl → List Dimension → Way → Seen → Act (List VarId)
started_cells l at v d ds ways.List e = listed_cells l at v d ds e
started_cells l at v d ds w e = every_cell (next_cell l at v d) ds

abbrev pub cells_form : Level → Place → Varying → VarDecl → List Dimension → Option Started → Act (List VarId)
cells_form l at v d ds None = every_cell (next_cell l at v d) ds
cells_form l at v d ds (Some x) = started_cells l at v d ds x.way x.value

-- an array of one dimension or two of these variables
abbrev pub variables_with : List Dimension → List VarId → VariableCells
variables_with (d ∷ []) xs = record { rows = d.bounds; columns = None; variables = xs }
variables_with (d ∷ e ∷ ds) xs = record { rows = d.bounds; columns = Some e.bounds; variables = xs }
variables_with [] xs = record { rows = record { low = pos 0; up = pos 0 }; columns = None; variables = xs }

unfoldable pub several_form : Level → Place → Varying → Act (Unit {0})
several_form l at v = do
  ds ← dimensions_form l v.dimensions []
  _ ← unless (nat_le (cell_count ds) most_cells) at (TooMany limits.Cells)
  d ← domain_form l v.domain
  xs ← cells_form l at v (declared (variable_kind v.kind) d) ds v.start
  a ← new_variables (variables_with ds xs)
  put v.slot a

-- either of them, by whether it has dimensions

abbrev pub declared_form : Level → Place → Varying → List Sized → Act (Unit {0})
declared_form l at v [] = single_form l at v
declared_form l at v (d ∷ ds) = several_form l at v

unfoldable pub variable_form : Level → Place → Varying → Act (Unit {0})
variable_form l at v = declared_form l at v v.dimensions
