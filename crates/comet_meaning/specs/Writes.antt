-- Writes: first what is written, the test of an index included, then the right side, and then the write. `+=` and its
-- like read the old value before the right side; an overflow of theirs stands at the statement. A number that is assigned
-- to a variable is a commit, and so is a swap: handlers run behind it. From the language.
use Rattle.std.specs.Prelude.{ℕ, ℤ, pos, ◌+ℤ◌, ◌-ℤ◌}
use Rattle.cbl_base.specs.Arithmetic.{exact}
use Rattle.cbl_base.specs.declared.place.Place.{Place}
use Rattle.comet_syntax.specs.declared.tree.statements.Step.{Step}
use Rattle.comet_syntax.specs.declared.tree.statements.Step.TheVariants as steps
use Rattle.comet_syntax.specs.declared.tree.statements.WriteOperator.{WriteOperator}
use Rattle.comet_syntax.specs.declared.tree.statements.WriteOperator.TheVariants as writes
use Rattle.term_model.specs.declared.term.Term.{Term}
use Rattle.checked_tree.specs.declared.kind.Kind.{Kind}
use Rattle.checked_tree.specs.declared.kind.Kind.TheVariants as kinds
use Rattle.checked_tree.specs.declared.expressions.Slot.{Slot}
use Rattle.checked_tree.specs.Shape as shapes
use Rattle.checked_tree.specs.Shape.{Shape, Seen, whole}
use Rattle.comet_meaning.specs.Values.{Value, Nothing, Number, Array, Variable, Variables, number_of, as_kind}
use Rattle.comet_meaning.specs.Outcome.{Act, ◌>>=◌, give, give_or}
use Rattle.comet_meaning.specs.Cells.{look, put, cells, extent, cell, at_index, at_indices, found_at, number_at, put_number}
use Rattle.comet_meaning.specs.Levels.{Level, Target, Nowhere, Name, Element, Moved}
use Rattle.comet_meaning.specs.Parts.{value, number, term}
use Rattle.comet_meaning.specs.Models.{assign, swap, define}
use Rattle.comet_meaning.specs.Changes.{noticed}
use Rattle.comet_meaning.specs.Events.{behind_commit}

-- what is written

abbrev pub moved : Value → Target
moved (Variable x) = Moved x
moved v = Nowhere

-- a cell of an array of numbers, and of one of variables the variable
unfoldable pub element_of : Value → ℕ → Act Target
element_of (Array n) k = give (Element n k)
element_of (Variables n) k = cell (Variables n) k >>= λ v. give (moved v)
element_of v k = give Nowhere

-- a name of a variable stands for the variable, and any other for its own cell
unfoldable pub name_target : Kind → Slot → Act Target
name_target kinds.Variable slot = look slot >>= λ v. give (moved v)
name_target kinds.SetVariable slot = look slot >>= λ v. give (moved v)
name_target kind slot = give (Name slot)

unfoldable pub index_target : Level → Place → Shape → Shape → Act Target
index_target l at a i = do
  v ← value l a
  z ← number l i
  b ← extent v
  k ← found_at at (at_index b z)
  element_of v k

unfoldable pub cell_target : Level → Place → Shape → Shape → Shape → Act Target
cell_target l at a i j = do
  v ← value l a
  y ← number l i
  z ← number l j
  b ← extent v
  k ← found_at at (at_indices b y z)
  element_of v k

unfoldable pub target_of_form : Level → Place → Kind → Shape → Act Target
target_of_form l at kind (shapes.name slot) = name_target kind slot
target_of_form l at kind (shapes.parentheses e) = l.target e
target_of_form l at kind (shapes.index a i) = index_target l at a i
target_of_form l at kind (shapes.cell a i j) = cell_target l at a i j
target_of_form l at kind form = give Nowhere

unfoldable pub target_of_expression : Level → Shape → Act Target
target_of_expression l (shapes.typed start at kind moving form) = target_of_form l at kind form
target_of_expression l e = give Nowhere

-- what stands there, and writing it

unfoldable pub old_value : Target → Act Value
old_value (Name slot) = look slot
old_value (Element n k) = cells (Array n) >>= λ c. give (number_at c k)
old_value t = give Nothing

unfoldable pub write : Place → Target → Value → Act (Unit {0})
write at Nowhere v = give tt
write at (Name slot) v = put slot v
write at (Element n k) v = put_number n k (number_of v)
write at (Moved x) v = noticed x.solver (assign at x (number_of v))

-- `t = e` and `t := e`

unfoldable pub assign_form : Level → Place → Seen → Seen → Act (Unit {0})
assign_form l at t e = do
  target ← l.target (whole t)
  v ← value l (whole e)
  _ ← write at target (as_kind t.kind v)
  behind_commit l at target

-- `t += e` and `t -= e`

abbrev pub changed : Place → Target → ℤ → Act (Unit {0})
changed at target z = give_or at (exact z) >>= λ x. write at target (Number x)

unfoldable pub add_form : Level → Place → (ℤ → ℤ → ℤ) → Seen → Seen → Act (Unit {0})
add_form l at f t e = do
  target ← l.target (whole t)
  old ← old_value target
  z ← number l (whole e)
  changed at target (f (number_of old) z)

-- `t <- e`

abbrev pub defined_at : Place → Target → Term → Act (Unit {0})
defined_at at (Moved x) u = define at x u
defined_at at target u = give tt

unfoldable pub define_form : Level → Place → Seen → Seen → Act (Unit {0})
define_form l at t e = do
  target ← l.target (whole t)
  u ← term l (whole e)
  defined_at at target u

-- `a :=: b`

abbrev pub swapped_at : Place → Target → Target → Act (Unit {0})
swapped_at at (Moved x) (Moved y) = noticed x.solver (swap at x y)
swapped_at at target other = give tt

unfoldable pub swap_form : Level → Place → Seen → Seen → Act (Unit {0})
swap_form l at a b = do
  target ← l.target (whole a)
  other ← l.target (whole b)
  _ ← swapped_at at target other
  behind_commit l at target

unfoldable pub write_form : Level → Place → WriteOperator → Seen → Seen → Act (Unit {0})
write_form l at writes.Set t e = assign_form l at t e
write_form l at writes.Assign t e = assign_form l at t e
write_form l at writes.Add t e = add_form l at ◌+ℤ◌ t e
write_form l at writes.Subtract t e = add_form l at ◌-ℤ◌ t e
write_form l at writes.Define t e = define_form l at t e

-- `t++` and `t--`

abbrev pub stepped : Step → ℤ → ℤ
stepped steps.Increment z = z +ℤ pos 1
stepped steps.Decrement z = z -ℤ pos 1

unfoldable pub step_form : Level → Place → Step → Seen → Act (Unit {0})
step_form l at x t = do
  target ← l.target (whole t)
  old ← old_value target
  changed at target (stepped x (number_of old))
