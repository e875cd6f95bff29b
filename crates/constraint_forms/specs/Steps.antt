-- What the forms of constraints do once their last operand has its term or its value. From the language.
use Rattle.std.specs.Prelude.{ℕ, ℤ, pos, List, [], ◌∷◌, length, nat_eq}
use Rattle.cbl_base.specs.declared.place.Place.{Place}
use Rattle.cbl_base.specs.declared.faults.RunFault.TheVariants.{OutOfRange}
use Rattle.cbl_violations.specs.Constraints.{is_proper}
use Rattle.cbl_violations.specs.declared.constraint.Constraint.{Constraint}
use Rattle.cbl_violations.specs.declared.constraint.Constraint.TheVariants.{AllDifferent, Knapsack, MultiKnapsack, NotHeld, Sequence}
use Rattle.cbl_operations.specs.declared.op.Op.TheVariants as ops
use Rattle.term_model.specs.declared.term.Term.{Term}
use Rattle.comet_syntax.specs.declared.tree.expressions.ChainOperator.{ChainOperator}
use Rattle.comet_syntax.specs.declared.tree.expressions.Comparison.{Comparison}
use Rattle.checked_tree.specs.declared.expressions.Builtin.{Builtin}
use Rattle.checked_tree.specs.Shape.{Shape}
use Rattle.comet_meaning.specs.OfModelView.Building.{constant}
use Rattle.comet_meaning.specs.ConstraintForms.{bounded_op, combination_op, members_form, relation_op}
use Rattle.comet_meaning.specs.Levels.{Level}
use Rattle.comet_meaning.specs.Outcome.{Act, ◌>>=◌, charge, give, unless}
use Rattle.comet_meaning.specs.State.{Cells}
use Rattle.comet_meaning.specs.TermForms.{node_form, sides}
use Rattle.comet_meaning.specs.Terms.{InTerm, Several, TermCells}

-- `a == b` and its like
abbrev pub related : Place → Comparison → Term → Term → Act Term
related at c t u = node_form at (ops.Constraint (relation_op c)) (sides c t u)

-- `!c`
abbrev pub negated : Place → Term → Act Term
negated at t = node_form at (ops.Constraint NotHeld) (t ∷ [])

-- one operation of all members, the first of which is known
abbrev pub members_node : Level → Place → ChainOperator → List Shape → Term → Act Term
members_node l at o links t = members_form l links (t ∷ []) >>= λ ts. node_form at (ops.Constraint (combination_op o)) ts

-- constraint functions: arrays stand at the places behind them

abbrev pub all_different_node : Place → Place → TermCells → Act Term
all_different_node at place c = do
  _ ← charge 1 at
  _ ← charge (length c.terms) place
  node_form at (ops.Constraint AllDifferent) c.terms

-- the places of a user's constraint
abbrev pub places_of : Place → Place → TermCells → Act InTerm
places_of at place c = do
  _ ← charge 1 at
  _ ← charge (length c.terms) place
  give (Several c)

abbrev pub bounded_node : Place → Builtin → Place → Cells → Place → TermCells → Act Term
bounded_node at f place bounds other c = do
  _ ← charge 1 at
  _ ← charge (length bounds.numbers) place
  _ ← charge (length c.terms) other
  node_form at (ops.Constraint (bounded_op f bounds.rows.low bounds.numbers)) c.terms

-- a constraint over as many terms as something else has cells
abbrev pub even_node : Place → ℕ → Constraint → List Term → Act Term
even_node at n c ts = unless (nat_eq n (length ts)) at OutOfRange >>= λ _. node_form at (ops.Constraint c) ts

abbrev pub knapsack_node : Place → Place → Cells → Place → TermCells → ℤ → Act Term
knapsack_node at place weights other c capacity = do
  _ ← charge 1 at
  _ ← charge (length weights.numbers) place
  _ ← charge (length c.terms) other
  even_node at (length weights.numbers) (Knapsack weights.numbers capacity) c.terms

abbrev pub multi_knapsack_node : Place → Place → TermCells → Place → Cells → Place → Cells → Act Term
multi_knapsack_node at place c other sizes last capacities = do
  _ ← charge 1 at
  _ ← charge (length c.terms) place
  _ ← charge (length sizes.numbers) other
  _ ← charge (length capacities.numbers) last
  even_node at (length sizes.numbers) (MultiKnapsack sizes.numbers capacities.rows.low capacities.numbers) c.terms

-- how many there may be, and in how many places in a row
abbrev pub window_node : Place → List ℤ → ℤ → ℤ → List Term → Act Term
window_node at members most window ts = unless (is_proper (Sequence members most window)) at OutOfRange >>= λ _. node_form at (ops.Constraint (Sequence members most window)) ts

abbrev pub sequence_node : Place → Place → TermCells → List ℤ → ℤ → ℤ → Act Term
sequence_node at place c members most window = do
  _ ← charge 1 at
  _ ← charge (length c.terms) place
  window_node at members most window c.terms

-- a call with so many arguments; one with another number of them stands for 0

abbrev pub of_one : (Shape → Act Term) → List Shape → Act Term
of_one m (a ∷ []) = m a
of_one m es = give (constant (pos 0))

abbrev pub of_two : (Shape → Shape → Act Term) → List Shape → Act Term
of_two m (a ∷ b ∷ []) = m a b
of_two m es = give (constant (pos 0))

abbrev pub of_three : (Shape → Shape → Shape → Act Term) → List Shape → Act Term
of_three m (a ∷ b ∷ c ∷ []) = m a b c
of_three m es = give (constant (pos 0))

abbrev pub of_four : (Shape → Shape → Shape → Shape → Act Term) → List Shape → Act Term
of_four m (a ∷ b ∷ c ∷ d ∷ []) = m a b c d
of_four m es = give (constant (pos 0))
