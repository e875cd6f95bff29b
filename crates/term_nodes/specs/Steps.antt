-- What the forms of terms do once their last operand has its term. From the language.
use Rattle.std.specs.Prelude.{ℕ, zero, suc, ℤ, List, [], ◌∷◌, ◌++◌, length}
use Rattle.cbl_base.specs.declared.place.Place.{Place}
use Rattle.cbl_operations.specs.declared.nary.NaryOp.TheVariants.{Count}
use Rattle.cbl_operations.specs.declared.op.Op.{Op}
use Rattle.cbl_operations.specs.declared.op.Op.TheVariants.{Binary, Element2, Nary, Unary}
use Rattle.term_model.specs.declared.term.Term.{Term}
use Rattle.comet_syntax.specs.declared.tree.expressions.ChainOperator.{ChainOperator}
use Rattle.comet_syntax.specs.declared.tree.expressions.Comparison.{Comparison}
use Rattle.comet_syntax.specs.declared.tree.expressions.UnaryOperator.{UnaryOperator}
use Rattle.checked_tree.specs.declared.expressions.Builtin.{Builtin}
use Rattle.comet_meaning.specs.Cells.{at_index, at_indices, found_at}
use Rattle.comet_meaning.specs.Outcome.{Act, ◌>>=◌, charge, give}
use Rattle.comet_meaning.specs.TermForms.{builtin_node, chain_op, comparison_op, grid_op, index_op, node_form, sides, unary_op}
use Rattle.comet_meaning.specs.Terms.{TermCells, term_at, term_extent}
use Rattle.comet_meaning.specs.Values.{Bounds, size_of}

-- `-e` and `!e`
abbrev pub unary_node : Place → UnaryOperator → Term → Act Term
unary_node at o t = node_form at (Unary (unary_op o)) (t ∷ [])

-- `a == b` and its like
abbrev pub compared : Place → Comparison → Term → Term → Act Term
compared at c t u = node_form at (Binary (comparison_op c)) (sides c t u)

-- a chain so far with one more operand
abbrev pub joined : Place → ChainOperator → Term → Term → Act Term
joined at o t u = node_form at (chain_op o) (t ∷ u ∷ [])

-- `a[i]`, of an array at the second place and an index that holds incremental variables
abbrev pub element_node : Place → Place → TermCells → Term → Act Term
element_node at place c t = charge (length c.terms) place >>= λ _. node_form at (index_op c.rows) (t ∷ c.terms)

-- the same of `a[i,j]`
abbrev pub grid_node : Place → Place → TermCells → Term → Term → Act Term
grid_node at place c t u = charge (length c.terms) place >>= λ _. node_form at (grid_op c.rows c.columns c.terms) (t ∷ u ∷ c.terms)

-- the operation of a grid of so many cells; of one without cells neither length counts
abbrev pub plane_op : Bounds → Bounds → ℕ → Op
plane_op rows columns zero = Element2 rows.low 0 columns.low 0
plane_op rows columns (suc n) = Element2 rows.low (size_of rows) columns.low (size_of columns)

-- `a[i]`, of an index that is a number
abbrev pub picked : Place → TermCells → ℤ → Act Term
picked at c z = found_at at (at_index (term_extent c) z) >>= λ k. give (term_at c k)

-- the same of `a[i,j]`
abbrev pub picked_twice : Place → TermCells → ℤ → ℤ → Act Term
picked_twice at c y z = found_at at (at_indices (term_extent c) y z) >>= λ k. give (term_at c k)

-- `count(a, e)`, of an array at the second place
abbrev pub count_node : Place → Place → TermCells → Term → Act Term
count_node at place c t = do
  _ ← charge 1 at
  _ ← charge (length c.terms) place
  node_form at (Nary Count) (c.terms ++ t ∷ [])

-- a function of the language, of its arguments
abbrev pub called_node : Place → Builtin → List Term → Act Term
called_node at f ts = charge 1 at >>= λ _. builtin_node at f ts
