-- What an expression stands for where a term is asked. A part without incremental variables is evaluated when the
-- statement runs, and is a constant; any other one is an operation, built from the left, whose fault of the depth stands
-- at its place. From the language.
use Rattle.std.specs.Prelude.{ℤ, pos, ◌||◌, List, [], ◌∷◌, ◌++◌, length, map, nat_le, nat_lt, Option, Some, None, if◌then◌else◌}
use Rattle.cbl_base.specs.declared.place.Place.{Place}
use Rattle.cbl_base.specs.declared.faults.Limit.TheVariants as limits
use Rattle.cbl_base.specs.declared.faults.RunFault.TheVariants.{EmptyRange, TooMany}
use Rattle.cbl_operations.specs.declared.binary.BinaryOp.{BinaryOp}
use Rattle.cbl_operations.specs.declared.binary.BinaryOp.TheVariants.{Add, Sub, Mul, Div, Rem, Eq, Ne, Le, Lt}
use Rattle.cbl_operations.specs.declared.keyed.KeyedOp.TheVariants.{ArgMin, ArgMax, SetOf}
use Rattle.cbl_operations.specs.declared.nary.NaryOp.TheVariants.{Least, Greatest, Sum, Count, And, Or}
use Rattle.cbl_operations.specs.declared.op.Op.{Op}
use Rattle.cbl_operations.specs.declared.op.Op.TheVariants as ops
use Rattle.cbl_operations.specs.declared.two_sets.TwoSetsOp.TheVariants.{Union, Inter, Minus}
use Rattle.cbl_operations.specs.declared.unary.UnaryOp.{UnaryOp}
use Rattle.cbl_operations.specs.declared.unary.UnaryOp.TheVariants.{Neg, Abs, Not}
use Rattle.term_model.specs.Depth.{depth_of}
use Rattle.term_model.specs.declared.term.Term.{Term}
use Rattle.comet_syntax.specs.declared.tree.expressions.Aggregate.{Aggregate}
use Rattle.comet_syntax.specs.declared.tree.expressions.Aggregate.TheVariants as aggregates
use Rattle.comet_syntax.specs.declared.tree.expressions.ChainOperator.{ChainOperator}
use Rattle.comet_syntax.specs.declared.tree.expressions.ChainOperator.TheVariants as chains
use Rattle.comet_syntax.specs.declared.tree.expressions.Comparison.{Comparison}
use Rattle.comet_syntax.specs.declared.tree.expressions.Comparison.TheVariants as comparisons
use Rattle.comet_syntax.specs.declared.tree.expressions.UnaryOperator.{UnaryOperator}
use Rattle.comet_syntax.specs.declared.tree.expressions.UnaryOperator.TheVariants as unaries
use Rattle.checked_tree.specs.declared.expressions.Builtin.{Builtin}
use Rattle.checked_tree.specs.declared.expressions.Builtin.TheVariants as builtins
use Rattle.checked_tree.specs.Shape as shapes
use Rattle.checked_tree.specs.Shape.{Shape}
use Rattle.model_view.specs.Building.{constant, node}
use Rattle.comet_meaning.specs.Values.{Bounds, size_of}
use Rattle.comet_meaning.specs.Terms.{InTerm, Single, Several, term_row, term_extent, term_at, standing}
use Rattle.comet_meaning.specs.Limits.{most_cells, most_term_depth}
use Rattle.comet_meaning.specs.Outcome.{Act, ◌>>=◌, give, fault, unless, charge, always}
use Rattle.comet_meaning.specs.Cells.{look, at_index, at_indices, found_at, in_scope}
use Rattle.comet_meaning.specs.Levels.{Level}
use Rattle.comet_meaning.specs.Parts.{items, place_of, number, condition, term, terms, each_term, is_moving}
use Rattle.comet_meaning.specs.Generators.{each_tuple}

-- an operation of terms, which is no deeper than a term may be
unfoldable pub node_form : Place → Op → List Term → Act Term
node_form at op ts = unless (nat_le (depth_of (node op ts at)) most_term_depth) at (TooMany limits.TermNodes) >>= λ _. give (node op ts at)

abbrev pub single : Act Term → Act InTerm
single m = m >>= λ t. give (Single t)

-- `-e` and `!e`

abbrev pub unary_op : UnaryOperator → UnaryOp
unary_op unaries.Negative = Neg
unary_op unaries.Not = Not

unfoldable pub unary_term : Level → Place → UnaryOperator → Shape → Act Term
unary_term l at o e = term l e >>= λ t. node_form at (ops.Unary (unary_op o)) (t ∷ [])

-- `a == b` and its like: `>` and `>=` are `<` and `<=` of the sides exchanged

abbrev pub comparison_op : Comparison → BinaryOp
comparison_op comparisons.Equal = Eq
comparison_op comparisons.NotEqual = Ne
comparison_op comparisons.Less = Lt
comparison_op comparisons.LessEqual = Le
comparison_op comparisons.Greater = Lt
comparison_op comparisons.GreaterEqual = Le

abbrev pub sides : Comparison → Term → Term → List Term
sides comparisons.Greater t u = u ∷ t ∷ []
sides comparisons.GreaterEqual t u = u ∷ t ∷ []
sides c t u = t ∷ u ∷ []

unfoldable pub compare_term : Level → Place → Comparison → Shape → Shape → Act Term
compare_term l at c a b = do
  t ← term l a
  u ← term l b
  node_form at (ops.Binary (comparison_op c)) (sides c t u)

-- chains: one of `&&` or of `||` is one operation at its first operator, and any other one is an operation for each
-- operator, so that no front of it is a part of its own

abbrev pub chain_op : ChainOperator → Op
chain_op chains.Or = ops.Nary Or
chain_op chains.And = ops.Nary And
chain_op chains.Add = ops.Binary Add
chain_op chains.Subtract = ops.Binary Sub
chain_op chains.Multiply = ops.Binary Mul
chain_op chains.Divide = ops.Binary Div
chain_op chains.Remainder = ops.Binary Rem

-- one more operand
unfoldable pub linked_term : Level → Place → ChainOperator → Shape → Term → Act Term
linked_term l at o e t = term l e >>= λ u. node_form at (chain_op o) (t ∷ u ∷ [])

-- the operands behind the first
unfoldable pub joined_form : Level → List Shape → Term → Act Term
joined_form l [] t = give t
joined_form l (shapes.link o at e ∷ links) t = linked_term l at o e t >>= λ v. joined_form l links v
joined_form l (x ∷ links) t = joined_form l links t

-- the same of one operation with all operands, behind those before
unfoldable pub operands_form : Level → List Shape → List Term → Act (List Term)
operands_form l [] ts = give ts
operands_form l (shapes.link o at e ∷ links) ts = term l e >>= λ t. operands_form l links (ts ++ t ∷ [])
operands_form l (x ∷ links) ts = operands_form l links ts

unfoldable pub junction_form : Level → Place → ChainOperator → List Shape → Term → Act Term
junction_form l at o links t = operands_form l links (t ∷ []) >>= λ ts. node_form at (chain_op o) ts

abbrev pub links_term : Level → List Shape → Term → Act Term
links_term l (shapes.link chains.Or at e ∷ links) t = junction_form l at chains.Or (shapes.link chains.Or at e ∷ links) t
links_term l (shapes.link chains.And at e ∷ links) t = junction_form l at chains.And (shapes.link chains.And at e ∷ links) t
links_term l links t = joined_form l links t

unfoldable pub chain_term : Level → Shape → List Shape → Act Term
chain_term l first links = term l first >>= links_term l links

-- `a[i]`: where the index holds incremental variables, an operation of it and all cells, which are charged at the array
-- when the index has its term; and else the cell itself

abbrev pub index_op : Bounds → Op
index_op b = ops.Element b.low (size_of b)

unfoldable pub element_term : Level → Place → Shape → Shape → Act Term
element_term l at a i = do
  c ← terms l a
  t ← term l i
  _ ← charge (length c.terms) (place_of a)
  node_form at (index_op c.rows) (t ∷ c.terms)

unfoldable pub picked_term : Level → Place → Shape → Shape → Act Term
picked_term l at a i = do
  c ← terms l a
  z ← number l i
  k ← found_at at (at_index (term_extent c) z)
  give (term_at c k)

unfoldable pub index_term : Level → Place → Shape → Shape → Act Term
index_term l at a i = if is_moving i then element_term l at a i else picked_term l at a i

-- the same of `a[i,j]`

-- of an array without cells neither length counts
abbrev pub grid_op : Bounds → Option Bounds → List Term → Op
grid_op rows None ts = index_op rows
grid_op rows (Some columns) [] = ops.Element2 rows.low 0 columns.low 0
grid_op rows (Some columns) (t ∷ ts) = ops.Element2 rows.low (size_of rows) columns.low (size_of columns)

unfoldable pub grid_term : Level → Place → Shape → Shape → Shape → Act Term
grid_term l at a i j = do
  c ← terms l a
  t ← term l i
  u ← term l j
  _ ← charge (length c.terms) (place_of a)
  node_form at (grid_op c.rows c.columns c.terms) (t ∷ u ∷ c.terms)

unfoldable pub picked_cell : Level → Place → Shape → Shape → Shape → Act Term
picked_cell l at a i j = do
  c ← terms l a
  y ← number l i
  z ← number l j
  k ← found_at at (at_indices (term_extent c) y z)
  give (term_at c k)

unfoldable pub cell_term : Level → Place → Shape → Shape → Shape → Act Term
cell_term l at a i j = if is_moving i || is_moving j then grid_term l at a i j else picked_cell l at a i j

-- `[..]`
unfoldable pub list_term : Level → List Shape → Act InTerm
list_term l es = each_term l es [] >>= λ ts. give (Several (term_row ts))

-- aggregates: the generators run when the statement does, and the bodies of the tuples that pass the condition are the
-- operands

-- a body's term, with the value of the generator
pub record Keyed : Type 0 where
  pub key : ℤ
  pub term : Term

abbrev pub keys_of : List Keyed → List ℤ
keys_of xs = map (λ x. x.key) xs

abbrev pub bodies_of : List Keyed → List Term
bodies_of xs = map (λ x. x.term) xs

-- one more; an `all` has at most as many as an array has cells
abbrev pub with_keyed : Place → Aggregate → ℤ → List Keyed → Term → Act (List Keyed)
with_keyed at aggregates.All key xs t = do
  _ ← unless (nat_lt (length xs) most_cells) at (TooMany limits.Cells)
  give (xs ++ record { key = key; term = t } ∷ [])
with_keyed at a key xs t = give (xs ++ record { key = key; term = t } ∷ [])

unfoldable pub keyed_form : Level → Place → Aggregate → Shape → Shape → ℤ → List Keyed → Act (List Keyed)
keyed_form l at a c body key xs = do
  passes ← condition l c
  if passes then (term l body >>= with_keyed at a key xs) else give xs

abbrev pub aggregate_op : Aggregate → List ℤ → Op
aggregate_op aggregates.Sum keys = ops.Nary Sum
aggregate_op aggregates.Min keys = ops.Nary Least
aggregate_op aggregates.Max keys = ops.Nary Greatest
aggregate_op aggregates.All keys = ops.Nary Sum
aggregate_op aggregates.And keys = ops.Nary And
aggregate_op aggregates.Or keys = ops.Nary Or
aggregate_op aggregates.SetOf keys = ops.Keyed SetOf keys
aggregate_op aggregates.ArgMin keys = ops.Keyed ArgMin keys
aggregate_op aggregates.ArgMax keys = ops.Keyed ArgMax keys

-- what they give: an `all` is an array of them, and no number is the least or the greatest of none
abbrev pub aggregated : Place → Aggregate → List Keyed → Act InTerm
aggregated at aggregates.All xs = give (Several (term_row (bodies_of xs)))
aggregated at aggregates.Min [] = fault at EmptyRange
aggregated at aggregates.Max [] = fault at EmptyRange
aggregated at a xs = single (node_form at (aggregate_op a (keys_of xs)) (bodies_of xs))

unfoldable pub aggregate_term : Level → Place → Aggregate → List Shape → Shape → Shape → Act InTerm
aggregate_term l at a gs c body =
    in_scope (each_tuple l at always (keyed_form l at a c body) [] gs []) >>= aggregated at a

-- the functions of the language: arguments from the left, then a unit for the call, and for `count` the cells

unfoldable pub count_term : Level → Place → Shape → Shape → Act Term
count_term l at a e = do
  c ← terms l a
  t ← term l e
  _ ← charge 1 at
  _ ← charge (length c.terms) (place_of a)
  node_form at (ops.Nary Count) (c.terms ++ t ∷ [])

-- a function of terms; a checked program asks no other here
abbrev pub builtin_node : Place → Builtin → List Term → Act Term
builtin_node at builtins.Abs ts = node_form at (ops.Unary Abs) ts
builtin_node at builtins.Min ts = node_form at (ops.Nary Least) ts
builtin_node at builtins.Max ts = node_form at (ops.Nary Greatest) ts
builtin_node at builtins.Card ts = node_form at ops.Card ts
builtin_node at builtins.Member ts = node_form at ops.Member ts
builtin_node at builtins.Union ts = node_form at (ops.TwoSets Union) ts
builtin_node at builtins.Inter ts = node_form at (ops.TwoSets Inter) ts
builtin_node at builtins.Minus ts = node_form at (ops.TwoSets Minus) ts
builtin_node at f ts = give (constant (pos 0))

unfoldable pub builtin_term : Level → Place → Builtin → List Shape → Act Term
builtin_term l at builtins.Count (a ∷ e ∷ []) = count_term l at a e
builtin_term l at f es = do
  ts ← each_term l es []
  _ ← charge 1 at
  builtin_node at f ts

-- an expression with incremental variables, at its place; a checked program has no other form of one
unfoldable pub moving_term : Level → Place → Shape → Act InTerm
moving_term l at (shapes.name slot) = look slot >>= standing
moving_term l at (shapes.parentheses e) = l.term e
moving_term l at (shapes.unary o e) = single (unary_term l at o e)
moving_term l at (shapes.chain first links) = single (chain_term l first (items links))
moving_term l at (shapes.compare c a b) = single (compare_term l at c a b)
moving_term l at (shapes.index a i) = single (index_term l at a i)
moving_term l at (shapes.cell a i j) = single (cell_term l at a i j)
moving_term l at (shapes.list es) = list_term l (items es)
moving_term l at (shapes.aggregate a gs c body) = aggregate_term l at a (items gs) c body
moving_term l at (shapes.builtin f es) = single (builtin_term l at f (items es))
moving_term l at form = give (Single (constant (pos 0)))
