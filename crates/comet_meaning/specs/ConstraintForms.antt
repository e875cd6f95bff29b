-- What an expression stands for where a constraint is posted. A relation, `&&`, `||`, `!`, `and`, `or` and a constraint
-- function with incremental variables are operations that give violations; what a constraint function keeps beside its
-- places is evaluated when the statement runs. A call costs a unit when its arguments have their values, and then each
-- cell of its arrays costs one, in order of the arguments; then come the faults of lengths and of windows. Of a user's
-- constraint only its places are told here: `post` takes it by its name. From the language.
use Rattle.std.specs.Prelude.{ℤ, pos, List, [], ◌∷◌, ◌++◌, length, nat_eq}
use Rattle.cbl_base.specs.declared.place.Place.{Place}
use Rattle.cbl_base.specs.declared.faults.RunFault.TheVariants.{OutOfRange}
use Rattle.cbl_violations.specs.Constraints.{is_proper}
use Rattle.cbl_violations.specs.declared.constraint.Constraint.{Constraint}
use Rattle.cbl_violations.specs.declared.constraint.Constraint.TheVariants.{Eq, Ne, Le, Lt, AllDifferent, AtMost, AtLeast, Exactly, Knapsack, MultiKnapsack, Sequence, AllOf, AnyOf, NotHeld}
use Rattle.cbl_operations.specs.declared.op.Op.TheVariants as ops
use Rattle.term_model.specs.declared.term.Term.{Term}
use Rattle.comet_syntax.specs.declared.tree.expressions.Aggregate.{Aggregate}
use Rattle.comet_syntax.specs.declared.tree.expressions.Aggregate.TheVariants as aggregates
use Rattle.comet_syntax.specs.declared.tree.expressions.ChainOperator.{ChainOperator}
use Rattle.comet_syntax.specs.declared.tree.expressions.ChainOperator.TheVariants as chains
use Rattle.comet_syntax.specs.declared.tree.expressions.Comparison.{Comparison}
use Rattle.comet_syntax.specs.declared.tree.expressions.Comparison.TheVariants as comparisons
use Rattle.checked_tree.specs.declared.expressions.Builtin.{Builtin}
use Rattle.checked_tree.specs.declared.expressions.Builtin.TheVariants as builtins
use Rattle.checked_tree.specs.Shape as shapes
use Rattle.checked_tree.specs.Shape.{Shape}
use Rattle.model_view.specs.Building.{constant}
use Rattle.comet_meaning.specs.Values.{members_of}
use Rattle.comet_meaning.specs.State.{Cells}
use Rattle.comet_meaning.specs.Terms.{InTerm, Single, Several}
use Rattle.comet_meaning.specs.Outcome.{Act, ◌>>=◌, give, unless, charge, always}
use Rattle.comet_meaning.specs.Cells.{cells, in_scope}
use Rattle.comet_meaning.specs.Levels.{Level}
use Rattle.comet_meaning.specs.Parts.{items, place_of, value, number, term, terms, constraint}
use Rattle.comet_meaning.specs.Generators.{each_tuple}
use Rattle.comet_meaning.specs.TermForms.{node_form, single, sides, keyed_form, bodies_of}

-- `a == b` and its like: `>` and `>=` are `<` and `<=` of the sides exchanged

abbrev pub relation_op : Comparison → Constraint
relation_op comparisons.Equal = Eq
relation_op comparisons.NotEqual = Ne
relation_op comparisons.Less = Lt
relation_op comparisons.LessEqual = Le
relation_op comparisons.Greater = Lt
relation_op comparisons.GreaterEqual = Le

unfoldable pub relation_form : Level → Place → Comparison → Shape → Shape → Act Term
relation_form l at c a b = do
  t ← term l a
  u ← term l b
  node_form at (ops.Constraint (relation_op c)) (sides c t u)

-- `!c`
unfoldable pub negation_form : Level → Place → Shape → Act Term
negation_form l at e = constraint l e >>= λ t. node_form at (ops.Constraint NotHeld) (t ∷ [])

-- a chain of `&&` or of `||` is one operation at its first operator

abbrev pub combination_op : ChainOperator → Constraint
combination_op chains.Or = AnyOf
combination_op o = AllOf

-- the members behind those before
unfoldable pub members_form : Level → List Shape → List Term → Act (List Term)
members_form l [] ts = give ts
members_form l (shapes.link o at e ∷ links) ts = constraint l e >>= λ t. members_form l links (ts ++ t ∷ [])
members_form l (x ∷ links) ts = members_form l links ts

unfoldable pub combined_form : Level → List Shape → Term → Act Term
combined_form l (shapes.link o at e ∷ links) t = members_form l (shapes.link o at e ∷ links) (t ∷ []) >>= λ ts. node_form at (ops.Constraint (combination_op o)) ts
combined_form l links t = give t

unfoldable pub combination_form : Level → Shape → List Shape → Act Term
combination_form l first links = constraint l first >>= combined_form l links

-- `and(..) c` and `or(..) c`: the generators run when the statement does, and the bodies of the tuples that pass the
-- condition are the members

abbrev pub joining_op : Aggregate → Constraint
joining_op aggregates.Or = AnyOf
joining_op a = AllOf

unfoldable pub joining_form : Level → Place → Aggregate → List Shape → Shape → Shape → Act Term
joining_form l at a gs c body =
    in_scope (each_tuple l at always (keyed_form l at a c body) [] gs []) >>= λ xs. node_form at (ops.Constraint (joining_op a)) (bodies_of xs)

-- constraint functions

-- an array that is kept beside the places
unfoldable pub kept_cells : Level → Shape → Act Cells
kept_cells l e = value l e >>= cells

-- a set that is kept
unfoldable pub kept_set : Level → Shape → Act (List ℤ)
kept_set l e = value l e >>= λ v. give (members_of v)

unfoldable pub all_different_form : Level → Place → Shape → Act Term
all_different_form l at x = do
  c ← terms l x
  _ ← charge 1 at
  _ ← charge (length c.terms) (place_of x)
  node_form at (ops.Constraint AllDifferent) c.terms

-- `atmost`, `atleast` and `exactly`: bounds, by the indices of their array, and then the places

abbrev pub bounded_op : Builtin → ℤ → List ℤ → Constraint
bounded_op builtins.AtMost low bounds = AtMost low bounds
bounded_op builtins.AtLeast low bounds = AtLeast low bounds
bounded_op f low bounds = Exactly low bounds

unfoldable pub bounded_form : Level → Place → Builtin → Shape → Shape → Act Term
bounded_form l at f b x = do
  bounds ← kept_cells l b
  c ← terms l x
  _ ← charge 1 at
  _ ← charge (length bounds.numbers) (place_of b)
  _ ← charge (length c.terms) (place_of x)
  node_form at (ops.Constraint (bounded_op f bounds.rows.low bounds.numbers)) c.terms

-- as many weights as places, and then the capacity
unfoldable pub knapsack_form : Level → Place → Shape → Shape → Shape → Act Term
knapsack_form l at w x e = do
  weights ← kept_cells l w
  c ← terms l x
  capacity ← number l e
  _ ← charge 1 at
  _ ← charge (length weights.numbers) (place_of w)
  _ ← charge (length c.terms) (place_of x)
  _ ← unless (nat_eq (length weights.numbers) (length c.terms)) at OutOfRange
  node_form at (ops.Constraint (Knapsack weights.numbers capacity)) c.terms

-- as many sizes as places, and then the capacities, by the indices of their array
unfoldable pub multi_knapsack_form : Level → Place → Shape → Shape → Shape → Act Term
multi_knapsack_form l at x z e = do
  c ← terms l x
  sizes ← kept_cells l z
  capacities ← kept_cells l e
  _ ← charge 1 at
  _ ← charge (length c.terms) (place_of x)
  _ ← charge (length sizes.numbers) (place_of z)
  _ ← charge (length capacities.numbers) (place_of e)
  _ ← unless (nat_eq (length sizes.numbers) (length c.terms)) at OutOfRange
  node_form at (ops.Constraint (MultiKnapsack sizes.numbers capacities.rows.low capacities.numbers)) c.terms

-- how many of a set there may be, from 0 on, in how many places in a row, from 1 on
unfoldable pub sequence_form : Level → Place → Shape → Shape → Shape → Shape → Act Term
sequence_form l at x v p q = do
  c ← terms l x
  members ← kept_set l v
  most ← number l p
  window ← number l q
  _ ← charge 1 at
  _ ← charge (length c.terms) (place_of x)
  _ ← unless (is_proper (Sequence members most window)) at OutOfRange
  node_form at (ops.Constraint (Sequence members most window)) c.terms

-- a checked program asks no other function here
unfoldable pub constraint_call : Level → Place → Builtin → List Shape → Act Term
constraint_call l at builtins.AllDifferent (x ∷ []) = all_different_form l at x
constraint_call l at builtins.AtMost (b ∷ x ∷ []) = bounded_form l at builtins.AtMost b x
constraint_call l at builtins.AtLeast (b ∷ x ∷ []) = bounded_form l at builtins.AtLeast b x
constraint_call l at builtins.Exactly (b ∷ x ∷ []) = bounded_form l at builtins.Exactly b x
constraint_call l at builtins.Knapsack (w ∷ x ∷ e ∷ []) = knapsack_form l at w x e
constraint_call l at builtins.MultiKnapsack (x ∷ z ∷ e ∷ []) = multi_knapsack_form l at x z e
constraint_call l at builtins.Sequence (x ∷ v ∷ p ∷ q ∷ []) = sequence_form l at x v p q
constraint_call l at f es = give (constant (pos 0))

-- the places of a user's constraint
unfoldable pub user_places : Level → Place → Shape → Act InTerm
user_places l at x = do
  c ← terms l x
  _ ← charge 1 at
  _ ← charge (length c.terms) (place_of x)
  give (Several c)

unfoldable pub function_form : Level → Place → Builtin → List Shape → Act InTerm
function_form l at builtins.User (n ∷ x ∷ []) = user_places l at x
function_form l at f es = single (constraint_call l at f es)

-- a constraint with incremental variables, at its place; a checked program has no other form of one
unfoldable pub constraint_form : Level → Place → Shape → Act InTerm
constraint_form l at (shapes.parentheses e) = l.term e
constraint_form l at (shapes.unary o e) = single (negation_form l at e)
constraint_form l at (shapes.chain first links) = single (combination_form l first (items links))
constraint_form l at (shapes.compare c a b) = single (relation_form l at c a b)
constraint_form l at (shapes.aggregate a gs c body) = single (joining_form l at a (items gs) c body)
constraint_form l at (shapes.builtin f es) = function_form l at f (items es)
constraint_form l at form = give (Single (constant (pos 0)))
