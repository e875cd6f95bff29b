-- Operators: operands from the left, and then the operation, at whose place its fault stands. `&&`, `||` and `? :`
-- evaluate a later part only where it decides. From the language.
use Rattle.std.specs.Prelude.{pos, ◌-ℤ◌, Bool, false, not, List, [], ◌∷◌, if◌then◌else◌}
use Rattle.cbl_base.specs.declared.place.Place.{Place}
use Rattle.cbl_base.specs.Arithmetic.{exact}
use Rattle.comet_syntax.specs.declared.tree.expressions.ChainOperator.{ChainOperator}
use Rattle.comet_syntax.specs.declared.tree.expressions.ChainOperator.TheVariants as chains
use Rattle.comet_syntax.specs.declared.tree.expressions.Comparison.{Comparison}
use Rattle.comet_syntax.specs.declared.tree.expressions.UnaryOperator.{UnaryOperator}
use Rattle.comet_syntax.specs.declared.tree.expressions.UnaryOperator.TheVariants as unaries
use Rattle.checked_tree.specs.declared.kind.Kind.{Kind}
use Rattle.checked_tree.specs.Shape as shapes
use Rattle.checked_tree.specs.Shape.{Shape}
use Rattle.comet_meaning.specs.Values.{Value, Number, Truth, Range, number_of, truth_of, as_kind}
use Rattle.comet_meaning.specs.Arithmetic.{result_of, holds}
use Rattle.comet_meaning.specs.Outcome.{Act, ◌>>=◌, give, give_or}
use Rattle.comet_meaning.specs.Levels.{Level}
use Rattle.comet_meaning.specs.Parts.{value, number, truth}

-- `-e` and `!e`

abbrev pub unary_result : Place → UnaryOperator → Value → Act Value
unary_result at unaries.Negative v = give_or at (exact (pos 0 -ℤ number_of v)) >>= λ z. give (Number z)
unary_result at unaries.Not v = give (Truth (not (truth_of v)))

unfoldable pub unary_form : Level → Place → UnaryOperator → Shape → Act Value
unary_form l at o e = value l e >>= unary_result at o

-- `a == b` and its like

unfoldable pub compare_form : Level → Comparison → Shape → Shape → Act Value
compare_form l c a b = do
  x ← number l a
  y ← number l b
  give (Truth (holds c x y))

-- chains

-- whether the value so far decides, so that no later operand is evaluated
abbrev pub decides : ChainOperator → Value → Bool
decides chains.Or v = truth_of v
decides chains.And v = not (truth_of v)
decides o v = false

-- the value so far and that of one more operand
abbrev pub linked : Place → ChainOperator → Value → Value → Act Value
linked at chains.Or v w = give (Truth (truth_of w))
linked at chains.And v w = give (Truth (truth_of w))
linked at o v w = give_or at (result_of o (number_of v) (number_of w)) >>= λ z. give (Number z)

unfoldable pub link_form : Level → Place → ChainOperator → Shape → Value → Act Value
link_form l at o e v = if decides o v then give v else (value l e >>= linked at o v)

-- the operands behind the first
unfoldable pub links_form : Level → List Shape → Value → Act Value
links_form l [] v = give v
links_form l (shapes.link o at e ∷ links) v = link_form l at o e v >>= λ w. links_form l links w
links_form l (x ∷ links) v = links_form l links v

unfoldable pub chain_form : Level → Shape → List Shape → Act Value
chain_form l first links = value l first >>= λ v. links_form l links v

-- `a .. b`

unfoldable pub range_form : Level → Shape → Shape → Act Value
range_form l a b = do
  low ← number l a
  up ← number l b
  give (Range (record { low = low; up = up }))

-- `c ? a : b`, which gives a number where one part is a number and the other a truth value

unfoldable pub conditional_form : Level → Kind → Shape → Shape → Shape → Act Value
conditional_form l kind c a b = do
  t ← truth l c
  v ← (if t then value l a else value l b)
  give (as_kind kind v)
