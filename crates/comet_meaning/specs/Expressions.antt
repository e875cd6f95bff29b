-- The value of an expression, one layer of it. From the language.
use Rattle.std.specs.Prelude.{List, [], map}
use Rattle.cbl_base.specs.Sets.{set_of}
use Rattle.cbl_base.specs.declared.place.Place.{Place}
use Rattle.checked_tree.specs.declared.kind.Kind.{Kind}
use Rattle.checked_tree.specs.Shape as shapes
use Rattle.checked_tree.specs.Shape.{Shape}
use Rattle.comet_meaning.specs.Values.{Value, Nothing, Number, Truth, Set, number_of}
use Rattle.comet_meaning.specs.Outcome.{Act, ◌>>=◌, give}
use Rattle.comet_meaning.specs.Cells.{look}
use Rattle.comet_meaning.specs.Levels.{Code, Level}
use Rattle.comet_meaning.specs.Parts.{items, values}
use Rattle.comet_meaning.specs.Operators.{unary_form, compare_form, chain_form, range_form, conditional_form}
use Rattle.comet_meaning.specs.Arrays.{list_form, index_form, cell_form}
use Rattle.comet_meaning.specs.Builtins.{builtin_form}
use Rattle.comet_meaning.specs.Aggregates.{aggregate_form}
use Rattle.comet_meaning.specs.Methods.{method_form}
use Rattle.comet_meaning.specs.Calls.{call_form}

-- `{..}`: the set of the numbers
unfoldable pub set_form : Level → List Shape → Act Value
set_form l es = values l es [] >>= λ vs. give (Set (set_of (map number_of vs)))

-- an expression of this kind at this place, by its form; what is no form of an expression gives nothing
unfoldable pub value_of_form : Code → Level → Place → Kind → Shape → Act Value
value_of_form c l at kind (shapes.number n) = give (Number n)
value_of_form c l at kind (shapes.truth b) = give (Truth b)
value_of_form c l at kind (shapes.name slot) = look slot
value_of_form c l at kind (shapes.parentheses e) = l.expr e
value_of_form c l at kind (shapes.unary o e) = unary_form l at o e
value_of_form c l at kind (shapes.chain first links) = chain_form l first (items links)
value_of_form c l at kind (shapes.compare o a b) = compare_form l o a b
value_of_form c l at kind (shapes.range a b) = range_form l a b
value_of_form c l at kind (shapes.conditional t a b) = conditional_form l kind t a b
value_of_form c l at kind (shapes.list es) = list_form l (items es)
value_of_form c l at kind (shapes.index a i) = index_form l at a i
value_of_form c l at kind (shapes.cell a i j) = cell_form l at a i j
value_of_form c l at kind (shapes.set es) = set_form l (items es)
value_of_form c l at kind (shapes.aggregate a gs t body) = aggregate_form l at a (items gs) t body
value_of_form c l at kind (shapes.builtin f es) = builtin_form l at f (items es)
value_of_form c l at kind (shapes.call f es) = call_form c l at f (items es)
value_of_form c l at kind (shapes.method m o es) = method_form l at m o (items es)
value_of_form c l at kind form = give Nothing

unfoldable pub value_of_expression : Code → Level → Shape → Act Value
value_of_expression c l (shapes.typed start at kind moving form) = value_of_form c l at kind form
value_of_expression c l e = give Nothing
