-- What is made of the values of the forms of operands.
-- Definitions of this project.
use Rattle.std.specs.Prelude.{Bool, ◌∷◌, ◌≡◌, map, reverse}
use Rattle.cbl_base.specs.declared.place.Place.{Place}
use Rattle.comet_syntax.specs.declared.tree.expressions.Aggregate.{Aggregate}
use Rattle.comet_syntax.specs.declared.tree.expressions.Aggregate.TheVariants as aggregates
use Rattle.comet_syntax.specs.declared.tree.expressions.Expression.{Expression}
use Rattle.comet_syntax.specs.declared.tree.expressions.Extreme.{Extreme}
use Rattle.comet_syntax.specs.declared.tree.expressions.Extreme.TheVariants as extremes
use Rattle.comet_syntax.specs.declared.tree.expressions.Generators.{Generators}
use Rattle.comet_syntax.specs.declared.tree.expressions.Name.{Name}
use Rattle.comet_syntax.specs.declared.tree.expressions.UnaryOperator.{UnaryOperator}
use Rattle.comet_syntax.specs.Grammar.Expressions.{extreme_min, literal_left_bracket, literal_left_parenthesis, literal_true, operand_name, pair_first_name, pair_named_called, pair_named_in, pair_unnamed, unnamed_left_brace, unnamed_literal, unnamed_min, unnamed_minus, unnamed_sum}
use Rattle.comet_syntax.specs.Written.Expressions.{Writing, aggregate, extreme_of, list_of, option_value, parentheses, set_of, truth, unary, written, written_argument, written_generator, written_generators}
use Rattle.parse_stacks.specs.declared.tails.Pair.{Pair}
use Rattle.parse_stacks.specs.declared.tails.Pair.TheVariants as pairs
use Rattle.parse_stacks.specs.declared.tails.PairRest.{PairRest}
use Rattle.parse_stacks.specs.declared.tails.PairRest.TheVariants as pair_rests
use Rattle.parse_stacks.specs.Raised.{linked, named_operand, raised, with_suffixes}
use Rattle.parse_stacks.specs.Undoing.{Values}
use Rattle.build_expressions.specs.MadeLevels.{behind_of}

-- a name or a call, with its suffixes
abbrev pub NamedMade : Values operand_name → Expression → Type 0
NamedMade (name, (called, (suffixes, end))) x = written x ≡ named_operand name called suffixes

-- a primary with its suffixes
abbrev pub SuffixedMade : Values unnamed_literal → Expression → Type 0
SuffixedMade (primary, (suffixes, end)) x = written x ≡ with_suffixes (written primary) suffixes

abbrev pub SetMade : Values unnamed_left_brace → Expression → Type 0
SetMade (place, (all, (brace, (suffixes, end)))) x = written x ≡ with_suffixes (set_of place (map written_argument (reverse all.items))) suffixes

abbrev pub UnaryMade : UnaryOperator → Values unnamed_minus → Expression → Type 0
UnaryMade o (place, (operand, end)) x = written x ≡ unary o place (written operand)

-- generators, and a product as the body
abbrev pub AggregateMade : Aggregate → Values unnamed_sum → Expression → Type 0
AggregateMade a (place, (left, (generators, (right, (operand, (product, end)))))) x = written x ≡ aggregate a place (written_generators generators) (linked (written operand) product)

abbrev pub aggregate_by : Extreme → Aggregate
aggregate_by extremes.Min = aggregates.Min
aggregate_by extremes.Max = aggregates.Max

-- `min` or `max` with what stands behind its parenthesis
abbrev pub of_pair : Extreme → Place → Pair → Writing
of_pair e p (pairs.Two left right suffixes) = with_suffixes (extreme_of e p (written left) (written right)) suffixes
of_pair e p (pairs.Over g body) = aggregate (aggregate_by e) p (written_generators g) (written body)

abbrev pub PairMade : Extreme → Values unnamed_min → Expression → Type 0
PairMade e (place, (left, (pair, end))) x = written x ≡ of_pair e place pair

-- a name, with what stands behind it
abbrev pub Begun : Name → PairRest → Pair → Type 0
Begun n (pair_rests.Over domain more condition body) x = (g : Generators) × (x ≡ pairs.Over g body)
    × (written_generators g ≡ record { all = record { bound = n; domain = written domain } ∷ map written_generator (reverse more.items); only = option_value written condition })
Begun n (pair_rests.Two called inner b right suffixes) x = (left : Expression) × (x ≡ pairs.Two left right suffixes) × (written left ≡ raised (named_operand n called inner) b)

abbrev pub NamedPairMade : Values pair_first_name → Pair → Type 0
NamedPairMade (name, (rest, end)) x = Begun name rest x

abbrev pub UnnamedPairMade : Values pair_unnamed → Pair → Type 0
UnnamedPairMade (operand, (product, (total, (up_to, (compared, (conjunction, (disjunction, (branches, (comma, (second, (parenthesis, (suffixes, end)))))))))))) x =
    (first : Expression) × (x ≡ pairs.Two first second suffixes) × (written first ≡ raised (written operand) (behind_of product total up_to compared conjunction disjunction branches))

abbrev pub PairOverMade : Values pair_named_in → PairRest → Type 0
PairOverMade (word, (domain, (more, (condition, (parenthesis, (operand, (product, end))))))) x = (body : Expression) × (x ≡ pair_rests.Over domain more condition body) × (written body ≡ linked (written operand) product)

abbrev pub PairTwoMade : Values pair_named_called → PairRest → Type 0
PairTwoMade (called, (inner, (product, (total, (up_to, (compared, (conjunction, (disjunction, (branches, (comma, (second, (parenthesis, (suffixes, end))))))))))))) x =
    x ≡ pair_rests.Two called inner (behind_of product total up_to compared conjunction disjunction branches) second suffixes

abbrev pub TruthMade : Bool → Values literal_true → Expression → Type 0
TruthMade b (place, end) x = written x ≡ truth b place

abbrev pub ParenthesesMade : Values literal_left_parenthesis → Expression → Type 0
ParenthesesMade (place, (inner, (parenthesis, end))) x = written x ≡ parentheses place (written inner)

abbrev pub ListMade : Values literal_left_bracket → Expression → Type 0
ListMade (place, (all, (bracket, end))) x = written x ≡ list_of place (map written_argument (reverse all.items))

abbrev pub ExtremeMade : Extreme → Values extreme_min → Expression → Type 0
ExtremeMade e (place, (parenthesis, (left, (comma, (right, (closing, end)))))) x = written x ≡ extreme_of e place (written left) (written right)
