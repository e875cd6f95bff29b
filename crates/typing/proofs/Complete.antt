-- What is accepted is well typed, by induction over trees.
use Rattle.std.specs.Prelude.{List, [], ◌∷◌, map, Option, None, Some}
use Rattle.std.proofs.Common.{sym, subst}
use Rattle.std.specs.declared.alloc.Global.{Global}
use Rattle.std.specs.declared.boxed.Box.{Box}
use Rattle.std.specs.declared.vec.Vec.{Vec}
use Rattle.comet_syntax.specs.declared.tree.expressions.Argument.{Argument, roll-Argument}
use Rattle.comet_syntax.specs.declared.tree.expressions.Argument.TheVariants as arguments_as
use Rattle.comet_syntax.specs.declared.tree.expressions.Expression.{Expression, roll-Expression}
use Rattle.comet_syntax.specs.declared.tree.expressions.Expression.TheVariants as trees
use Rattle.comet_syntax.specs.declared.tree.expressions.Suffix.{Suffix, roll-Suffix}
use Rattle.comet_syntax.specs.declared.tree.expressions.Suffix.TheVariants as suffixes_as
use Rattle.comet_syntax.specs.declared.tree.expressions.Generator.{Generator, roll-Generator, out-roll-Generator}
use Rattle.comet_syntax.specs.declared.tree.expressions.Generators.{Generators, roll-Generators, out-roll-Generators}
use Rattle.comet_syntax.specs.declared.tree.expressions.Link.{Link, roll-Link, out-roll-Link}
use Rattle.comet_syntax.specs.declared.tree.expressions.Argument.TheOpen as layers
use Rattle.comet_syntax.specs.declared.tree.expressions.Argument.TheFolds.{map-Argument, map-Expression, map-Suffix, map-Generator, map-Generators, map-Link, ind-Argument, ind-Expression, ind-Generators}
use Rattle.typing.proofs.Typed.{OfArgument, OfExpression, OfSuffix, OfGenerators, OfArguments, OfLinks, OfSuffixes, OfGeneratorList, OfCondition, number_typed, truth_typed, name_typed, unary_typed, comparison_typed, range_typed, conditional_typed, parentheses_typed, extreme_typed, chain_typed, list_typed, set_typed, call_typed, postfix_typed, aggregate_typed, argument_expression_typed, argument_string_typed, no_arguments_typed, more_arguments_typed, no_links_typed, more_links_typed, index_typed, cell_typed, method_suffix_typed, no_suffixes_typed, more_suffixes_typed, no_generators_typed, more_generators_typed, no_condition_typed, some_condition_typed}

abbrev OfGenerator : Generator → Type 0
OfGenerator g = OfExpression g.domain

abbrev OfLink : Link → Type 0
OfLink l = OfExpression l.operand

-- a tree, and that what is accepted of it is well typed
abbrev A : Type 0
A = (a : Argument) × OfArgument a

abbrev E : Type 0
E = (a : Expression) × OfExpression a

abbrev S : Type 0
S = (a : Suffix) × OfSuffix a

abbrev G : Type 0
G = (a : Generator) × OfGenerator a

abbrev M : Type 0
M = (a : Generators) × OfGenerators a

abbrev L : Type 0
L = (a : Link) × OfLink a

arguments : (items : List A) → OfArguments (map (λ a. a.0) items)
arguments [] = no_arguments_typed
arguments (a ∷ items) = more_arguments_typed a.0 (map (λ a. a.0) items) a.1 (arguments items)

suffixes : (items : List S) → OfSuffixes (map (λ a. a.0) items)
suffixes [] = no_suffixes_typed
suffixes (a ∷ items) = more_suffixes_typed a.0 (map (λ a. a.0) items) a.1 (suffixes items)

links : (items : List L) → OfLinks (map (λ a. a.0) items)
links [] = no_links_typed
links (a ∷ items) = more_links_typed a.0 (map (λ a. a.0) items) a.1 (links items)

generators : (items : List G) → OfGeneratorList (map (λ a. a.0) items)
generators [] = no_generators_typed
generators (a ∷ items) = more_generators_typed a.0 (map (λ a. a.0) items) a.1 (generators items)

abbrev alone_A : layers.Argument-F A E S G M L → layers.Argument-F Argument Expression Suffix Generator Generators Link
alone_A = map-Argument A E S G M L Argument Expression Suffix Generator Generators Link (λ e. e.0) (λ e. e.0) (λ e. e.0) (λ e. e.0) (λ e. e.0) (λ e. e.0)

abbrev alone_E : layers.Expression-F A E S G M L → layers.Expression-F Argument Expression Suffix Generator Generators Link
alone_E = map-Expression A E S G M L Argument Expression Suffix Generator Generators Link (λ e. e.0) (λ e. e.0) (λ e. e.0) (λ e. e.0) (λ e. e.0) (λ e. e.0)

abbrev alone_S : layers.Suffix-F A E S G M L → layers.Suffix-F Argument Expression Suffix Generator Generators Link
alone_S = map-Suffix A E S G M L Argument Expression Suffix Generator Generators Link (λ e. e.0) (λ e. e.0) (λ e. e.0) (λ e. e.0) (λ e. e.0) (λ e. e.0)

abbrev alone_G : layers.Generator-F A E S G M L → layers.Generator-F Argument Expression Suffix Generator Generators Link
alone_G = map-Generator A E S G M L Argument Expression Suffix Generator Generators Link (λ e. e.0) (λ e. e.0) (λ e. e.0) (λ e. e.0) (λ e. e.0) (λ e. e.0)

abbrev alone_M : layers.Generators-F A E S G M L → layers.Generators-F Argument Expression Suffix Generator Generators Link
alone_M = map-Generators A E S G M L Argument Expression Suffix Generator Generators Link (λ e. e.0) (λ e. e.0) (λ e. e.0) (λ e. e.0) (λ e. e.0) (λ e. e.0)

abbrev alone_L : layers.Link-F A E S G M L → layers.Link-F Argument Expression Suffix Generator Generators Link
alone_L = map-Link A E S G M L Argument Expression Suffix Generator Generators Link (λ e. e.0) (λ e. e.0) (λ e. e.0) (λ e. e.0) (λ e. e.0) (λ e. e.0)

in_expression : (y : layers.Expression-F A E S G M L) → OfExpression (roll-Expression (alone_E y))
in_expression (layers.Conditional a b c) = subst OfExpression (sym (trees.rolls-Conditional _ _ _)) (conditional_typed _ _ _ a.value.1 b.value.1 c.value.1)
in_expression (layers.Chain a l) = subst OfExpression (sym (trees.rolls-Chain _ _)) (chain_typed _ _ a.value.1 (links l.items))
in_expression (layers.Comparison a o p b) = subst OfExpression (sym (trees.rolls-Comparison _ o p _)) (comparison_typed _ o p _ a.value.1 b.value.1)
in_expression (layers.Range a p b) = subst OfExpression (sym (trees.rolls-Range _ p _)) (range_typed _ p _ a.value.1 b.value.1)
in_expression (layers.Unary o p a) = subst OfExpression (sym (trees.rolls-Unary o p _)) (unary_typed o p _ a.value.1)
in_expression (layers.Aggregate o p g a) = subst OfExpression (sym (trees.rolls-Aggregate o p _ _)) (aggregate_typed o p _ _ g.value.1 a.value.1)
in_expression (layers.Postfix a l) = subst OfExpression (sym (trees.rolls-Postfix _ _)) (postfix_typed _ _ a.value.1 (suffixes l.items))
in_expression (layers.Number n p) = subst OfExpression (sym (trees.rolls-Number n p)) (number_typed n p)
in_expression (layers.Truth b p) = subst OfExpression (sym (trees.rolls-Truth b p)) (truth_typed b p)
in_expression (layers.Name n) = subst OfExpression (sym (trees.rolls-Name n)) (name_typed n)
in_expression (layers.Call n a) = subst OfExpression (sym (trees.rolls-Call n _)) (call_typed n _ (arguments a.items))
in_expression (layers.Extreme e p a b) = subst OfExpression (sym (trees.rolls-Extreme e p _ _)) (extreme_typed e p _ _ a.value.1 b.value.1)
in_expression (layers.Parentheses p a) = subst OfExpression (sym (trees.rolls-Parentheses p _)) (parentheses_typed p _ a.value.1)
in_expression (layers.List p a) = subst OfExpression (sym (trees.rolls-List p _)) (list_typed p _ (arguments a.items))
in_expression (layers.Set p a) = subst OfExpression (sym (trees.rolls-Set p _)) (set_typed p _ (arguments a.items))

in_argument : (y : layers.Argument-F A E S G M L) → OfArgument (roll-Argument (alone_A y))
in_argument (layers.Expression e) = subst OfArgument (sym (arguments_as.rolls-Expression _)) (argument_expression_typed _ e.1)
in_argument (layers.Str t) = subst OfArgument (sym (arguments_as.rolls-Str t)) (argument_string_typed t)

in_suffix : (y : layers.Suffix-F A E S G M L) → OfSuffix (roll-Suffix (alone_S y))
in_suffix (layers.Index p e) = subst OfSuffix (sym (suffixes_as.rolls-Index p _)) (index_typed p _ e.1)
in_suffix (layers.Cell p a b) = subst OfSuffix (sym (suffixes_as.rolls-Cell p _ _)) (cell_typed p _ _ a.1 b.1)
in_suffix (layers.Method n a) = subst OfSuffix (sym (suffixes_as.rolls-Method n _)) (method_suffix_typed n _ (arguments a.items))

in_generator : (y : layers.Generator-F A E S G M L) → OfGenerator (roll-Generator (alone_G y))
in_generator y = subst (λ (z : layers.Generator-F Argument Expression Suffix Generator Generators Link). OfExpression z.domain) (sym (out-roll-Generator (alone_G y))) y.domain.1

in_condition : (gs : Vec G Global) (c : Option (Box E Global)) → OfCondition (alone_M (record { generators = gs; condition = c })).condition
in_condition gs None = no_condition_typed
in_condition gs (Some b) = some_condition_typed _ b.value.1

in_generators : (y : layers.Generators-F A E S G M L) → OfGenerators (roll-Generators (alone_M y))
in_generators y = record {
  all = subst (λ (z : layers.Generators-F Argument Expression Suffix Generator Generators Link). OfGeneratorList z.generators.items) (sym (out-roll-Generators (alone_M y))) (generators y.generators.items);
  only = subst (λ (z : layers.Generators-F Argument Expression Suffix Generator Generators Link). OfCondition z.condition) (sym (out-roll-Generators (alone_M y))) (in_condition y.generators y.condition);
}

in_link : (y : layers.Link-F A E S G M L) → OfLink (roll-Link (alone_L y))
in_link y = subst (λ (z : layers.Link-F Argument Expression Suffix Generator Generators Link). OfExpression z.operand) (sym (out-roll-Link (alone_L y))) y.operand.1

pub complete : (e : Expression) → OfExpression e
complete = ind-Expression OfArgument OfExpression OfSuffix OfGenerator OfGenerators OfLink
    (λ x y is. subst (λ z. OfArgument (roll-Argument z)) is (in_argument y)) (λ x y is. subst (λ z. OfExpression (roll-Expression z)) is (in_expression y))
    (λ x y is. subst (λ z. OfSuffix (roll-Suffix z)) is (in_suffix y)) (λ x y is. subst (λ z. OfGenerator (roll-Generator z)) is (in_generator y))
    (λ x y is. subst (λ z. OfGenerators (roll-Generators z)) is (in_generators y)) (λ x y is. subst (λ z. OfLink (roll-Link z)) is (in_link y))

pub argument_complete : (a : Argument) → OfArgument a
argument_complete = ind-Argument OfArgument OfExpression OfSuffix OfGenerator OfGenerators OfLink
    (λ x y is. subst (λ z. OfArgument (roll-Argument z)) is (in_argument y)) (λ x y is. subst (λ z. OfExpression (roll-Expression z)) is (in_expression y))
    (λ x y is. subst (λ z. OfSuffix (roll-Suffix z)) is (in_suffix y)) (λ x y is. subst (λ z. OfGenerator (roll-Generator z)) is (in_generator y))
    (λ x y is. subst (λ z. OfGenerators (roll-Generators z)) is (in_generators y)) (λ x y is. subst (λ z. OfLink (roll-Link z)) is (in_link y))

pub generators_complete : (g : Generators) → OfGenerators g
generators_complete = ind-Generators OfArgument OfExpression OfSuffix OfGenerator OfGenerators OfLink
    (λ x y is. subst (λ z. OfArgument (roll-Argument z)) is (in_argument y)) (λ x y is. subst (λ z. OfExpression (roll-Expression z)) is (in_expression y))
    (λ x y is. subst (λ z. OfSuffix (roll-Suffix z)) is (in_suffix y)) (λ x y is. subst (λ z. OfGenerator (roll-Generator z)) is (in_generator y))
    (λ x y is. subst (λ z. OfGenerators (roll-Generators z)) is (in_generators y)) (λ x y is. subst (λ z. OfLink (roll-Link z)) is (in_link y))

pub arguments_complete : (args : List Argument) → OfArguments args
arguments_complete [] = no_arguments_typed
arguments_complete (a ∷ args) = more_arguments_typed a args (argument_complete a) (arguments_complete args)
