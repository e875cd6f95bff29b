-- Every expression behaves, by induction over trees.
use Rattle.std.specs.Prelude.{List, [], ◌∷◌, map, Option, None, Some}
use Rattle.std.proofs.Common.{sym, subst}
use Rattle.std.specs.declared.alloc.Global.{Global}
use Rattle.std.specs.declared.boxed.Box.{Box}
use Rattle.std.specs.declared.vec.Vec.{Vec}
use Rattle.comet_syntax.specs.declared.tree.expressions.Argument.{Argument, roll-Argument}
use Rattle.comet_syntax.specs.declared.tree.expressions.Expression.{Expression, roll-Expression}
use Rattle.comet_syntax.specs.declared.tree.expressions.Suffix.{Suffix, roll-Suffix}
use Rattle.comet_syntax.specs.declared.tree.expressions.Generator.{Generator, roll-Generator, fold-roll-Generator}
use Rattle.comet_syntax.specs.declared.tree.expressions.Generators.{Generators, roll-Generators, fold-roll-Generators}
use Rattle.comet_syntax.specs.declared.tree.expressions.Link.{Link, roll-Link, fold-roll-Link}
use Rattle.comet_syntax.specs.declared.tree.expressions.Argument.TheOpen as layers
use Rattle.comet_syntax.specs.declared.tree.expressions.Argument.TheFolds.{fold-roll-Expression, fold-roll-Argument, fold-roll-Suffix, map-Argument, map-Expression, map-Suffix, map-Generator, map-Generators, map-Link, ind-Argument, ind-Expression, ind-Generators}
use Rattle.checked_tree.specs.declared.kind.Kind.TheVariants as kind
use Rattle.checked_tree.specs.Shape as shapes
use Rattle.type_rules.specs.Rules.{plain}
use Rattle.type_expressions.specs.Expressions.{Judge, Suffixed, Generated, Generating, Linked, argument_layer, expression_layer, suffix_layer, generator_layer, generators_layer, link_layer, judge, judge_argument, judge_suffix, judge_generator, judge_generators, judge_link}
use Rattle.type_laws.proofs.Allowed.{AllOf, behaves_give}
use Rattle.type_laws.proofs.Forms.{Good, GoodSuffix, GoodGenerating, made_good, name_good, unary_good, comparison_good, range_good, conditional_good, parentheses_good, extreme_good, chain_good, list_good, set_good, call_good, index_good, cell_good, method_good, postfix_good, aggregate_good}

abbrev OfArgument : Argument → Type 0
OfArgument a = Good (judge_argument a)

abbrev OfExpression : Expression → Type 0
OfExpression a = Good (judge a)

abbrev OfSuffix : Suffix → Type 0
OfSuffix a = GoodSuffix (judge_suffix a)

abbrev OfGenerator : Generator → Type 0
OfGenerator a = Good (judge_generator a).domain

abbrev OfGenerators : Generators → Type 0
OfGenerators a = GoodGenerating (judge_generators a)

abbrev OfLink : Link → Type 0
OfLink a = Good (judge_link a).operand

-- a tree, and that it behaves
abbrev A : Type 0
A = (a : Argument) × OfArgument a

abbrev E : Type 0
E = (a : Expression) × OfExpression a

abbrev S : Type 0
S = (a : Suffix) × OfSuffix a

abbrev G : Type 0
G = (a : Generator) × OfGenerator a

abbrev M : Type 0
M = (a : Generators) × OfGenerators a

abbrev L : Type 0
L = (a : Link) × OfLink a

arguments : (items : List A) → AllOf Good (map judge_argument (map (λ a. a.0) items))
arguments [] = tt
arguments (a ∷ items) = (a.1, arguments items)

suffixes : (items : List S) → AllOf GoodSuffix (map judge_suffix (map (λ a. a.0) items))
suffixes [] = tt
suffixes (a ∷ items) = (a.1, suffixes items)

links : (items : List L) → AllOf (λ (l : Linked). Good l.operand) (map judge_link (map (λ a. a.0) items))
links [] = tt
links (a ∷ items) = (a.1, links items)

generators : (items : List G) → AllOf (λ (g : Generated). Good g.domain) (map judge_generator (map (λ a. a.0) items))
generators [] = tt
generators (a ∷ items) = (a.1, generators items)

argument_rolled : (z : layers.Argument-F Argument Expression Suffix Generator Generators Link) → Good (argument_layer (map-Argument Argument Expression Suffix Generator Generators Link Judge Judge Suffixed Generated Generating Linked judge_argument judge judge_suffix judge_generator judge_generators judge_link z)) → OfArgument (roll-Argument z)
unfolding judge judge_argument judge_suffix judge_generator judge_generators judge_link
argument_rolled z g = subst Good (sym (fold-roll-Argument Judge Judge Suffixed Generated Generating Linked argument_layer expression_layer suffix_layer generator_layer generators_layer link_layer z)) g

expression_rolled : (z : layers.Expression-F Argument Expression Suffix Generator Generators Link) → Good (expression_layer (map-Expression Argument Expression Suffix Generator Generators Link Judge Judge Suffixed Generated Generating Linked judge_argument judge judge_suffix judge_generator judge_generators judge_link z)) → OfExpression (roll-Expression z)
unfolding judge judge_argument judge_suffix judge_generator judge_generators judge_link
expression_rolled z g = subst Good (sym (fold-roll-Expression Judge Judge Suffixed Generated Generating Linked argument_layer expression_layer suffix_layer generator_layer generators_layer link_layer z)) g

suffix_rolled : (z : layers.Suffix-F Argument Expression Suffix Generator Generators Link) → GoodSuffix (suffix_layer (map-Suffix Argument Expression Suffix Generator Generators Link Judge Judge Suffixed Generated Generating Linked judge_argument judge judge_suffix judge_generator judge_generators judge_link z)) → OfSuffix (roll-Suffix z)
unfolding judge judge_argument judge_suffix judge_generator judge_generators judge_link
suffix_rolled z g = subst GoodSuffix (sym (fold-roll-Suffix Judge Judge Suffixed Generated Generating Linked argument_layer expression_layer suffix_layer generator_layer generators_layer link_layer z)) g

generator_rolled : (z : layers.Generator-F Argument Expression Suffix Generator Generators Link) → (λ (g : Generated). Good g.domain) (generator_layer (map-Generator Argument Expression Suffix Generator Generators Link Judge Judge Suffixed Generated Generating Linked judge_argument judge judge_suffix judge_generator judge_generators judge_link z)) → OfGenerator (roll-Generator z)
unfolding judge judge_argument judge_suffix judge_generator judge_generators judge_link
generator_rolled z g = subst (λ (g : Generated). Good g.domain) (sym (fold-roll-Generator Judge Judge Suffixed Generated Generating Linked argument_layer expression_layer suffix_layer generator_layer generators_layer link_layer z)) g

generators_rolled : (z : layers.Generators-F Argument Expression Suffix Generator Generators Link) → GoodGenerating (generators_layer (map-Generators Argument Expression Suffix Generator Generators Link Judge Judge Suffixed Generated Generating Linked judge_argument judge judge_suffix judge_generator judge_generators judge_link z)) → OfGenerators (roll-Generators z)
unfolding judge judge_argument judge_suffix judge_generator judge_generators judge_link
generators_rolled z g = subst GoodGenerating (sym (fold-roll-Generators Judge Judge Suffixed Generated Generating Linked argument_layer expression_layer suffix_layer generator_layer generators_layer link_layer z)) g

link_rolled : (z : layers.Link-F Argument Expression Suffix Generator Generators Link) → (λ (l : Linked). Good l.operand) (link_layer (map-Link Argument Expression Suffix Generator Generators Link Judge Judge Suffixed Generated Generating Linked judge_argument judge judge_suffix judge_generator judge_generators judge_link z)) → OfLink (roll-Link z)
unfolding judge judge_argument judge_suffix judge_generator judge_generators judge_link
link_rolled z g = subst (λ (l : Linked). Good l.operand) (sym (fold-roll-Link Judge Judge Suffixed Generated Generating Linked argument_layer expression_layer suffix_layer generator_layer generators_layer link_layer z)) g

abbrev alone_A : layers.Argument-F A E S G M L → layers.Argument-F Argument Expression Suffix Generator Generators Link
alone_A = map-Argument A E S G M L Argument Expression Suffix Generator Generators Link (λ e. e.0) (λ e. e.0) (λ e. e.0) (λ e. e.0) (λ e. e.0) (λ e. e.0)

abbrev alone_E : layers.Expression-F A E S G M L → layers.Expression-F Argument Expression Suffix Generator Generators Link
alone_E = map-Expression A E S G M L Argument Expression Suffix Generator Generators Link (λ e. e.0) (λ e. e.0) (λ e. e.0) (λ e. e.0) (λ e. e.0) (λ e. e.0)

abbrev alone_S : layers.Suffix-F A E S G M L → layers.Suffix-F Argument Expression Suffix Generator Generators Link
alone_S = map-Suffix A E S G M L Argument Expression Suffix Generator Generators Link (λ e. e.0) (λ e. e.0) (λ e. e.0) (λ e. e.0) (λ e. e.0) (λ e. e.0)

abbrev alone_G : layers.Generator-F A E S G M L → layers.Generator-F Argument Expression Suffix Generator Generators Link
alone_G = map-Generator A E S G M L Argument Expression Suffix Generator Generators Link (λ e. e.0) (λ e. e.0) (λ e. e.0) (λ e. e.0) (λ e. e.0) (λ e. e.0)

abbrev alone_M : layers.Generators-F A E S G M L → layers.Generators-F Argument Expression Suffix Generator Generators Link
alone_M = map-Generators A E S G M L Argument Expression Suffix Generator Generators Link (λ e. e.0) (λ e. e.0) (λ e. e.0) (λ e. e.0) (λ e. e.0) (λ e. e.0)

abbrev alone_L : layers.Link-F A E S G M L → layers.Link-F Argument Expression Suffix Generator Generators Link
alone_L = map-Link A E S G M L Argument Expression Suffix Generator Generators Link (λ e. e.0) (λ e. e.0) (λ e. e.0) (λ e. e.0) (λ e. e.0) (λ e. e.0)

in_expression : (y : layers.Expression-F A E S G M L) → OfExpression (roll-Expression (alone_E y))
in_expression (layers.Conditional a b c) = expression_rolled (alone_E (layers.Conditional a b c)) (conditional_good _ _ _ a.value.1 b.value.1 c.value.1)
in_expression (layers.Chain a l) = expression_rolled (alone_E (layers.Chain a l)) (chain_good _ _ a.value.1 (links l.items))
in_expression (layers.Comparison a o p b) = expression_rolled (alone_E (layers.Comparison a o p b)) (comparison_good _ o p _ a.value.1 b.value.1)
in_expression (layers.Range a p b) = expression_rolled (alone_E (layers.Range a p b)) (range_good _ p _ a.value.1 b.value.1)
in_expression (layers.Unary o p a) = expression_rolled (alone_E (layers.Unary o p a)) (unary_good o p _ a.value.1)
in_expression (layers.Aggregate o p g a) = expression_rolled (alone_E (layers.Aggregate o p g a)) (aggregate_good o p _ _ g.value.1 a.value.1)
in_expression (layers.Postfix a l) = expression_rolled (alone_E (layers.Postfix a l)) (postfix_good _ _ a.value.1 (suffixes l.items))
in_expression (layers.Number n p) = expression_rolled (alone_E (layers.Number n p)) (λ scope. made_good scope p p (shapes.number n) (plain kind.Int))
in_expression (layers.Truth b p) = expression_rolled (alone_E (layers.Truth b p)) (λ scope. made_good scope p p (shapes.truth b) (plain kind.Bool))
in_expression (layers.Name n) = expression_rolled (alone_E (layers.Name n)) (name_good n)
in_expression (layers.Call n a) = expression_rolled (alone_E (layers.Call n a)) (call_good n.value _ (arguments a.items))
in_expression (layers.Extreme e p a b) = expression_rolled (alone_E (layers.Extreme e p a b)) (extreme_good e p _ _ a.value.1 b.value.1)
in_expression (layers.Parentheses p a) = expression_rolled (alone_E (layers.Parentheses p a)) (parentheses_good p _ a.value.1)
in_expression (layers.List p a) = expression_rolled (alone_E (layers.List p a)) (list_good p _ (arguments a.items))
in_expression (layers.Set p a) = expression_rolled (alone_E (layers.Set p a)) (set_good p _ (arguments a.items))

in_argument : (y : layers.Argument-F A E S G M L) → OfArgument (roll-Argument (alone_A y))
in_argument (layers.Expression e) = argument_rolled (alone_A (layers.Expression e)) e.1
in_argument (layers.Str t) = argument_rolled (alone_A (layers.Str t)) (λ scope. behaves_give scope _)

in_suffix : (y : layers.Suffix-F A E S G M L) → OfSuffix (roll-Suffix (alone_S y))
in_suffix (layers.Index p e) = suffix_rolled (alone_S (layers.Index p e)) (index_good p _ e.1)
in_suffix (layers.Cell p a b) = suffix_rolled (alone_S (layers.Cell p a b)) (cell_good p _ _ a.1 b.1)
in_suffix (layers.Method n a) = suffix_rolled (alone_S (layers.Method n a)) (method_good n _ (arguments a.items))

in_generator : (y : layers.Generator-F A E S G M L) → OfGenerator (roll-Generator (alone_G y))
in_generator y = generator_rolled (alone_G y) y.domain.1

in_parts : (gs : Vec G Global) (c : Option (Box E Global)) → OfGenerators (roll-Generators (alone_M (record { generators = gs; condition = c })))
in_parts gs None = generators_rolled (alone_M (record { generators = gs; condition = None })) (record { generators = generators gs.items; condition = tt })
in_parts gs (Some b) = generators_rolled (alone_M (record { generators = gs; condition = Some b })) (record { generators = generators gs.items; condition = b.value.1 })

in_generators : (y : layers.Generators-F A E S G M L) → OfGenerators (roll-Generators (alone_M y))
in_generators y = in_parts y.generators y.condition

in_link : (y : layers.Link-F A E S G M L) → OfLink (roll-Link (alone_L y))
in_link y = link_rolled (alone_L y) y.operand.1

pub expression_good : (e : Expression) → Good (judge e)
expression_good = ind-Expression OfArgument OfExpression OfSuffix OfGenerator OfGenerators OfLink
    (λ x y is. subst (λ z. OfArgument (roll-Argument z)) is (in_argument y)) (λ x y is. subst (λ z. OfExpression (roll-Expression z)) is (in_expression y))
    (λ x y is. subst (λ z. OfSuffix (roll-Suffix z)) is (in_suffix y)) (λ x y is. subst (λ z. OfGenerator (roll-Generator z)) is (in_generator y))
    (λ x y is. subst (λ z. OfGenerators (roll-Generators z)) is (in_generators y)) (λ x y is. subst (λ z. OfLink (roll-Link z)) is (in_link y))

pub generating_good : (g : Generators) → GoodGenerating (judge_generators g)
generating_good = ind-Generators OfArgument OfExpression OfSuffix OfGenerator OfGenerators OfLink
    (λ x y is. subst (λ z. OfArgument (roll-Argument z)) is (in_argument y)) (λ x y is. subst (λ z. OfExpression (roll-Expression z)) is (in_expression y))
    (λ x y is. subst (λ z. OfSuffix (roll-Suffix z)) is (in_suffix y)) (λ x y is. subst (λ z. OfGenerator (roll-Generator z)) is (in_generator y))
    (λ x y is. subst (λ z. OfGenerators (roll-Generators z)) is (in_generators y)) (λ x y is. subst (λ z. OfLink (roll-Link z)) is (in_link y))

pub argument_good : (a : Argument) → Good (judge_argument a)
argument_good = ind-Argument OfArgument OfExpression OfSuffix OfGenerator OfGenerators OfLink
    (λ x y is. subst (λ z. OfArgument (roll-Argument z)) is (in_argument y)) (λ x y is. subst (λ z. OfExpression (roll-Expression z)) is (in_expression y))
    (λ x y is. subst (λ z. OfSuffix (roll-Suffix z)) is (in_suffix y)) (λ x y is. subst (λ z. OfGenerator (roll-Generator z)) is (in_generator y))
    (λ x y is. subst (λ z. OfGenerators (roll-Generators z)) is (in_generators y)) (λ x y is. subst (λ z. OfLink (roll-Link z)) is (in_link y))
