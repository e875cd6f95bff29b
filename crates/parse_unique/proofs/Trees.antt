-- Each expression is read back, by induction.
use Rattle.std.specs.Prelude.{List, [], ◌∷◌, Option, None, Some, ◌≡◌, map, refl}
use Rattle.std.proofs.Common.{sym, subst}
use Rattle.std.specs.declared.boxed.Box.{Box}
use Rattle.std.specs.declared.alloc.Global.{Global}
use Rattle.std.specs.declared.vec.Vec.{Vec}
use Rattle.comet_syntax.specs.declared.tree.expressions.Argument.{Argument, roll-Argument}
use Rattle.comet_syntax.specs.declared.tree.expressions.Expression.{Expression, roll-Expression}
use Rattle.comet_syntax.specs.declared.tree.expressions.Suffix.{Suffix, roll-Suffix}
use Rattle.comet_syntax.specs.declared.tree.expressions.Generator.{Generator, roll-Generator, fold-roll-Generator}
use Rattle.comet_syntax.specs.declared.tree.expressions.Generators.{Generators, roll-Generators, fold-roll-Generators}
use Rattle.comet_syntax.specs.declared.tree.expressions.Link.{Link, roll-Link, fold-roll-Link}
use Rattle.comet_syntax.specs.declared.tree.expressions.Argument.TheOpen as layers
use Rattle.comet_syntax.specs.declared.tree.expressions.Argument.TheFolds.{fold-roll-Expression, fold-roll-Argument, fold-roll-Suffix, map-Argument, map-Expression, map-Suffix, map-Generator, map-Generators, map-Link, ind-Argument, ind-Expression, ind-Generators}
use Rattle.comet_syntax.specs.Written.Shown.{Grows}
use Rattle.comet_syntax.specs.Written.Expressions.{Writing, GeneratorText, GeneratorsText, LinkText, argument_text, expression_text, suffix_text, generator_layer, generators_layer, link_layer, written, written_argument, written_suffix, written_generator, written_generators, written_link}
use Rattle.parse_unique.specs.Bare as bares
use Rattle.parse_unique.specs.Bare.{Bare, bare_expression, bare_argument, bare_suffix, bare_generator, bare_generators, bare_link}
use Rattle.parse_unique.proofs.Listings.{Conses, EachOf, none, and_one}
use Rattle.parse_unique.proofs.Good.{Good}
use Rattle.parse_unique.proofs.Expressions.{IsTree, GoodGenerator, GoodGenerators, nothing_given, is_given, GoodLink, argument_expression_puts, argument_string_puts, good_number, good_truth, good_parentheses, good_list, good_set, good_name, good_call, good_extreme, good_unary, good_aggregate, good_conditional, good_comparison_of, good_range_of, good_chain, good_link, good_index, good_cell, good_method, good_postfix}

abbrev OfExpression : Expression → Type 0
OfExpression e = Good (written e) (bare_expression e)

abbrev OfArgument : Argument → Type 0
OfArgument a = IsTree (written_argument a) (bare_argument a)

abbrev OfSuffix : Suffix → Type 0
OfSuffix s = Conses (written_suffix s) (bare_suffix s)

abbrev OfGenerator : Generator → Type 0
OfGenerator g = GoodGenerator (written_generator g) (bare_generator g)

abbrev OfGenerators : Generators → Type 0
OfGenerators g = GoodGenerators (written_generators g) (bare_generators g)

abbrev OfLink : Link → Type 0
OfLink l = GoodLink (written_link l) (bare_link l)

-- a tree, and that it is so of it
abbrev A : Type 0
A = (a : Argument) × OfArgument a

abbrev E : Type 0
E = (e : Expression) × OfExpression e

abbrev S : Type 0
S = (s : Suffix) × OfSuffix s

abbrev G : Type 0
G = (g : Generator) × OfGenerator g

abbrev M : Type 0
M = (g : Generators) × OfGenerators g

abbrev L : Type 0
L = (l : Link) × OfLink l

both : {W : Type 0} (P : W → Bare → Type 0) {w v : W} {b c : Bare} → w ≡ v → b ≡ c → P v c → P w b
both P {w} {v} {b} {c} e d p = subst (λ x. P x b) (sym e) (subst (λ x. P v x) (sym d) p)

arguments : (items : List A) → EachOf IsTree (map written_argument (map (λ a. a.0) items)) (map bare_argument (map (λ a. a.0) items))
arguments [] = none
arguments (a ∷ items) = and_one a.1 (arguments items)

suffixes : (items : List S) → EachOf Conses (map written_suffix (map (λ a. a.0) items)) (map bare_suffix (map (λ a. a.0) items))
suffixes [] = none
suffixes (a ∷ items) = and_one a.1 (suffixes items)

links : (items : List L) → EachOf GoodLink (map written_link (map (λ a. a.0) items)) (map bare_link (map (λ a. a.0) items))
links [] = none
links (a ∷ items) = and_one {x = written_link a.0} a.1 (links items)

generators : (items : List G) → EachOf GoodGenerator (map written_generator (map (λ a. a.0) items)) (map bare_generator (map (λ a. a.0) items))
generators [] = none
generators (a ∷ items) = and_one a.1 (generators items)

expression_rolled : (z : layers.Expression-F Argument Expression Suffix Generator Generators Link)
    → Good (expression_text (map-Expression Argument Expression Suffix Generator Generators Link Grows Writing Grows GeneratorText GeneratorsText LinkText written_argument written written_suffix written_generator written_generators written_link z))
    (bares.expression_layer (map-Expression Argument Expression Suffix Generator Generators Link Bare Bare Bare Bare Bare Bare bare_argument bare_expression bare_suffix bare_generator bare_generators bare_link z))
    → OfExpression (roll-Expression z)
unfolding written written_argument written_suffix written_generator written_generators written_link bare_expression bare_argument bare_suffix bare_generator bare_generators bare_link
expression_rolled z g = both Good
    (fold-roll-Expression Grows Writing Grows GeneratorText GeneratorsText LinkText argument_text expression_text suffix_text generator_layer generators_layer link_layer z)
    (fold-roll-Expression Bare Bare Bare Bare Bare Bare bares.argument_layer bares.expression_layer bares.suffix_layer bares.generator_layer bares.generators_layer bares.link_layer z) g

argument_rolled : (z : layers.Argument-F Argument Expression Suffix Generator Generators Link)
    → IsTree (argument_text (map-Argument Argument Expression Suffix Generator Generators Link Grows Writing Grows GeneratorText GeneratorsText LinkText written_argument written written_suffix written_generator written_generators written_link z))
    (bares.argument_layer (map-Argument Argument Expression Suffix Generator Generators Link Bare Bare Bare Bare Bare Bare bare_argument bare_expression bare_suffix bare_generator bare_generators bare_link z))
    → OfArgument (roll-Argument z)
unfolding written written_argument written_suffix written_generator written_generators written_link bare_expression bare_argument bare_suffix bare_generator bare_generators bare_link
argument_rolled z g = both IsTree
    (fold-roll-Argument Grows Writing Grows GeneratorText GeneratorsText LinkText argument_text expression_text suffix_text generator_layer generators_layer link_layer z)
    (fold-roll-Argument Bare Bare Bare Bare Bare Bare bares.argument_layer bares.expression_layer bares.suffix_layer bares.generator_layer bares.generators_layer bares.link_layer z) g

suffix_rolled : (z : layers.Suffix-F Argument Expression Suffix Generator Generators Link)
    → Conses (suffix_text (map-Suffix Argument Expression Suffix Generator Generators Link Grows Writing Grows GeneratorText GeneratorsText LinkText written_argument written written_suffix written_generator written_generators written_link z))
    (bares.suffix_layer (map-Suffix Argument Expression Suffix Generator Generators Link Bare Bare Bare Bare Bare Bare bare_argument bare_expression bare_suffix bare_generator bare_generators bare_link z))
    → OfSuffix (roll-Suffix z)
unfolding written written_argument written_suffix written_generator written_generators written_link bare_expression bare_argument bare_suffix bare_generator bare_generators bare_link
suffix_rolled z g = both Conses
    (fold-roll-Suffix Grows Writing Grows GeneratorText GeneratorsText LinkText argument_text expression_text suffix_text generator_layer generators_layer link_layer z)
    (fold-roll-Suffix Bare Bare Bare Bare Bare Bare bares.argument_layer bares.expression_layer bares.suffix_layer bares.generator_layer bares.generators_layer bares.link_layer z) g

generator_rolled : (z : layers.Generator-F Argument Expression Suffix Generator Generators Link)
    → GoodGenerator (generator_layer (map-Generator Argument Expression Suffix Generator Generators Link Grows Writing Grows GeneratorText GeneratorsText LinkText written_argument written written_suffix written_generator written_generators written_link z))
    (bares.generator_layer (map-Generator Argument Expression Suffix Generator Generators Link Bare Bare Bare Bare Bare Bare bare_argument bare_expression bare_suffix bare_generator bare_generators bare_link z))
    → OfGenerator (roll-Generator z)
unfolding written written_argument written_suffix written_generator written_generators written_link bare_expression bare_argument bare_suffix bare_generator bare_generators bare_link
generator_rolled z g = both GoodGenerator
    (fold-roll-Generator Grows Writing Grows GeneratorText GeneratorsText LinkText argument_text expression_text suffix_text generator_layer generators_layer link_layer z)
    (fold-roll-Generator Bare Bare Bare Bare Bare Bare bares.argument_layer bares.expression_layer bares.suffix_layer bares.generator_layer bares.generators_layer bares.link_layer z) g

generators_rolled : (z : layers.Generators-F Argument Expression Suffix Generator Generators Link)
    → GoodGenerators (generators_layer (map-Generators Argument Expression Suffix Generator Generators Link Grows Writing Grows GeneratorText GeneratorsText LinkText written_argument written written_suffix written_generator written_generators written_link z))
    (bares.generators_layer (map-Generators Argument Expression Suffix Generator Generators Link Bare Bare Bare Bare Bare Bare bare_argument bare_expression bare_suffix bare_generator bare_generators bare_link z))
    → OfGenerators (roll-Generators z)
unfolding written written_argument written_suffix written_generator written_generators written_link bare_expression bare_argument bare_suffix bare_generator bare_generators bare_link
generators_rolled z g = both GoodGenerators
    (fold-roll-Generators Grows Writing Grows GeneratorText GeneratorsText LinkText argument_text expression_text suffix_text generator_layer generators_layer link_layer z)
    (fold-roll-Generators Bare Bare Bare Bare Bare Bare bares.argument_layer bares.expression_layer bares.suffix_layer bares.generator_layer bares.generators_layer bares.link_layer z) g

link_rolled : (z : layers.Link-F Argument Expression Suffix Generator Generators Link)
    → GoodLink (link_layer (map-Link Argument Expression Suffix Generator Generators Link Grows Writing Grows GeneratorText GeneratorsText LinkText written_argument written written_suffix written_generator written_generators written_link z))
    (bares.link_layer (map-Link Argument Expression Suffix Generator Generators Link Bare Bare Bare Bare Bare Bare bare_argument bare_expression bare_suffix bare_generator bare_generators bare_link z))
    → OfLink (roll-Link z)
unfolding written written_argument written_suffix written_generator written_generators written_link bare_expression bare_argument bare_suffix bare_generator bare_generators bare_link
link_rolled z g = both GoodLink
    (fold-roll-Link Grows Writing Grows GeneratorText GeneratorsText LinkText argument_text expression_text suffix_text generator_layer generators_layer link_layer z)
    (fold-roll-Link Bare Bare Bare Bare Bare Bare bares.argument_layer bares.expression_layer bares.suffix_layer bares.generator_layer bares.generators_layer bares.link_layer z) g

module _ where
  abbrev alone_E : layers.Expression-F A E S G M L → layers.Expression-F Argument Expression Suffix Generator Generators Link
  alone_E = map-Expression A E S G M L Argument Expression Suffix Generator Generators Link (λ e. e.0) (λ e. e.0) (λ e. e.0) (λ e. e.0) (λ e. e.0) (λ e. e.0)

  in_expression : (y : layers.Expression-F A E S G M L) → OfExpression (roll-Expression (alone_E y))
  in_expression (layers.Conditional a b c) = expression_rolled (alone_E (layers.Conditional a b c)) (good_conditional a.value.1 b.value.1 c.value.1)
  in_expression (layers.Chain a l) = expression_rolled (alone_E (layers.Chain a l)) (good_chain a.value.1 (links l.items))
  in_expression (layers.Comparison a o p b) = expression_rolled (alone_E (layers.Comparison a o p b)) (good_comparison_of o p a.value.1 b.value.1)
  in_expression (layers.Range a p b) = expression_rolled (alone_E (layers.Range a p b)) (good_range_of p a.value.1 b.value.1)
  in_expression (layers.Unary o p a) = expression_rolled (alone_E (layers.Unary o p a)) (good_unary o p a.value.1)
  in_expression (layers.Aggregate o p g a) = expression_rolled (alone_E (layers.Aggregate o p g a)) (good_aggregate o p g.value.1 a.value.1)
  in_expression (layers.Postfix a l) = expression_rolled (alone_E (layers.Postfix a l)) (good_postfix (written a.value.0).primary_rest (written a.value.0).head a.value.1.steady a.value.1.primary (suffixes l.items))
  in_expression (layers.Number n p) = expression_rolled (alone_E (layers.Number n p)) (good_number n p)
  in_expression (layers.Truth b p) = expression_rolled (alone_E (layers.Truth b p)) (good_truth b p)
  in_expression (layers.Name n) = expression_rolled (alone_E (layers.Name n)) (good_name n)
  in_expression (layers.Call n a) = expression_rolled (alone_E (layers.Call n a)) (good_call n.value (arguments a.items))
  in_expression (layers.Extreme e p a b) = expression_rolled (alone_E (layers.Extreme e p a b)) (good_extreme e p a.value.1 b.value.1)
  in_expression (layers.Parentheses p a) = expression_rolled (alone_E (layers.Parentheses p a)) (good_parentheses p a.value.1)
  in_expression (layers.List p a) = expression_rolled (alone_E (layers.List p a)) (good_list p (arguments a.items))
  in_expression (layers.Set p a) = expression_rolled (alone_E (layers.Set p a)) (good_set p (arguments a.items))

  abbrev alone_A : layers.Argument-F A E S G M L → layers.Argument-F Argument Expression Suffix Generator Generators Link
  alone_A = map-Argument A E S G M L Argument Expression Suffix Generator Generators Link (λ e. e.0) (λ e. e.0) (λ e. e.0) (λ e. e.0) (λ e. e.0) (λ e. e.0)

  in_argument : (y : layers.Argument-F A E S G M L) → OfArgument (roll-Argument (alone_A y))
  in_argument (layers.Expression e) = argument_rolled (alone_A (layers.Expression e)) (argument_expression_puts e.1)
  in_argument (layers.Str t) = argument_rolled (alone_A (layers.Str t)) (argument_string_puts t)

  abbrev alone_S : layers.Suffix-F A E S G M L → layers.Suffix-F Argument Expression Suffix Generator Generators Link
  alone_S = map-Suffix A E S G M L Argument Expression Suffix Generator Generators Link (λ e. e.0) (λ e. e.0) (λ e. e.0) (λ e. e.0) (λ e. e.0) (λ e. e.0)

  in_suffix : (y : layers.Suffix-F A E S G M L) → OfSuffix (roll-Suffix (alone_S y))
  in_suffix (layers.Index p e) = suffix_rolled (alone_S (layers.Index p e)) (good_index p e.1)
  in_suffix (layers.Cell p a b) = suffix_rolled (alone_S (layers.Cell p a b)) (good_cell p a.1 b.1)
  in_suffix (layers.Method n a) = suffix_rolled (alone_S (layers.Method n a)) (good_method n (arguments a.items))

  abbrev alone_G : layers.Generator-F A E S G M L → layers.Generator-F Argument Expression Suffix Generator Generators Link
  alone_G = map-Generator A E S G M L Argument Expression Suffix Generator Generators Link (λ e. e.0) (λ e. e.0) (λ e. e.0) (λ e. e.0) (λ e. e.0) (λ e. e.0)

  in_generator : (y : layers.Generator-F A E S G M L) → OfGenerator (roll-Generator (alone_G y))
  in_generator y = generator_rolled (alone_G y) (record { domain = bare_expression y.domain.0; good = y.domain.1; is = refl })

  abbrev alone_M : layers.Generators-F A E S G M L → layers.Generators-F Argument Expression Suffix Generator Generators Link
  alone_M = map-Generators A E S G M L Argument Expression Suffix Generator Generators Link (λ e. e.0) (λ e. e.0) (λ e. e.0) (λ e. e.0) (λ e. e.0) (λ e. e.0)

  in_parts : (gs : Vec G Global) (c : Option (Box E Global)) → OfGenerators (roll-Generators (alone_M (record { generators = gs; condition = c })))
  in_parts gs None = generators_rolled (alone_M (record { generators = gs; condition = None })) (record {
    parts = map bare_generator (map (λ g. g.0) gs.items);
    only = Bare.left_out;
    good = generators gs.items;
    good_only = nothing_given;
    is = refl;
  })
  in_parts gs (Some b) = generators_rolled (alone_M (record { generators = gs; condition = Some b })) (record {
    parts = map bare_generator (map (λ g. g.0) gs.items);
    only = Bare.given (bare_expression b.value.0);
    good = generators gs.items;
    good_only = is_given b.value.1;
    is = refl;
  })

  in_generators : (y : layers.Generators-F A E S G M L) → OfGenerators (roll-Generators (alone_M y))
  in_generators y = in_parts y.generators y.condition

  abbrev alone_L : layers.Link-F A E S G M L → layers.Link-F Argument Expression Suffix Generator Generators Link
  alone_L = map-Link A E S G M L Argument Expression Suffix Generator Generators Link (λ e. e.0) (λ e. e.0) (λ e. e.0) (λ e. e.0) (λ e. e.0) (λ e. e.0)

  in_link : (y : layers.Link-F A E S G M L) → OfLink (roll-Link (alone_L y))
  in_link y = link_rolled (alone_L y) (good_link y.operator y.place y.operand.1)

pub good_expression : (e : Expression) → Good (written e) (bare_expression e)
good_expression = ind-Expression OfArgument OfExpression OfSuffix OfGenerator OfGenerators OfLink
    (λ x y is. subst (λ z. OfArgument (roll-Argument z)) is (in_argument y)) (λ x y is. subst (λ z. OfExpression (roll-Expression z)) is (in_expression y))
    (λ x y is. subst (λ z. OfSuffix (roll-Suffix z)) is (in_suffix y)) (λ x y is. subst (λ z. OfGenerator (roll-Generator z)) is (in_generator y))
    (λ x y is. subst (λ z. OfGenerators (roll-Generators z)) is (in_generators y)) (λ x y is. subst (λ z. OfLink (roll-Link z)) is (in_link y))

pub good_argument : (a : Argument) → IsTree (written_argument a) (bare_argument a)
good_argument = ind-Argument OfArgument OfExpression OfSuffix OfGenerator OfGenerators OfLink
    (λ x y is. subst (λ z. OfArgument (roll-Argument z)) is (in_argument y)) (λ x y is. subst (λ z. OfExpression (roll-Expression z)) is (in_expression y))
    (λ x y is. subst (λ z. OfSuffix (roll-Suffix z)) is (in_suffix y)) (λ x y is. subst (λ z. OfGenerator (roll-Generator z)) is (in_generator y))
    (λ x y is. subst (λ z. OfGenerators (roll-Generators z)) is (in_generators y)) (λ x y is. subst (λ z. OfLink (roll-Link z)) is (in_link y))

pub good_generators : (g : Generators) → GoodGenerators (written_generators g) (bare_generators g)
good_generators = ind-Generators OfArgument OfExpression OfSuffix OfGenerator OfGenerators OfLink
    (λ x y is. subst (λ z. OfArgument (roll-Argument z)) is (in_argument y)) (λ x y is. subst (λ z. OfExpression (roll-Expression z)) is (in_expression y))
    (λ x y is. subst (λ z. OfSuffix (roll-Suffix z)) is (in_suffix y)) (λ x y is. subst (λ z. OfGenerator (roll-Generator z)) is (in_generator y))
    (λ x y is. subst (λ z. OfGenerators (roll-Generators z)) is (in_generators y)) (λ x y is. subst (λ z. OfLink (roll-Link z)) is (in_link y))
