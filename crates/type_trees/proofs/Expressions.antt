-- A tree is judged as it is without its pointers: expressions.
use Rattle.std.specs.Prelude.{List, [], ◌∷◌, Option, None, Some, ◌≡◌, map, refl, option_map}
use Rattle.std.proofs.Common.{sym, ◌∙◌, ap, subst}
use Rattle.std.specs.declared.boxed.Box.{Box}
use Rattle.std.specs.declared.alloc.Global.{Global}
use Rattle.std.specs.declared.vec.Vec.{Vec}
use Rattle.comet_syntax.specs.declared.tree.expressions.Argument.{Argument, roll-Argument}
use Rattle.comet_syntax.specs.declared.tree.expressions.Expression.{Expression, roll-Expression}
use Rattle.comet_syntax.specs.declared.tree.expressions.Suffix.{Suffix, roll-Suffix}
use Rattle.comet_syntax.specs.declared.tree.expressions.Generator.{Generator, roll-Generator, fold-roll-Generator}
use Rattle.comet_syntax.specs.declared.tree.expressions.Generators.{Generators, roll-Generators, fold-roll-Generators}
use Rattle.comet_syntax.specs.declared.tree.expressions.Link.{Link, roll-Link, fold-roll-Link}
use Rattle.comet_syntax.specs.declared.tree.expressions.Argument.TheOpen as layers
use Rattle.comet_syntax.specs.declared.tree.expressions.Argument.TheFolds.{fold-roll-Expression, fold-roll-Argument, fold-roll-Suffix, map-Argument, map-Expression, map-Suffix, map-Generator, map-Generators, map-Link, ind-Argument, ind-Expression, ind-Generators}
use Rattle.cbl_base.specs.declared.place.Place.{Place}
use Rattle.comet_syntax.specs.declared.tree.expressions.Name.{Name}
use Rattle.comet_syntax.specs.declared.tree.expressions.ChainOperator.{ChainOperator}
use Rattle.type_expressions.specs.Expressions.{Judge, Suffixed, Linked, Generated, Generating, judge, judge_argument, judge_suffix, judge_generator, judge_generators, judge_link, argument_layer, expression_layer, suffix_layer, generator_layer, generators_layer, link_layer, unary_form, comparison_form, range_form, conditional_form, parentheses_form, extreme_form, chain_form, list_form, set_form, aggregate_form, call_form, index_form, cell_form, method_form, postfix_form}
use Rattle.parse_unique.specs.Bare as bares
use Rattle.parse_unique.specs.Bare.{Bare, bare_expression, bare_argument, bare_suffix, bare_generator, bare_generators, bare_link}
use Rattle.parse_unique.proofs.Levels.{cong2}
use Rattle.parse_unique.proofs.Declarations.{cong3}
use Rattle.type_trees.proofs.Senses.{Sense, sense}

abbrev OfExpression : Expression → Type 0
OfExpression e = (sense (bare_expression e)).judge ≡ judge e

abbrev OfArgument : Argument → Type 0
OfArgument a = (sense (bare_argument a)).judge ≡ judge_argument a

abbrev OfSuffix : Suffix → Type 0
OfSuffix s = (sense (bare_suffix s)).suffix ≡ judge_suffix s

abbrev OfGenerator : Generator → Type 0
OfGenerator g = (sense (bare_generator g)).part ≡ judge_generator g

abbrev OfGenerators : Generators → Type 0
OfGenerators g = (sense (bare_generators g)).all ≡ judge_generators g

abbrev OfLink : Link → Type 0
OfLink l = (sense (bare_link l)).link ≡ judge_link l

abbrev generated : Name → Judge → Generated
generated n j = record { name = n; domain = j }

abbrev generating : List Generated → Option Judge → Generating
generating gs c = record { generators = gs; condition = c }

abbrev link_by : ChainOperator → Place → Judge → Linked
link_by o p j = record { operator = o; place = p; operand = j }

-- a tree, and that it is so of it
abbrev A : Type 0
A = (a : Argument) × OfArgument a

abbrev E : Type 0
E = (e : Expression) × OfExpression e

abbrev S : Type 0
S = (s : Suffix) × OfSuffix s

abbrev G : Type 0
G = (g : Generator) × OfGenerator g

abbrev M : Type 0
M = (g : Generators) × OfGenerators g

abbrev L : Type 0
L = (l : Link) × OfLink l

arguments : (items : List A) → (sense (bares.listed (map bare_argument (map (λ a. a.0) items)))).judges ≡ map judge_argument (map (λ a. a.0) items)
arguments [] = refl
arguments (a ∷ items) = cong2 (λ x y. x ∷ y) a.1 (arguments items)

suffixes : (items : List S) → (sense (bares.listed (map bare_suffix (map (λ a. a.0) items)))).suffixes ≡ map judge_suffix (map (λ a. a.0) items)
suffixes [] = refl
suffixes (a ∷ items) = cong2 (λ x y. x ∷ y) a.1 (suffixes items)

links : (items : List L) → (sense (bares.listed (map bare_link (map (λ a. a.0) items)))).links ≡ map judge_link (map (λ a. a.0) items)
links [] = refl
links (a ∷ items) = cong2 (λ x y. x ∷ y) a.1 (links items)

generators : (items : List G) → (sense (bares.listed (map bare_generator (map (λ a. a.0) items)))).parts ≡ map judge_generator (map (λ a. a.0) items)
generators [] = refl
generators (a ∷ items) = cong2 (λ x y. x ∷ y) a.1 (generators items)

expression_rolled : (z : layers.Expression-F Argument Expression Suffix Generator Generators Link)
    → (sense (bares.expression_layer (map-Expression Argument Expression Suffix Generator Generators Link Bare Bare Bare Bare Bare Bare bare_argument bare_expression bare_suffix bare_generator bare_generators bare_link z))).judge
    ≡ expression_layer (map-Expression Argument Expression Suffix Generator Generators Link Judge Judge Suffixed Generated Generating Linked judge_argument judge judge_suffix judge_generator judge_generators judge_link z)
    → OfExpression (roll-Expression z)
unfolding judge judge_argument judge_suffix judge_generator judge_generators judge_link bare_expression bare_argument bare_suffix bare_generator bare_generators bare_link
expression_rolled z q =
    ap (λ b. (sense b).judge) (fold-roll-Expression Bare Bare Bare Bare Bare Bare bares.argument_layer bares.expression_layer bares.suffix_layer bares.generator_layer bares.generators_layer bares.link_layer z)
    ∙ (q ∙ sym (fold-roll-Expression Judge Judge Suffixed Generated Generating Linked argument_layer expression_layer suffix_layer generator_layer generators_layer link_layer z))

argument_rolled : (z : layers.Argument-F Argument Expression Suffix Generator Generators Link)
    → (sense (bares.argument_layer (map-Argument Argument Expression Suffix Generator Generators Link Bare Bare Bare Bare Bare Bare bare_argument bare_expression bare_suffix bare_generator bare_generators bare_link z))).judge
    ≡ argument_layer (map-Argument Argument Expression Suffix Generator Generators Link Judge Judge Suffixed Generated Generating Linked judge_argument judge judge_suffix judge_generator judge_generators judge_link z)
    → OfArgument (roll-Argument z)
unfolding judge judge_argument judge_suffix judge_generator judge_generators judge_link bare_expression bare_argument bare_suffix bare_generator bare_generators bare_link
argument_rolled z q =
    ap (λ b. (sense b).judge) (fold-roll-Argument Bare Bare Bare Bare Bare Bare bares.argument_layer bares.expression_layer bares.suffix_layer bares.generator_layer bares.generators_layer bares.link_layer z)
    ∙ (q ∙ sym (fold-roll-Argument Judge Judge Suffixed Generated Generating Linked argument_layer expression_layer suffix_layer generator_layer generators_layer link_layer z))

suffix_rolled : (z : layers.Suffix-F Argument Expression Suffix Generator Generators Link)
    → (sense (bares.suffix_layer (map-Suffix Argument Expression Suffix Generator Generators Link Bare Bare Bare Bare Bare Bare bare_argument bare_expression bare_suffix bare_generator bare_generators bare_link z))).suffix
    ≡ suffix_layer (map-Suffix Argument Expression Suffix Generator Generators Link Judge Judge Suffixed Generated Generating Linked judge_argument judge judge_suffix judge_generator judge_generators judge_link z)
    → OfSuffix (roll-Suffix z)
unfolding judge judge_argument judge_suffix judge_generator judge_generators judge_link bare_expression bare_argument bare_suffix bare_generator bare_generators bare_link
suffix_rolled z q =
    ap (λ b. (sense b).suffix) (fold-roll-Suffix Bare Bare Bare Bare Bare Bare bares.argument_layer bares.expression_layer bares.suffix_layer bares.generator_layer bares.generators_layer bares.link_layer z)
    ∙ (q ∙ sym (fold-roll-Suffix Judge Judge Suffixed Generated Generating Linked argument_layer expression_layer suffix_layer generator_layer generators_layer link_layer z))

generator_rolled : (z : layers.Generator-F Argument Expression Suffix Generator Generators Link)
    → (sense (bares.generator_layer (map-Generator Argument Expression Suffix Generator Generators Link Bare Bare Bare Bare Bare Bare bare_argument bare_expression bare_suffix bare_generator bare_generators bare_link z))).part
    ≡ generator_layer (map-Generator Argument Expression Suffix Generator Generators Link Judge Judge Suffixed Generated Generating Linked judge_argument judge judge_suffix judge_generator judge_generators judge_link z)
    → OfGenerator (roll-Generator z)
unfolding judge judge_argument judge_suffix judge_generator judge_generators judge_link bare_expression bare_argument bare_suffix bare_generator bare_generators bare_link
generator_rolled z q =
    ap (λ b. (sense b).part) (fold-roll-Generator Bare Bare Bare Bare Bare Bare bares.argument_layer bares.expression_layer bares.suffix_layer bares.generator_layer bares.generators_layer bares.link_layer z)
    ∙ (q ∙ sym (fold-roll-Generator Judge Judge Suffixed Generated Generating Linked argument_layer expression_layer suffix_layer generator_layer generators_layer link_layer z))

generators_rolled : (z : layers.Generators-F Argument Expression Suffix Generator Generators Link)
    → (sense (bares.generators_layer (map-Generators Argument Expression Suffix Generator Generators Link Bare Bare Bare Bare Bare Bare bare_argument bare_expression bare_suffix bare_generator bare_generators bare_link z))).all
    ≡ generators_layer (map-Generators Argument Expression Suffix Generator Generators Link Judge Judge Suffixed Generated Generating Linked judge_argument judge judge_suffix judge_generator judge_generators judge_link z)
    → OfGenerators (roll-Generators z)
unfolding judge judge_argument judge_suffix judge_generator judge_generators judge_link bare_expression bare_argument bare_suffix bare_generator bare_generators bare_link
generators_rolled z q =
    ap (λ b. (sense b).all) (fold-roll-Generators Bare Bare Bare Bare Bare Bare bares.argument_layer bares.expression_layer bares.suffix_layer bares.generator_layer bares.generators_layer bares.link_layer z)
    ∙ (q ∙ sym (fold-roll-Generators Judge Judge Suffixed Generated Generating Linked argument_layer expression_layer suffix_layer generator_layer generators_layer link_layer z))

link_rolled : (z : layers.Link-F Argument Expression Suffix Generator Generators Link)
    → (sense (bares.link_layer (map-Link Argument Expression Suffix Generator Generators Link Bare Bare Bare Bare Bare Bare bare_argument bare_expression bare_suffix bare_generator bare_generators bare_link z))).link
    ≡ link_layer (map-Link Argument Expression Suffix Generator Generators Link Judge Judge Suffixed Generated Generating Linked judge_argument judge judge_suffix judge_generator judge_generators judge_link z)
    → OfLink (roll-Link z)
unfolding judge judge_argument judge_suffix judge_generator judge_generators judge_link bare_expression bare_argument bare_suffix bare_generator bare_generators bare_link
link_rolled z q =
    ap (λ b. (sense b).link) (fold-roll-Link Bare Bare Bare Bare Bare Bare bares.argument_layer bares.expression_layer bares.suffix_layer bares.generator_layer bares.generators_layer bares.link_layer z)
    ∙ (q ∙ sym (fold-roll-Link Judge Judge Suffixed Generated Generating Linked argument_layer expression_layer suffix_layer generator_layer generators_layer link_layer z))

module _ where
  abbrev alone_E : layers.Expression-F A E S G M L → layers.Expression-F Argument Expression Suffix Generator Generators Link
  alone_E = map-Expression A E S G M L Argument Expression Suffix Generator Generators Link (λ e. e.0) (λ e. e.0) (λ e. e.0) (λ e. e.0) (λ e. e.0) (λ e. e.0)

  in_expression : (y : layers.Expression-F A E S G M L) → OfExpression (roll-Expression (alone_E y))
  in_expression (layers.Conditional a b c) = expression_rolled (alone_E (layers.Conditional a b c)) (cong3 conditional_form a.value.1 b.value.1 c.value.1)
  in_expression (layers.Chain a l) = expression_rolled (alone_E (layers.Chain a l)) (cong2 chain_form a.value.1 (links l.items))
  in_expression (layers.Comparison a o p b) = expression_rolled (alone_E (layers.Comparison a o p b)) (cong2 (λ x y. comparison_form x o p y) a.value.1 b.value.1)
  in_expression (layers.Range a p b) = expression_rolled (alone_E (layers.Range a p b)) (cong2 (λ x y. range_form x p y) a.value.1 b.value.1)
  in_expression (layers.Unary o p a) = expression_rolled (alone_E (layers.Unary o p a)) (ap (unary_form o p) a.value.1)
  in_expression (layers.Aggregate o p g a) = expression_rolled (alone_E (layers.Aggregate o p g a)) (cong2 (λ x y. aggregate_form o p x y) g.value.1 a.value.1)
  in_expression (layers.Postfix a l) = expression_rolled (alone_E (layers.Postfix a l)) (cong2 postfix_form a.value.1 (suffixes l.items))
  in_expression (layers.Number n p) = expression_rolled (alone_E (layers.Number n p)) refl
  in_expression (layers.Truth b p) = expression_rolled (alone_E (layers.Truth b p)) refl
  in_expression (layers.Name n) = expression_rolled (alone_E (layers.Name n)) refl
  in_expression (layers.Call n a) = expression_rolled (alone_E (layers.Call n a)) (ap (call_form n.value) (arguments a.items))
  in_expression (layers.Extreme e p a b) = expression_rolled (alone_E (layers.Extreme e p a b)) (cong2 (λ x y. extreme_form e p x y) a.value.1 b.value.1)
  in_expression (layers.Parentheses p a) = expression_rolled (alone_E (layers.Parentheses p a)) (ap (parentheses_form p) a.value.1)
  in_expression (layers.List p a) = expression_rolled (alone_E (layers.List p a)) (ap (list_form p) (arguments a.items))
  in_expression (layers.Set p a) = expression_rolled (alone_E (layers.Set p a)) (ap (set_form p) (arguments a.items))

  abbrev alone_A : layers.Argument-F A E S G M L → layers.Argument-F Argument Expression Suffix Generator Generators Link
  alone_A = map-Argument A E S G M L Argument Expression Suffix Generator Generators Link (λ e. e.0) (λ e. e.0) (λ e. e.0) (λ e. e.0) (λ e. e.0) (λ e. e.0)

  in_argument : (y : layers.Argument-F A E S G M L) → OfArgument (roll-Argument (alone_A y))
  in_argument (layers.Expression e) = argument_rolled (alone_A (layers.Expression e)) e.1
  in_argument (layers.Str t) = argument_rolled (alone_A (layers.Str t)) refl

  abbrev alone_S : layers.Suffix-F A E S G M L → layers.Suffix-F Argument Expression Suffix Generator Generators Link
  alone_S = map-Suffix A E S G M L Argument Expression Suffix Generator Generators Link (λ e. e.0) (λ e. e.0) (λ e. e.0) (λ e. e.0) (λ e. e.0) (λ e. e.0)

  in_suffix : (y : layers.Suffix-F A E S G M L) → OfSuffix (roll-Suffix (alone_S y))
  in_suffix (layers.Index p e) = suffix_rolled (alone_S (layers.Index p e)) (ap (index_form p) e.1)
  in_suffix (layers.Cell p a b) = suffix_rolled (alone_S (layers.Cell p a b)) (cong2 (cell_form p) a.1 b.1)
  in_suffix (layers.Method n a) = suffix_rolled (alone_S (layers.Method n a)) (ap (method_form n) (arguments a.items))

  abbrev alone_G : layers.Generator-F A E S G M L → layers.Generator-F Argument Expression Suffix Generator Generators Link
  alone_G = map-Generator A E S G M L Argument Expression Suffix Generator Generators Link (λ e. e.0) (λ e. e.0) (λ e. e.0) (λ e. e.0) (λ e. e.0) (λ e. e.0)

  in_generator : (y : layers.Generator-F A E S G M L) → OfGenerator (roll-Generator (alone_G y))
  in_generator y = generator_rolled (alone_G y) (ap (λ j. generated y.name j) y.domain.1)

  abbrev alone_M : layers.Generators-F A E S G M L → layers.Generators-F Argument Expression Suffix Generator Generators Link
  alone_M = map-Generators A E S G M L Argument Expression Suffix Generator Generators Link (λ e. e.0) (λ e. e.0) (λ e. e.0) (λ e. e.0) (λ e. e.0) (λ e. e.0)

  in_parts : (gs : Vec G Global) (c : Option (Box E Global)) → OfGenerators (roll-Generators (alone_M (record { generators = gs; condition = c })))
  in_parts gs None = generators_rolled (alone_M (record { generators = gs; condition = None })) (ap (λ x. generating x None) (generators gs.items))
  in_parts gs (Some b) = generators_rolled (alone_M (record { generators = gs; condition = Some b })) (cong2 (λ x y. generating x (Some y)) (generators gs.items) b.value.1)

  in_generators : (y : layers.Generators-F A E S G M L) → OfGenerators (roll-Generators (alone_M y))
  in_generators y = in_parts y.generators y.condition

  abbrev alone_L : layers.Link-F A E S G M L → layers.Link-F Argument Expression Suffix Generator Generators Link
  alone_L = map-Link A E S G M L Argument Expression Suffix Generator Generators Link (λ e. e.0) (λ e. e.0) (λ e. e.0) (λ e. e.0) (λ e. e.0) (λ e. e.0)

  in_link : (y : layers.Link-F A E S G M L) → OfLink (roll-Link (alone_L y))
  in_link y = link_rolled (alone_L y) (ap (λ j. link_by y.operator y.place j) y.operand.1)

pub expression_is : (e : Expression) → (sense (bare_expression e)).judge ≡ judge e
expression_is = ind-Expression OfArgument OfExpression OfSuffix OfGenerator OfGenerators OfLink
    (λ x y is. subst (λ z. OfArgument (roll-Argument z)) is (in_argument y)) (λ x y is. subst (λ z. OfExpression (roll-Expression z)) is (in_expression y))
    (λ x y is. subst (λ z. OfSuffix (roll-Suffix z)) is (in_suffix y)) (λ x y is. subst (λ z. OfGenerator (roll-Generator z)) is (in_generator y))
    (λ x y is. subst (λ z. OfGenerators (roll-Generators z)) is (in_generators y)) (λ x y is. subst (λ z. OfLink (roll-Link z)) is (in_link y))

pub argument_is : (a : Argument) → (sense (bare_argument a)).judge ≡ judge_argument a
argument_is = ind-Argument OfArgument OfExpression OfSuffix OfGenerator OfGenerators OfLink
    (λ x y is. subst (λ z. OfArgument (roll-Argument z)) is (in_argument y)) (λ x y is. subst (λ z. OfExpression (roll-Expression z)) is (in_expression y))
    (λ x y is. subst (λ z. OfSuffix (roll-Suffix z)) is (in_suffix y)) (λ x y is. subst (λ z. OfGenerator (roll-Generator z)) is (in_generator y))
    (λ x y is. subst (λ z. OfGenerators (roll-Generators z)) is (in_generators y)) (λ x y is. subst (λ z. OfLink (roll-Link z)) is (in_link y))

pub generators_is : (g : Generators) → (sense (bare_generators g)).all ≡ judge_generators g
generators_is = ind-Generators OfArgument OfExpression OfSuffix OfGenerator OfGenerators OfLink
    (λ x y is. subst (λ z. OfArgument (roll-Argument z)) is (in_argument y)) (λ x y is. subst (λ z. OfExpression (roll-Expression z)) is (in_expression y))
    (λ x y is. subst (λ z. OfSuffix (roll-Suffix z)) is (in_suffix y)) (λ x y is. subst (λ z. OfGenerator (roll-Generator z)) is (in_generator y))
    (λ x y is. subst (λ z. OfGenerators (roll-Generators z)) is (in_generators y)) (λ x y is. subst (λ z. OfLink (roll-Link z)) is (in_link y))
