-- What the parts of a tree that are no expressions themselves stand for.
use Rattle.std.specs.Prelude.{◌≡◌, refl, ℕ, List, [], ◌∷◌, length, map, slice_get, Option, None, Some, option_map}
use Rattle.std.proofs.Common.{ap, ◌∙◌, sym}
use Rattle.comet_syntax.specs.declared.tree.expressions.Link.{Link, fold_out-Link}
use Rattle.comet_syntax.specs.declared.tree.expressions.Generator.{Generator, fold_out-Generator}
use Rattle.comet_syntax.specs.declared.tree.expressions.Generators.{Generators, fold_out-Generators, out-Generators, map-Generators}
use Rattle.std.specs.declared.boxed.Box.{Box}
use Rattle.std.specs.declared.alloc.Global.{Global}
use Rattle.std.specs.declared.vec.Vec.{Vec}
use Rattle.comet_syntax.specs.declared.tree.expressions.Argument.{Argument}
use Rattle.comet_syntax.specs.declared.tree.expressions.Expression.{Expression}
use Rattle.comet_syntax.specs.declared.tree.expressions.Suffix.{Suffix}
use Rattle.type_rules.specs.declared.context.Context.{Context}
use Rattle.type_expressions.specs.Expressions.{Judge, Suffixed, Generated, Generating, Linked, argument_layer, expression_layer, suffix_layer, generator_layer, generators_layer, link_layer, judge, judge_argument, judge_suffix, judge_generator, judge_generators, judge_link, operator_context, first_operator_context}

pub link_is : (l : Link) → judge_link l ≡ record { operator = l.operator; place = l.place; operand = judge l.operand }
unfolding judge judge_argument judge_suffix judge_generator judge_generators judge_link
link_is l = fold_out-Link Judge Judge Suffixed Generated Generating Linked argument_layer expression_layer suffix_layer generator_layer generators_layer link_layer l

pub generator_is : (g : Generator) → judge_generator g ≡ record { name = g.name; domain = judge g.domain }
unfolding judge judge_argument judge_suffix judge_generator judge_generators judge_link
generator_is g = fold_out-Generator Judge Judge Suffixed Generated Generating Linked argument_layer expression_layer suffix_layer generator_layer generators_layer link_layer g

pub first_link : (links : List Link) (l : Link) (c : Context) → slice_get links 0 ≡ Some l → first_operator_context (map judge_link links) c ≡ operator_context l.operator c
first_link [] l c h = absurd (cc)
first_link (x ∷ links) l c h = let e : x ≡ l = cc in ap (λ z. operator_context z.operator c) (link_is x) ∙ ap (λ z. operator_context z.operator c) e

pub generated_is : (g : Generators) → (judge_generators g).generators ≡ map judge_generator (out-Generators g).generators.items
unfolding judge judge_argument judge_suffix judge_generator judge_generators judge_link
generated_is g = ap (λ (z : Generating). z.generators) (fold_out-Generators Judge Judge Suffixed Generated Generating Linked argument_layer expression_layer suffix_layer generator_layer generators_layer link_layer g)

condition_at : (gs : Vec Generator Global) (o : Option (Box Expression Global))
    → (generators_layer (map-Generators Argument Expression Suffix Generator Generators Link Judge Judge Suffixed Generated Generating Linked judge_argument judge judge_suffix judge_generator judge_generators judge_link (record { generators = gs; condition = o }))).condition
    ≡ option_map (λ c. judge c.value) o
condition_at gs None = refl
condition_at gs (Some c) = refl

pub condition_is : (g : Generators) → (judge_generators g).condition ≡ option_map (λ c. judge c.value) (out-Generators g).condition
unfolding judge judge_argument judge_suffix judge_generator judge_generators judge_link
condition_is g = ap (λ (z : Generating). z.condition) (fold_out-Generators Judge Judge Suffixed Generated Generating Linked argument_layer expression_layer suffix_layer generator_layer generators_layer link_layer g)
    ∙ condition_at (out-Generators g).generators (out-Generators g).condition
