-- What is made of the values of the forms of generators is written as the form and its values.
use Rattle.std.specs.Prelude.{◌∷◌, ◌≡◌, [], IfOk, None, Ok, Option, Result, Some, map}
use Rattle.std.specs.declared.alloc.Global.{Global}
use Rattle.std.specs.declared.boxed.Box.{Box}
use Rattle.std.specs.declared.vec.Vec.{Vec}
use Rattle.std.proofs.Common.{sym, ap, subst, ◌∙◌}
use Rattle.cbl_base.specs.declared.faults.NoMemory.{NoMemory}
use Rattle.comet_syntax.specs.declared.tree.expressions.Expression.{Expression}
use Rattle.comet_syntax.specs.declared.tree.expressions.Generator.{Generator}
use Rattle.comet_syntax.specs.declared.tree.expressions.Generators.{roll-Generators}
use Rattle.comet_syntax.specs.Written.Statements.{unboxed}
use Rattle.parse_stacks.proofs.Trees.{generators_none, generators_some}
use Rattle.comet_syntax.specs.Grammar.Symbols.{condition, generator, generators, generators_tail}
use Rattle.comet_syntax.specs.Grammar.Statements.{condition_colon, generator_name, generators_generator, generators_tail_comma}
use Rattle.comet_syntax.specs.Written.Shown.{form, each}
use Rattle.comet_syntax.specs.Written.Expressions.{GeneratorsText, written, written_generator, written_generators, generators_text, generator_text, more_generator, condition_text, option_value}
use Rattle.parse_stacks.specs.Standing.{Fits}
use Rattle.build_expressions.specs.MadeGenerators.{ConditionMade, GeneratorMade, GeneratorsMade, MoreGeneratorsMade}

pub generators_fit : Fits generators generators_generator GeneratorsMade
generators_fit v x l m = (tt, λ Y. ap (λ z. generators_text z Y) (sym m))

pub more_generators_fit : Fits generators_tail generators_tail_comma MoreGeneratorsMade
more_generators_fit v x l m = (tt, λ Y. ap (λ z. each more_generator (map written_generator z) (form generators_tail [] ∷ Y)) (sym m))

pub generator_fit : Fits generator generator_name GeneratorMade
generator_fit v x l m = (tt, λ Y. ap (λ z. generator_text z Y) (sym m))

pub condition_fit : Fits condition condition_colon ConditionMade
condition_fit v x l m = (tt, λ Y. ap (λ z. condition_text (option_value written z) Y) (sym m))

-- a condition on the heap is written as the condition
abbrev under : Vec Generator Global → Option Expression → GeneratorsText
under all e = record { all = map written_generator all.items; only = option_value written e }

with_condition : (all : Vec Generator Global) (b : Option (Box Expression Global)) → written_generators (roll-Generators (record { generators = all; condition = b })) ≡ under all (unboxed b)
with_condition all None = generators_none all
with_condition all (Some b) = generators_some all b

pub generators_made : (all kept : Vec Generator Global) (b : Option (Box Expression Global)) (e : Option Expression) (made : Result (Option (Box Expression Global)) NoMemory)
    → IfOk made (λ x. unboxed x ≡ e) → made ≡ Ok b → kept ≡ all
    → written_generators (roll-Generators (record { generators = kept; condition = b })) ≡ record { all = map written_generator all.items; only = option_value written e }
generators_made all kept b e made h m k =
    let u : unboxed b ≡ e = subst (λ r. IfOk r (λ x. unboxed x ≡ e)) m h in
    with_condition kept b ∙ (ap (under kept) u ∙ ap (λ z. under z e) k)
