-- What is made of the values of the forms of generators.
-- Definitions of this project.
use Rattle.std.specs.Prelude.{◌∷◌, Option, Some, ◌≡◌, map, reverse}
use Rattle.std.specs.declared.alloc.Global.{Global}
use Rattle.std.specs.declared.vec.Vec.{Vec}
use Rattle.comet_syntax.specs.declared.tree.expressions.Expression.{Expression}
use Rattle.comet_syntax.specs.declared.tree.expressions.Generator.{Generator}
use Rattle.comet_syntax.specs.declared.tree.expressions.Generators.{Generators}
use Rattle.comet_syntax.specs.Grammar.Statements.{condition_colon, generator_name, generators_generator, generators_tail_comma}
use Rattle.comet_syntax.specs.Written.Expressions.{written, written_generator, written_generators, option_value}
use Rattle.parse_stacks.specs.Undoing.{Values}

-- the first generator, the others in order, and the condition
abbrev pub GeneratorsMade : Values generators_generator → Generators → Type 0
GeneratorsMade (first, (more, (condition, end))) x = written_generators x ≡ record { all = written_generator first ∷ map written_generator (reverse more.items); only = option_value written condition }

-- one more before the others
abbrev pub MoreGeneratorsMade : Values generators_tail_comma → Vec Generator Global → Type 0
MoreGeneratorsMade (comma, (next, (more, end))) x = reverse x.items ≡ next ∷ reverse more.items

abbrev pub GeneratorMade : Values generator_name → Generator → Type 0
GeneratorMade (name, (word, (domain, end))) x = written_generator x ≡ record { bound = name; domain = written domain }

abbrev pub ConditionMade : Values condition_colon → Option Expression → Type 0
ConditionMade (colon, (test, end)) x = x ≡ Some test
