-- What the parts of heads stand for.
use Rattle.std.specs.Prelude.{map, option_map}
use Rattle.checked_tree.specs.Shape.{seen, shape_of_generator}
use Rattle.checked_tree.specs.Actions.{deed_of}
use Rattle.checked_tree.specs.Tasks.{counter_of}
use Rattle.checked_tree.specs.declared.statements.Head.{Head}
use Rattle.checked_tree.specs.declared.statements.Choice.{Choice}
use Rattle.type_heads.specs.Heads as heads

-- the parts of a `for` before its body
abbrev pub head_of : Head → heads.Headed
head_of h = record { counter = option_map counter_of h.counter; test = option_map seen h.test; step = option_map deed_of h.step }

-- generators with their condition
abbrev pub choice_of : Choice → heads.Chosen
choice_of c = record { generators = map shape_of_generator c.generators.items; condition = option_map seen c.condition }
