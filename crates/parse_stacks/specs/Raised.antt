-- An operand with what stands behind it, level by level.
-- Definitions of this project.
use Rattle.std.specs.Prelude.{Option, None, Some, map, reverse}
use Rattle.std.specs.declared.alloc.Global.{Global}
use Rattle.std.specs.declared.vec.Vec.{Vec}
use Rattle.comet_syntax.specs.declared.tree.expressions.Argument.{Argument}
use Rattle.comet_syntax.specs.declared.tree.expressions.Link.{Link}
use Rattle.comet_syntax.specs.declared.tree.expressions.Name.{Name}
use Rattle.comet_syntax.specs.declared.tree.expressions.Suffix.{Suffix}
use Rattle.comet_syntax.specs.Written.Expressions.{Writing, written, written_link, written_suffix, written_argument, comparison, range_of, conditional, name_alone, call_of}
use Rattle.parse_stacks.specs.declared.tails.Behind.{Behind}
use Rattle.parse_stacks.specs.declared.tails.Branches.{Branches}
use Rattle.parse_stacks.specs.declared.tails.Compared.{Compared}
use Rattle.parse_stacks.specs.declared.tails.UpTo.{UpTo}
use Rattle.parse_stacks.specs.Levels.{chained, suffixed}

abbrev pub compared_with : Writing → Option Compared → Writing
compared_with w None = w
compared_with w (Some c) = comparison w c.comparison c.place (written c.right)

abbrev pub ranged : Writing → Option UpTo → Writing
ranged w None = w
ranged w (Some u) = range_of w u.place (written u.high)

abbrev pub branched : Writing → Option Branches → Writing
branched w None = w
branched w (Some b) = conditional w (written b.then) (written b.otherwise)

-- with links, of which the last one stands first
abbrev pub linked : Writing → Vec Link Global → Writing
linked w links = chained w (map written_link (reverse links.items))

-- an operand with the links of a product, of a total, with the end of a range, and so on up to a whole expression
abbrev pub total_of : Writing → Vec Link Global → Vec Link Global → Writing
total_of w product total = linked (linked w product) total

abbrev pub range_level : Writing → Vec Link Global → Vec Link Global → Option UpTo → Writing
range_level w product total up_to = ranged (total_of w product total) up_to

abbrev pub comparison_level : Writing → Vec Link Global → Vec Link Global → Option UpTo → Option Compared → Writing
comparison_level w product total up_to compared = compared_with (range_level w product total up_to) compared

abbrev pub conjunction_level : Writing → Vec Link Global → Vec Link Global → Option UpTo → Option Compared → Vec Link Global → Writing
conjunction_level w product total up_to compared conjunction = linked (comparison_level w product total up_to compared) conjunction

abbrev pub raised : Writing → Behind → Writing
raised w b = branched (linked (conjunction_level w b.product b.total b.up_to b.compared b.conjunction) b.disjunction) b.branches

-- a name, or a call of it
abbrev pub called_by : Name → Option (Vec Argument Global) → Writing
called_by n None = name_alone n
called_by n (Some a) = call_of n (map written_argument a.items)

-- a primary with suffixes, of which the last one stands first
abbrev pub with_suffixes : Writing → Vec Suffix Global → Writing
with_suffixes w all = suffixed w (map written_suffix (reverse all.items))

abbrev pub named_operand : Name → Option (Vec Argument Global) → Vec Suffix Global → Writing
named_operand n called all = with_suffixes (called_by n called) all
