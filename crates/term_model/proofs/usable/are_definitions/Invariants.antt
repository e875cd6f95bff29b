use Rattle.std.proofs.Common.{take}
use Rattle.std.specs.List.{All}
use Rattle.term_model.specs.Wellformed.{IsDefinition}
use Rattle.term_model.proofs.usable.are_definitions.Given as goal

abbrev pub invariant-loop-definition : goal.invariant-loop-definition
invariant-loop-definition l = All (IsDefinition l.model) (take l.definition-index l.definition-items)
