use Rattle.std.proofs.Common.{◌≡◌, map, take}
use Rattle.term_model.specs.Definitions.{named_by}
use Rattle.term_model.proofs.definitions.dependencies_of.Given as goal

abbrev pub invariant-loop-entry : goal.invariant-loop-entry
invariant-loop-entry l = map (λ names. names.items) l.lists.items ≡ map (named_by l.defs) (take l.entry-index l.table)
