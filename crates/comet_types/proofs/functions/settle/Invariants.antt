use Rattle.std.proofs.Common.{◌≡◌, ℕ}
use Rattle.comet_types.specs.Functions.{settled_form}
use Rattle.type_statements.specs.Statements.{block_of}
use Rattle.comet_types.proofs.functions.settle.Given as goal

abbrev pub invariant-loop-left : goal.invariant-loop-left
invariant-loop-left l = settled_form l.left l.function l.parameters (block_of l.body) l.scope l.checker ≡ settled_form l.turns l.function l.parameters (block_of l.body) l.scope l.fn.checker

abbrev pub decreases-loop-left : goal.decreases-loop-left
decreases-loop-left l = l.left
