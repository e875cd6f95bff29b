use Rattle.std.proofs.Common.{◌≡◌, ◌++◌}
use Rattle.std.specs.List.{range_with_len}
use Rattle.store_turns.specs.Meaning.{ids_of}
use Rattle.model_nodes.proofs.parts.total_inputs.Given as goal

abbrev pub invariant-loop-place : goal.invariant-loop-place
invariant-loop-place l = ids_of l.inputs.items ≡ ids_of l.ids ++ range_with_len l.first l.place
