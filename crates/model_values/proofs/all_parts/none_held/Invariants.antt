use Rattle.std.proofs.Common.{◌≡◌, replicate}
use Rattle.model_values.specs.AllParts.{AreWeighed, all_seen}
use Rattle.model_values.specs.Wholes.{no_parts}
use Rattle.model_values.proofs.all_parts.none_held.Given as goal

abbrev pub invariant-loop-number : goal.invariant-loop-number
invariant-loop-number l = (all_seen l.parts.items ≡ replicate l._number no_parts) × AreWeighed l.parts.items
