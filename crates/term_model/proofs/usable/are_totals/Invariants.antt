use Rattle.std.proofs.Common.{take}
use Rattle.std.specs.List.{All}
use Rattle.term_model.specs.Checks.{IsTotal}
use Rattle.term_model.proofs.usable.are_totals.Given as goal

abbrev pub invariant-loop-total : goal.invariant-loop-total
invariant-loop-total l = All (IsTotal l.model) (take l.total-index l.totals)
