use Rattle.std.proofs.Common.{take}
use Rattle.std.specs.List.{All}
use Rattle.term_model.specs.Wellformed.{IsMember}
use Rattle.term_model.proofs.usable.is_total.Given as goal

abbrev pub invariant-loop-member : goal.invariant-loop-member
invariant-loop-member l = All (IsMember l.model) (take l.member-index l.member-items)
