use Rattle.std.proofs.Common.{◌≡◌, take, fold}
use Rattle.std.specs.Int.{int_min}
use Rattle.cbl_violations.proofs.combined.any_of_violations.Given as goal

abbrev pub invariant-loop-member : goal.invariant-loop-member
invariant-loop-member l = l.least ≡ fold int_min l.initial.least (take l.member-index l.others)
