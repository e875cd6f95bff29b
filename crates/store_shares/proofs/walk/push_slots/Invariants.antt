use Rattle.std.proofs.Common.{map, take}
use Rattle.term_model.specs.Definitions.{vars_of}
use Rattle.store_shares.specs.Walked.{IsWalked}
use Rattle.store_shares.proofs.walk.push_slots.Given as goal

abbrev pub invariant-loop-argument : goal.invariant-loop-argument
invariant-loop-argument l = IsWalked l.fn.walk l.walk (map vars_of (take l.argument-index l.arguments))
