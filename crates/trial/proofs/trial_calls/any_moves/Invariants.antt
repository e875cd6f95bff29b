use Rattle.std.proofs.Common.{◌≡◌, drop}
use Rattle.store_turns.specs.Cones.{has}
use Rattle.trial.specs.Parts.{moves_of}
use Rattle.trial.proofs.trial_calls.any_moves.Given as goal

abbrev pub invariant-loop-var : goal.invariant-loop-var
invariant-loop-var l = record {
  left : moves_of (has l.members) l.moves ≡ moves_of (has l.members) (drop l.var-index l.moves);
}
