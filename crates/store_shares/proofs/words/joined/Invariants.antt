use Rattle.store_shares.specs.Words.{IsJoining}
use Rattle.store_shares.proofs.words.joined.Given as goal

abbrev pub invariant-loop-turn : goal.invariant-loop-turn
invariant-loop-turn l = IsJoining l.first l.second l.turn l.state
