use Rattle.store_shares.proofs.WordLaws.{all_joined}
use Rattle.store_shares.proofs.words.joined.Goals as goal

pub returns-clause-has : goal.returns-clause-has
returns-clause-has c k = all_joined c.args.first.now c.args.second.now c.requires.one c.requires.other c.loop-turn.turn c.loop-turn.state c.loop-turn.invariant c.loop-turn-test.false k
