use Rattle.std.proofs.Common.{refl}
use Rattle.rand_pcg.specs.Lcg.{state_after}
use Rattle.comet_meaning.proofs.WordLaws.{words_go_on}
use Rattle.comet_meaning.proofs.laws.words_come_in_order.Goals as goal

pub returns-clause-order : goal.returns-clause-order
returns-clause-order c = λ seed stream n. words_go_on seed stream n

pub returns-clause-first : goal.returns-clause-first
unfolding state_after
returns-clause-first c = refl

pub returns-clause-second : goal.returns-clause-second
unfolding state_after
returns-clause-second c = refl

pub returns-clause-third : goal.returns-clause-third
unfolding state_after
returns-clause-third c = refl
