use Rattle.std.proofs.Common.{arith}
use Rattle.store_shares.specs.Words.{word_at}
use Rattle.store_shares.proofs.WordLaws.{next_found, next_none, next_past, word_apart}
use Rattle.store_shares.proofs.words.next.Goals as goal

pub loop-at-init : goal.loop-at-init
loop-at-init c = (λ i k lt le less. word_apart (word_at c.args.words.now i) k (λ e. let below = c.first_from-at.ensures.below i lt in absurd (omega (arith, below, e, le))), c.first_from-at.ensures.rest)

pub returns-then-limit-word : goal.returns-then-limit-word
returns-then-limit-word c = next_past c.args.words.now c.requires.rising c.args.from c.args.limit c.loop-at.at c.requires.within c.loop-at.invariant.0 c.if-limit-word.true

pub returns-in-Some : goal.returns-in-Some
returns-in-Some c =
    next_found c.args.words.now c.requires.rising c.args.from c.args.limit c.loop-at.at c.requires.within c.loop-at.invariant.0 c.in-Some.number c.loop-at-test.true c.in-Some.ensures

pub returns : goal.returns
returns c = next_none c.args.words.now c.requires.rising c.args.from c.args.limit c.loop-at.at c.requires.within c.loop-at.invariant.0 (omega arith)
