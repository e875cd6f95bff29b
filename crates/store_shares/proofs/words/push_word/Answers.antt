use Rattle.std.proofs.Common.{◌∙◌, ◌++◌, ◌∷◌, [], ap}
use Rattle.store_shares.proofs.WordLaws.{same_has, same_rising, behind_rising}
use Rattle.store_shares.proofs.words.push_word.Goals as goal

pub returns-then-last-word-clause-has : goal.returns-then-last-word-clause-has
returns-then-last-word-clause-has c =
    same_has c.args.words.now.items c.pop.new.self.items c.in-Some.last c.in-Some.ensures.items c.args.word c.push-then-last-word.new.self.items c.if-last-word.true c.in_ok-push-2.ensures.items

pub returns-then-last-word-clause-rising : goal.returns-then-last-word-clause-rising
returns-then-last-word-clause-rising c rising up =
    same_rising c.args.words.now.items c.pop.new.self.items c.in-Some.last c.in-Some.ensures.items rising c.args.word up c.push-then-last-word.new.self.items c.if-last-word.true c.in_ok-push-2.ensures.items

pub returns-clause-rising : goal.returns-clause-rising
returns-clause-rising c rising up =
    behind_rising c.args.words.now.items c.pop.new.self.items c.in-Some.last c.in-Some.ensures.items rising c.args.word up c.push-3.new.self.items c.if-last-word.false
    (c.in_ok-push-4.ensures.items ∙ ap (λ ws. ws ++ c.args.word ∷ []) c.in_ok-push-3.ensures.items)
