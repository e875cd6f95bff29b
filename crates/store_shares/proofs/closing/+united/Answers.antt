use Rattle.std.proofs.Common.{◌∙◌, ◌/◌, ◌||◌, false, length, take, ap}
use Rattle.std.specs.List.{list_any}
use Rattle.std.proofs.lemmas.List.{take_rest}
use Rattle.store_shares.specs.Settled.{known_words}
use Rattle.store_shares.specs.Words.{has}
use Rattle.store_shares.proofs.SettledLaws.{any_halves, none_united, one_united}
use Rattle.store_shares.proofs.closing.+united.Goals as goal

pub returns-then-count-eq0-clause-has : goal.returns-then-count-eq0-clause-has
returns-then-count-eq0-clause-has t c k = none_united c.new.result.items (λ u. has (known_words c.args.sets.now u) k) c.args.variables.now k c.new.ensures.items c.if-count-eq0.true

pub returns-then-count-eq1-clause-has : goal.returns-then-count-eq1-clause-has
returns-then-count-eq1-clause-has t c k =
    one_united (λ u. has (known_words c.args.sets.now u) k) c.args.variables.now (has c.in_ok-words.words.items k) c.if-count-eq1.true
    (c.in_ok-words.ensures.has k ∙ ap (λ ws. has ws k || false) c.known_words.ensures)

pub returns-clause-has : goal.returns-clause-has
returns-clause-has t c k =
    let xs = c.args.variables.now in
    let half = length c.args.variables.now / 2 in
    c.in_ok-words-2.ensures.has k
    ∙ ap (λ ws. has ws k || has c.deref-2.result.now k) c.deref.ensures.value ∙ ap (λ ws. has c.in_ok-first.first.items k || has ws k) c.deref-2.ensures.value
    ∙ ap (λ b. b || has c.in_ok-second.second.items k) (c.in_ok-first.ensures.has k)
    ∙ ap (λ b. list_any (λ u. has (known_words c.args.sets.now u) k) (take (length c.args.variables.now / 2) c.args.variables.now) || b) (c.in_ok-second.ensures.has k)
    ∙ ap (λ l. list_any (λ u. has (known_words c.args.sets.now u) k) (take (length c.args.variables.now / 2) c.args.variables.now) || list_any (λ u. has (known_words c.args.sets.now u) k) l) (take_rest c.args.variables.now (length c.args.variables.now / 2))
    ∙ any_halves (λ u. has (known_words c.args.sets.now u) k) c.args.variables.now (length c.args.variables.now / 2)
