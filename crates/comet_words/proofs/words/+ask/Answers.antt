use Rattle.std.specs.Prelude.{option_and_then}
use Rattle.std.proofs.Common.{sym, ap, ◌∙◌}
use Rattle.comet_words.specs.Given.{asked_with}
use Rattle.comet_words.specs.Items.{items}
use Rattle.comet_words.specs.View.{said, known_by, texts}
use Rattle.comet_words.proofs.Gathering.{more_now, more_twice}
use Rattle.comet_words.proofs.words.+ask.Goals as goal

pub returns-then-has : goal.returns-then-has
returns-then-has t c =
    sym (ap (option_and_then (asked_with (known_by c.args.given))) c.in_ok-item.ensures.cut
    ∙ more_twice (known_by c.args.given) (said c.in_ok-item.item) (items (texts c.in_ok-item.behind.now)) (sym c.has.ensures ∙ c.if-has.true))

pub returns-else-has : goal.returns-else-has
returns-else-has t c =
    c.ask.ensures
    ∙ ap (λ given. option_and_then (asked_with given) (items (texts c.in_ok-item.behind.now))) c.with.ensures
    ∙ sym (ap (option_and_then (asked_with (known_by c.args.given))) c.in_ok-item.ensures.cut
    ∙ more_now (known_by c.args.given) (said c.in_ok-item.item) (items (texts c.in_ok-item.behind.now)) (sym c.has.ensures ∙ c.if-has.false))
