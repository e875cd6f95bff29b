use Rattle.std.specs.Prelude.{◌≡◌, option_and_then, option_map}
use Rattle.std.proofs.Common.{ap, ◌∙◌}
use Rattle.comet_words.specs.Asked.{asked}
use Rattle.comet_words.specs.Given.{asked_with}
use Rattle.comet_words.specs.Items.{items}
use Rattle.comet_words.specs.View.{asked_for, texts}
use Rattle.comet_words.proofs.Gathering.{begins}
use Rattle.comet_words.proofs.Ranges.{in_range}
use Rattle.comet_words.proofs.words.read_words.Goals as goal

pub returns : goal.returns
returns c =
    let exact : option_map asked_for c.ask.result ≡ asked (texts c.args.words.now) =
    c.ask.ensures
    ∙ ap (λ given. option_and_then (asked_with given) (items (texts c.args.words.now))) c.nothing.ensures
    ∙ begins (items (texts c.args.words.now)) in
    record { exact = exact; in_range = in_range (texts c.args.words.now) c.ask.result exact }
