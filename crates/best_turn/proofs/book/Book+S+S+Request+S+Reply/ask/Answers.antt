use Rattle.std.proofs.Common.{[], ◌∷◌, ◌++◌, ◌∙◌, sym, ap}
use Rattle.best_turn.proofs.Zips.{asked, short_zip}
use Rattle.best_turn.proofs.book.Book+S+S+Request+S+Reply.ask.Goals as goal

pub returns : goal.returns
returns g c =
    let is = c.self.view_is in
    let said = c.in-Ok-step.ensures in
    let nums = c.push_reserved.new.self in (
      said.0 ∙ ap (λ d. g.S.Replays.answer d.0 c.args.request) is,
      asked c.args.self.now _ _ _ c.self.inside.numbers.items _ c.self.inside.history.items _ c.args.number _ _ is c.self.invariant (c.push_reserved.ensures.items ∙ ap (λ l. l ++ c.args.number ∷ []) c.reserve-2.ensures.items)
          (c.push_reserved-2.ensures.items ∙ ap (λ l. l ++ record { iteration = c.args.iteration; request = c.args.request; reply = c.in-Ok.kept } ∷ []) c.reserve.ensures.items)
          (ap (λ r. record { iteration = c.args.iteration; request = c.args.request; reply = r }) (c.in-Ok.ensures ∙ sym said.0)) (said.1 ∙ ap (λ d. g.S.Replays.after d.0 c.args.request) is),
      short_zip nums.items _ nums.len nums.cap nums.ok.0 nums.ok.1 nums.small,
    )
