use Rattle.std.proofs.Common.{◌+◌, ◌∙◌, ap, subst}
use Rattle.best_turn.specs.Calls.{Called}
use Rattle.best_turn.proofs.Tellings.{may_ask, whole_again, may_count, may_give, called, had}
use Rattle.best_turn.proofs.turn.Seat.call.Goals as goal

pub ask-requires-clause-held : goal.ask-requires-clause-held
ask-requires-clause-held g c = let law = g.met.S.Replays in let me = c.self.inside.token.me in
    may_ask g.S.Replays.takes g.S.Replays.after g.S.Replays.answer law.takes_same me _ c.self.invariant.0 (ap (λ z. z.1.start) c.self.view_is ∙ c.requires.seat.1) _ c.args.request c.take.ensures.taken c.requires.takes

pub give-requires-clause-held : goal.give-requires-clause-held
give-requires-clause-held g c = let law = g.met.S.Replays in
    whole_again g.S.Replays.takes g.S.Replays.after g.S.Replays.answer law.takes_same c.self.inside.token.me _ c.self.invariant.0 (ap (λ z. z.1.start) c.self.view_is ∙ c.requires.seat.1) _ _ c.take.ensures.taken c.ask.ensures.table.2 c.in_default.ensures.asked

pub count-found-requires-clause-held : goal.count-found-requires-clause-held
count-found-requires-clause-held g c = let law = g.met.S.Replays in
    may_count g.S.Replays.takes g.S.Replays.after g.S.Replays.answer law.takes_same c.self.inside.token.me _ c.self.invariant.0 (ap (λ z. z.1.start) c.self.view_is ∙ c.requires.seat.1) c.self.inside.number c.args.iteration c.args.request c.in-Ok.reply _ _ c.take.ensures.taken c.ask.ensures.table.2 c.in-Ok.ensures.asked c.self.invariant.2 c.requires.takes

pub give-requires-2-clause-held : goal.give-requires-2-clause-held
give-requires-2-clause-held g c = let law = g.met.S.Replays in let done = c.count-found.ensures.counted in
    may_give g.S.Replays.takes g.S.Replays.after g.S.Replays.answer law.takes_same c.self.inside.token.me _ c.self.invariant.0 (ap (λ z. z.1.start) c.self.view_is ∙ c.requires.seat.1) c.self.inside.number c.args.iteration c.args.request c.in-Ok.reply _ _ c.take.ensures.taken c.ask.ensures.table.2 c.in-Ok.ensures.asked c.self.invariant.2 c.requires.takes _ done.1 done.2

pub returns-clause-call : goal.returns-clause-call
returns-clause-call g c = let law = g.met.S.Replays in let done = c.count-found.ensures.counted in
    subst (λ z. Called g.S.Replays.takes g.S.Replays.after g.S.Replays.answer z.1 c.args.iteration c.args.request c.in-Ok.reply (c.count-found.result + 1) c.give-2.new.token.me.0) c.self.view_is (called g.S.Replays.takes g.S.Replays.after g.S.Replays.answer law.takes_same c.self.inside.token.me _ c.self.invariant.0 (ap (λ z. z.1.start) c.self.view_is ∙ c.requires.seat.1) c.self.inside.number c.args.iteration c.args.request c.in-Ok.reply _ _ c.take.ensures.taken c.ask.ensures.table.2 c.in-Ok.ensures.asked c.self.invariant.2 c.requires.takes _ done.1 done.2 _ _ done.0 c.give-2.ensures.given)

pub returns-clause-had : goal.returns-clause-had
returns-clause-had g c = let law = g.met.S.Replays in
    had g.S.Replays.takes g.S.Replays.after g.S.Replays.answer law.takes_same c.self.inside.token.me _ c.self.invariant.0 (ap (λ z. z.1.start) c.self.view_is ∙ c.requires.seat.1) c.self.inside.number c.args.iteration c.args.request c.in-Ok.reply _ _ c.take.ensures.taken c.ask.ensures.table.2 c.in-Ok.ensures.asked c.self.invariant.2 c.requires.takes g.S.Replays.can_have law.answer_had
