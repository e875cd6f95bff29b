use Rattle.std.proofs.Common.{◌≡◌, ◌+◌, length, ap, subst, sym}
use Rattle.best_turn.specs.Rule.{all_numbers, Closes}
use Rattle.best_turn.proofs.Sharing.{closes_as}
use Rattle.best_turn.proofs.turn.Turn.close.Goals as goal

pub returns : goal.returns
returns g c =
    subst (λ s. Closes g.S.Replays.takes g.S.Replays.after g.S.Replays.answer s c.args.seat.1 c.into_parts.result.0 c.into_parts.result.1.items) (ap (λ z. z.1) c.self.view_is)
    (subst (λ z. Closes g.S.Replays.takes g.S.Replays.after g.S.Replays.answer c.self.inside.table.shared.key.value z.1 c.into_parts.result.0 c.into_parts.result.1.items) c.seat.view_is
    (closes_as g.S.Replays.takes g.S.Replays.after g.S.Replays.answer _ _ c.seat.inside.token.me.0 _ _ c.take-book.result _ _ c.into_parts.ensures.state c.into_parts.ensures.history c.seat.invariant.1
    (subst (λ z. length z.1.made + z.1.rest ≡ all_numbers) (sym c.seat.view_is) c.requires.last) c.close_with-closed.ensures.values.2 c.take-book.ensures.value))
