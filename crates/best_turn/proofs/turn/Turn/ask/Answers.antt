use Rattle.std.proofs.Common.{◌≡◌, [], ◌∷◌, sym, ap, ◌∙◌}
use Rattle.atomic_table.specs.Table.{rest}
use Rattle.best_turn.proofs.Tellings.{asks}
use Rattle.best_turn.proofs.turn.Turn.ask.Goals as goal

pub slot_mut-book-requires : goal.slot_mut-book-requires
slot_mut-book-requires g c = let t = c.requires.held in (c.requires.table ∙ ap (λ z. z.0) (sym c.self.view_is), (t.0, t.1 ∙ ap (λ l. (0, t.0) ∷ rest l) (sym t.1)))

pub returns-clause-asked : goal.returns-clause-asked
returns-clause-asked g c =
    let d = c.slot_mut-book.result.now in
    let none_left : rest c.args.token.now.me.1 ≡ [] = ap rest c.requires.held.1 in (
      d,
      c.slot_mut-book.ensures.value ∙ ap (λ l. (0, d) ∷ l) none_left,
      asks g.S.Replays.after g.S.Replays.answer c.args.number c.args.iteration c.args.request c.args.token.now.me.1 c.args.token.now.me.0 d c.ask.new.self c.ask.result none_left c.ask.ensures,
    )
