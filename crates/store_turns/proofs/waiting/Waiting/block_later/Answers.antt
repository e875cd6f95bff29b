use Rattle.std.proofs.Common.{ap, take, ◌∙◌, Option}
use Rattle.std.specs.Option.{option_map}
use Rattle.store_turns.specs.declared.waiting.Turn.{Turn}
use Rattle.store_turns.specs.declared.waiting.Pending.{Pending}
use Rattle.store_turns.specs.Waits.{look, or_later, changes_of}
use Rattle.store_turns.proofs.TurnOrder.{other_turn}
use Rattle.store_turns.proofs.ShortLists.{when_ok}
use Rattle.store_turns.proofs.waiting.Waiting.block_later.Goals as goal

pub returns-in-Some : goal.returns-in-Some
returns-in-Some c =
    when_ok c.block_first-in-Some.result _ _ (λ e. record {
      here = e.here;
      elsewhere = λ l i ne.
          let u : Turn = record { layer = l; id = i } in
          e.elsewhere l i ne ∙ ap (λ (o : Option Pending). option_map changes_of (or_later (look u (take c.args.self.now.near.live c.args.self.now.near.entries.items)) o)) (c.remove.ensures.updates.2 u (other_turn c.args.turn u ne));
    }) c.block_first-in-Some.ensures
