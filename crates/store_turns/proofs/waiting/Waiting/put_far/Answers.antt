use Rattle.std.proofs.Common.{ap, take, Option, rules}
use Rattle.std.specs.Option.{option_map}
use Rattle.store_turns.specs.declared.waiting.Turn.{Turn}
use Rattle.store_turns.specs.declared.waiting.Pending.{Pending}
use Rattle.store_turns.specs.Waits.{look, or_later, changes_of}
use Rattle.store_turns.proofs.TurnOrder.{other_turn}
use Rattle.store_turns.proofs.waiting.Waiting.put_far.Goals as goal

pub returns : goal.returns
returns c = record {
  here = search rules;
  elsewhere = λ l i ne.
      let u : Turn = record { layer = l; id = i } in
      ap (λ (o : Option Pending). option_map changes_of (or_later (look u (take c.args.self.now.near.live c.args.self.now.near.entries.items)) o)) (c.in_ok-insert.ensures.updates.2 u (other_turn c.args.turn u ne));
}
