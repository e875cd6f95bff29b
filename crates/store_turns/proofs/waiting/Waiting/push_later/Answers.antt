use Rattle.std.proofs.Common.{ap, take, sym, Option}
use Rattle.std.specs.Option.{option_map}
use Rattle.store_turns.specs.declared.waiting.Turn.{Turn}
use Rattle.store_turns.specs.declared.waiting.Pending.{Pending}
use Rattle.store_turns.specs.Waits.{look, or_later, changes_of}
use Rattle.store_turns.proofs.TurnOrder.{other_turn}
use Rattle.store_turns.proofs.ShortLists.{when_ok}
use Rattle.store_turns.proofs.TwoParts.{some_of, added_far}
use Rattle.store_turns.proofs.waiting.Waiting.push_later.Goals as goal

pub returns-in-Some : goal.returns-in-Some
returns-in-Some c =
    let writes = (c.get_mut.follows.holds c.add_to.new.pending).3 (some_of _ c.in-Some.pending.now (sym c.in-Some.ensures.value)) in
    when_ok c.add_to.result _ _ (λ e. record {
      here = added_far (look c.args.turn (take c.args.self.now.near.live c.args.self.now.near.entries.items)) _ _ c.in-Some.pending.now c.add_to.new.pending c.args.change c.requires (sym c.in-Some.ensures.value) writes.1 e;
      elsewhere = λ l i ne.
          let u : Turn = record { layer = l; id = i } in
          ap (λ (o : Option Pending). option_map changes_of (or_later (look u (take c.args.self.now.near.live c.args.self.now.near.entries.items)) o)) (writes.2 u (other_turn c.args.turn u ne));
    }) c.add_to.ensures
