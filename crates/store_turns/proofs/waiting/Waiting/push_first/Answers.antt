use Rattle.std.proofs.Common.{ap, sym, ◌∙◌, take, Option, Some, [], ◌∷◌}
use Rattle.std.specs.Option.{option_map}
use Rattle.std.specs.BTreeMap.{get}
use Rattle.store_turns.specs.declared.waiting.Turn.{Turn}
use Rattle.store_turns.specs.declared.waiting.Pending.{Pending}
use Rattle.store_turns.specs.Waits.{turn_cmp, look, or_later, changes_of, Wait, and_change}
use Rattle.store_turns.proofs.TurnOrder.{other_turn}
use Rattle.store_turns.proofs.ShortLists.{when_ok}
use Rattle.store_turns.proofs.TwoParts.{near_first}
use Rattle.store_turns.proofs.waiting.Waiting.push_first.Goals as goal

pub returns-then-len-lt-FEW : goal.returns-then-len-lt-FEW
returns-then-len-lt-FEW c =
    when_ok c.begin.result _ _ (λ e. record {
      here = near_first (look c.args.turn (take c.begin.new.self.live c.begin.new.self.entries.items)) (get turn_cmp c.args.self.now.far c.args.turn) (Some (c.args.change ∷ [])) e.here ∙ ap (λ (w : Wait). Some (and_change c.args.change w)) (sym c.requires);
      elsewhere = λ l i ne.
          let u : Turn = record { layer = l; id = i } in
          ap (λ (o : Option Pending). option_map changes_of (or_later o (get turn_cmp c.args.self.now.far u))) (e.elsewhere u (other_turn u c.args.turn (λ a b. ne (sym a) (sym b))));
    }) c.begin.ensures
