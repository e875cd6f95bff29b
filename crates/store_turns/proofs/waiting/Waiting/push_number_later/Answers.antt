use Rattle.std.proofs.Common.{◌≡◌, refl, ap, sym, ◌∙◌, None, take, Option, Some, [], ◌∷◌}
use Rattle.std.specs.Option.{option_map}
use Rattle.std.specs.BTreeMap.{get}
use Rattle.cbl_base.specs.declared.input.Change.TheVariants.{Int as IntChange}
use Rattle.store_turns.specs.declared.waiting.Turn.{Turn}
use Rattle.store_turns.specs.declared.waiting.Pending.{Pending}
use Rattle.store_turns.specs.Waits.{turn_cmp, look, or_later, changes_of, Wait, and_change, waits}
use Rattle.store_turns.proofs.TurnOrder.{other_turn}
use Rattle.store_turns.proofs.ShortLists.{when_ok}
use Rattle.store_turns.proofs.TwoParts.{near_first, none_in}
use Rattle.store_turns.proofs.waiting.Waiting.push_number_later.Goals as goal

pub returns-then-len-lt-FEW : goal.returns-then-len-lt-FEW
returns-then-len-lt-FEW c =
    let nothing : waits c.args.self.now c.args.turn.layer c.args.turn.id ≡ None = ap (λ (o : Option Pending). option_map changes_of (or_later o (get turn_cmp c.args.self.now.far c.args.turn))) c.requires ∙ ap (λ (o : Option Pending). option_map changes_of o) (none_in c.args.turn c.args.self.now.far.entries (c.if-is_empty.ensures.0 refl)) in
    when_ok c.begin_number.result _ _ (λ e. record {
      here = near_first (look c.args.turn (take c.begin_number.new.self.live c.begin_number.new.self.entries.items)) (get turn_cmp c.args.self.now.far c.args.turn) (Some (IntChange c.args.place c.args.old.now c.args.new.now ∷ [])) e.here ∙ ap (λ (w : Wait). Some (and_change (IntChange c.args.place c.args.old.now c.args.new.now) w)) (sym nothing);
      elsewhere = λ l i ne.
          let u : Turn = record { layer = l; id = i } in
          ap (λ (o : Option Pending). option_map changes_of (or_later o (get turn_cmp c.args.self.now.far u))) (e.elsewhere u (other_turn u c.args.turn (λ a b. ne (sym a) (sym b))));
    }) c.begin_number.ensures
