use Rattle.std.proofs.Common.{take, ap, sym, ◌∙◌, Option}
use Rattle.std.specs.Option.{option_map}
use Rattle.std.specs.BTreeMap.{get, is_at}
use Rattle.cbl_base.specs.declared.input.Change.TheVariants.{Int as IntChange}
use Rattle.store_turns.specs.declared.waiting.Turn.{Turn}
use Rattle.store_turns.specs.declared.waiting.Pending.{Pending}
use Rattle.store_turns.specs.Waits.{turn_cmp, or_later, changes_of}
use Rattle.store_turns.proofs.TurnOrder.{other_turn}
use Rattle.store_turns.specs.Entries.{turn_at, pending_at}
use Rattle.store_turns.proofs.ShortLists.{when_ok}
use Rattle.store_turns.proofs.TwoParts.{added_here}
use Rattle.store_turns.proofs.waiting.Waiting.push_number.Goals as goal

pub returns-in-Some-clause-waiting : goal.returns-in-Some-clause-waiting
returns-in-Some-clause-waiting g c =
    let es = take c.args.self.now.near.live c.args.self.now.near.entries.items in
    when_ok c.add_number.result _ _ (λ e. record {
      here = added_here (turn_at es c.in-Some.at) c.args.turn es (take c.add_number.new.self.live c.add_number.new.self.entries.items) (get turn_cmp c.args.self.now.far c.args.turn) (pending_at es c.in-Some.at) (IntChange c.args.place c.args.old.now c.args.new.now) c.in-Some.ensures.1 c.add_number.ensures.before e.here;
      elsewhere = λ l i ne.
          let u : Turn = record { layer = l; id = i } in
          ap (λ (o : Option Pending). option_map changes_of (or_later o (get turn_cmp c.args.self.now.far u))) (e.elsewhere u (ap (λ (x : Turn). is_at (turn_cmp u) x) c.in-Some.ensures.1 ∙ other_turn u c.args.turn (λ a b. ne (sym a) (sym b))));
    }) c.add_number.ensures.after
