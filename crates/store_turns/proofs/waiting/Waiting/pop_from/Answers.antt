use Rattle.std.proofs.Common.{take, sym, ◌∙◌, subst, rules}
use Rattle.std.specs.BTreeMap.{get}
use Rattle.store_turns.specs.Waits.{turn_cmp, IsLeast}
use Rattle.store_turns.specs.declared.waiting.Turn.{Turn}
use Rattle.store_turns.proofs.TwoParts.{popped, one_ahead, near_gone, when_some}
use Rattle.store_turns.proofs.waiting.Waiting.pop_from.Goals as goal

pub returns-then-is_first_before-clause-taken : goal.returns-then-is_first_before-clause-taken
returns-then-is_first_before-clause-taken c =
    when_some c.pop_far.result _ _ _ (λ t h. popped c.args.self.now c.pop_far.new.self c.pop_far.ensures.near t h (one_ahead (take c.args.self.now.near.live c.args.self.now.near.entries.items) (λ u. get turn_cmp c.args.self.now.far u) c.turn-turn.result t (subst (λ (x : Turn). IsLeast x (take c.args.self.now.near.live c.args.self.now.near.entries.items)) (sym c.turn-turn.ensures) c.requires.least) c.if-is_first_before.ensures h.1)) c.pop_far.ensures.far

pub returns-clause-taken : goal.returns-clause-taken
returns-clause-taken c =
    let gone = near_gone (take c.args.self.now.near.live c.args.self.now.near.entries.items) (take c.take-2.new.self.live c.take-2.new.self.entries.items) (λ u. get turn_cmp c.args.self.now.far u) (λ u. get turn_cmp c.remove.new.self u) c.take-2.result c.turn-turn.result (c.turn-turn.ensures ∙ sym c.take-2.ensures.turn) c.take-2.ensures.after c.remove.ensures.updates.1 c.remove.ensures.updates.2 in
    record {
      taken = search rules;
      least = search rules;
      here = gone.0;
      elsewhere = gone.1;
    }
