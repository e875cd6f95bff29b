use Rattle.std.proofs.Common.{List, take, sym, ap, ◌∙◌}
use Rattle.store_turns.specs.declared.waiting.Turn.{Turn}
use Rattle.store_turns.specs.declared.waiting.Pending.{Pending}
use Rattle.store_turns.proofs.ShortLists.{place_passed_in}
use Rattle.store_turns.proofs.short_list.ShortList.place_of.Goals as goal

pub loop-place-preserved : goal.loop-place-preserved
loop-place-preserved c =
    place_passed_in c.args.turn (take c.args.self.now.live c.args.self.now.entries.items) (take c.args.self.now.live c.deref.result.now) c.loop-place.place c.entry-item.result (ap (λ (xs : List (Turn × Pending)). take c.args.self.now.live xs) c.deref.ensures.value) c.loop-place.invariant c.loop-place-test.true c.entry-item.is (sym c.is_same.ensures ∙ c.if-is_same.false)
