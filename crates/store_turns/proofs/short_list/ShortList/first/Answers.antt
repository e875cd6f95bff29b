use Rattle.std.proofs.Common.{ℕ, ◌+◌, List, take, sym, ap, subst}
use Rattle.store_turns.specs.declared.waiting.Turn.{Turn}
use Rattle.store_turns.specs.declared.waiting.Pending.{Pending}
use Rattle.store_turns.proofs.ShortLists.{IsLeastAt, least_kept, least_found, least_of_all}
use Rattle.store_turns.proofs.short_list.ShortList.first.Goals as goal
use Rattle.store_turns.proofs.short_list.ShortList.first.Goals.{then-is_before, else-is_before}

pub loop-place-preserved : goal.loop-place-preserved
loop-place-preserved c =
    let es = take c.args.self.now.live c.args.self.now.entries.items in
    let n = c.loop-place.place in
    elim c.if-is_before.branch [
      | then-is_before w ↦ subst (λ (q : ℕ). IsLeastAt es (n + 1) q c.if-is_before.least) (sym w.first-is) (subst (λ (t : Turn). IsLeastAt es (n + 1) n t) (sym w.least-is) (least_found es (take c.args.self.now.live c.deref.result.now) c.loop-place.least n c.loop-place.first c.entry-item.result c.is_before.result (ap (λ (xs : List (Turn × Pending)). take c.args.self.now.live xs) c.deref.ensures.value) c.loop-place.invariant c.loop-place-test.true c.entry-item.is c.is_before.ensures w.if-is_before.true))
      | else-is_before w ↦ subst (λ (q : ℕ). IsLeastAt es (n + 1) q c.if-is_before.least) (sym w.first-is) (subst (λ (t : Turn). IsLeastAt es (n + 1) c.loop-place.first t) (sym w.least-is) (least_kept es (take c.args.self.now.live c.deref.result.now) c.loop-place.least n c.loop-place.first c.entry-item.result c.is_before.result (ap (λ (xs : List (Turn × Pending)). take c.args.self.now.live xs) c.deref.ensures.value) c.loop-place.invariant c.loop-place-test.true c.entry-item.is c.is_before.ensures w.if-is_before.false))
    ]

pub returns : goal.returns
returns c = least_of_all (take c.args.self.now.live c.args.self.now.entries.items) (take c.args.self.now.live c.deref.result.now) c.loop-place.place c.loop-place.first c.loop-place.least (ap (λ (xs : List (Turn × Pending)). take c.args.self.now.live xs) c.deref.ensures.value) c.loop-place.invariant c.loop-place-test.false
