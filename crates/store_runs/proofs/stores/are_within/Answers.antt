use Rattle.std.proofs.Common.{ℕ, ◌<◌, ◌≤◌, length, All, Vec, List, subst, arith, ◌∙◌}
use Rattle.std.specs.declared.alloc.Global.{Global}
use Rattle.std.proofs.lemmas.List.{take_all}
use Rattle.std.proofs.lemmas.List.Elements.{All-more}
use Rattle.store_runs.specs.Linked.{AreWithin}
use Rattle.store_runs.proofs.stores.are_within.Goals as goal

pub loop-id-preserved : goal.loop-id-preserved
loop-id-preserved c = All-more (λ i. i < c.args.count) c.deref-id-items.result.now c.loop-id.id-index 0 c.loop-id-test.true c.loop-id.invariant (omega (arith, c.if-id-count.false))

pub loop-list-preserved : goal.loop-list-preserved
loop-list-preserved c =
    let ids : All (λ i. i < c.args.count) c.list-item.result.items =
    subst (λ (is : List ℕ). All (λ i. i < c.args.count) is) (take_all c.loop-id.id-index c.deref-id-items.result.now (omega (arith, c.loop-id-test.false)) ∙ c.deref-id-items.ensures.value) c.loop-id.invariant in
    All-more (λ (v : Vec ℕ Global). (length v.items ≤ c.args.most) × All (λ i. i < c.args.count) v.items) c.args.lists.now c.loop-list.list-index c.list-item.result c.loop-list-test.true c.loop-list.invariant
    (subst (λ (v : Vec ℕ Global). (length v.items ≤ c.args.most) × All (λ i. i < c.args.count) v.items) c.list-item.is (omega (arith, c.if-len-most.false, c.len.ensures), ids))

pub returns : goal.returns
returns c = λ holds. subst (λ (lists : List (Vec ℕ Global)). AreWithin c.args.count c.args.most lists) (take_all c.loop-list.list-index c.args.lists.now (omega (arith, c.loop-list-test.false))) c.loop-list.invariant
