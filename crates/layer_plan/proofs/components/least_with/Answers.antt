use Rattle.std.proofs.Common.{◌≡◌, ◌≤◌, min, get_or, inl, inr, below_more, arith}
use Rattle.std.proofs.lemmas.Bool.{cases_lt}
use Rattle.std.proofs.lemmas.List.{get_or_default}
use Rattle.layer_plan.proofs.components.least_with.Goals as goal

pub loop-item-preserved : goal.loop-item-preserved
loop-item-preserved c =
    let items = c.args.items.now in
    let i = c.loop-item.item-index in
    let old = c.loop-item.invariant in
    let low = old.0 in
    let m : c.min-result.result ≡ min c.loop-item.result (get_or items i 0) = c.min-result.ensures in (
      omega arith,
      below_more (λ k. c.min-result.result ≤ get_or items k 0) i (λ k h. (let r = old.1 k h in omega arith)) (omega arith),
      elim (cases_lt (get_or items i 0) c.loop-item.result) [
        | inl h ↦ inr (i, omega arith, omega arith)
        | inr h ↦ elim old.2 [ inl e ↦ inl (omega arith) | inr w ↦ (let w_in = w.1 in let e = w.2 in inr (w.0, omega arith, omega arith)) ]
      ],
    )

pub returns-clause-all : goal.returns-clause-all
returns-clause-all c = λ many v at. (let in_list = at.1 in let low = c.loop-item.invariant.1 at.0 (omega arith) in let e = get_or_default c.args.items.now at.0 v 0 at.1 in let f = at.2 in omega arith)
