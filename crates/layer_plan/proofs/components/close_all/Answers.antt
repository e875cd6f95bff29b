use Rattle.std.proofs.Common.{◌≡◌, ◌∙◌, ◌<◌, ℕ, List, length, get_or, set, subst, sym, ap, inl, inr, below_more, arith}
use Rattle.std.proofs.lemmas.Bool.{cases_eq}
use Rattle.std.proofs.lemmas.List.{length-set, get_or-set_same, get_or-set_other, get_or_default}
use Rattle.std.proofs.lemmas.List.Sums.{sum_by-set}
use Rattle.layer_plan.specs.Components.{weight}
use Rattle.layer_plan.specs.declared.components.Mark.{Mark}
use Rattle.layer_plan.specs.declared.components.Mark.TheVariants.{Untouched, Closed}
use Rattle.layer_plan.proofs.components.close_all.Goals as goal

closed_still : (ms : List Mark) (x y : ℕ) → x < length ms → get_or ms y Untouched ≡ Closed → get_or (set ms x Closed) y Untouched ≡ Closed
closed_still ms x y x_in e = elim (cases_eq y x) [ inl q ↦ ap (λ k. get_or (set ms x Closed) k Untouched) q ∙ get_or-set_same ms x Closed Untouched x_in | inr n ↦ get_or-set_other ms x y Closed Untouched n ∙ e ]

pub loop-item-preserved : goal.loop-item-preserved
loop-item-preserved c =
    let ms = c.loop-item.marks.items in
    let items = c.args.items.now in
    let i = c.loop-item.item-index in
    let x = get_or items i 0 in
    let old = c.loop-item.invariant in
    let count = old.0 in
    let low = old.3 in
    let inside = c.requires i c.loop-item-test.true in
    let x_in : x < length ms = omega arith in
    let sum = sum_by-set weight ms x Closed Untouched x_in in (
      length-set ms x Closed ∙ old.0,
      below_more (λ k. get_or (set ms x Closed) (get_or items k 0) Untouched ≡ Closed) i (λ k h. closed_still ms x (get_or items k 0) x_in (old.1 k h)) (get_or-set_same ms x Closed Untouched x_in),
      λ v none. get_or-set_other ms x v Closed Untouched (λ e. none i (omega arith) (sym e)) ∙ old.2 v (λ k h. none k (omega arith)),
      omega arith,
    )

pub returns-clause-closed : goal.returns-clause-closed
returns-clause-closed c = λ v at. (let in_list = at.1 in subst (λ y. get_or c.loop-item.marks.items y Untouched ≡ Closed) (get_or_default c.args.items.now at.0 0 v at.1 ∙ at.2) (c.loop-item.invariant.1 at.0 (omega arith)))
