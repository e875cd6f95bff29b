use Rattle.std.proofs.Common.{◌≡◌, ◌≤◌, ℕ, ◌<◌, length, get_or, sum_by}
use Rattle.layer_plan.specs.Components.{weight}
use Rattle.layer_plan.specs.declared.components.Mark.TheVariants.{Untouched, Closed}
use Rattle.layer_plan.proofs.components.close_all.Given as goal

abbrev pub invariant-loop-item : goal.invariant-loop-item
invariant-loop-item l = (length l.marks.items ≡ length l.fn.marks.items) × ((k : ℕ) → k < l.item-index → get_or l.marks.items (get_or l.items k 0) Untouched ≡ Closed) × ((v : ℕ) → ((k : ℕ) → k < l.item-index → get_or l.items k 0 ≡ v → ⊥) → get_or l.marks.items v Untouched ≡ get_or l.fn.marks.items v Untouched) × (sum_by weight l.marks.items ≤ sum_by weight l.fn.marks.items)
