use Rattle.std.proofs.Common.{rules, ◌≡◌, ◌+◌, ◌*◌, ◌≤◌, ℤ, List, [], ◌∷◌, pos, ap, subst, sym, ◌∙◌, slice_index_or}
use Rattle.cbl_base.specs.declared.ids.VarId.{VarId}
use Rattle.inc_store.specs.Moves.{is_moved}
use Rattle.model_store.specs.Settings.{users_in}
use Rattle.model_values.specs.Delta.{moved}
use Rattle.model_values.specs.declared.deltas.Move.TheVariants.{Assign, Swap}
use Rattle.solver_store.specs.Asking.{cell, moves_by}
use Rattle.store_laws.specs.ModelTouch.{model_touch}
use Rattle.solver_store.proofs.closed.Closed.delta.Goals as goal

pub returns-in-Assign-clause-steps : goal.returns-in-Assign-clause-steps
returns-in-Assign-clause-steps g c =
    let M = g.question.setting.model in
    let a = g.question.setting.assignment in
    let is : g.question.change ≡ Assign c.in-Assign.var c.in-Assign.value = search rules in
    let same : (c.cell.result, c.in-Assign.value) ∷ [] ≡ moves_by a g.question.change = ap (λ (v : VarId). (v, c.in-Assign.value) ∷ []) c.cell.ensures ∙ ap (moves_by a) (sym is) in
    subst (λ (ms : List (VarId × ℤ)). c.told.new.steps ≤ c.args.steps.now + 4 * model_touch (users_in g.question.setting) M a M (moved a g.question.change) (is_moved ms)) same c.told.ensures.steps

pub returns-in-Swap-clause-steps : goal.returns-in-Swap-clause-steps
returns-in-Swap-clause-steps g c =
    let M = g.question.setting.model in
    let a = g.question.setting.assignment in
    let left = c.in-Swap.left in
    let right = c.in-Swap.right in
    let is : g.question.change ≡ Swap left right = search rules in
    let numbers : a ≡ c.args.assignment.now = search rules in
    let same : (c.cell-in-Swap.result, slice_index_or c.args.assignment.now left (pos 0)) ∷ (c.cell-in-Swap-2.result, slice_index_or c.args.assignment.now right (pos 0)) ∷ [] ≡ moves_by a g.question.change =
    ap (λ (v : VarId). (v, slice_index_or c.args.assignment.now left (pos 0)) ∷ (c.cell-in-Swap-2.result, slice_index_or c.args.assignment.now right (pos 0)) ∷ []) c.cell-in-Swap.ensures
    ∙ ap (λ (v : VarId). (cell right, slice_index_or c.args.assignment.now left (pos 0)) ∷ (v, slice_index_or c.args.assignment.now right (pos 0)) ∷ []) c.cell-in-Swap-2.ensures
    ∙ ap (λ (b : List ℤ). moves_by b (Swap left right)) (sym numbers)
    ∙ ap (moves_by a) (sym is) in
    subst (λ (ms : List (VarId × ℤ)). c.told-in-Swap.new.steps ≤ c.args.steps.now + 4 * model_touch (users_in g.question.setting) M a M (moved a g.question.change) (is_moved ms)) same c.told-in-Swap.ensures.steps
