use Rattle.std.proofs.Common.{◌∙◌, sym, subst}
use Rattle.run_steps.specs.Does.{Does}
use Rattle.term_forms.proofs.IndexLaws.{cell_moves, cell_stays}
use Rattle.term_forms.proofs.arrays.cell_term.Goals as goal

pub returns-then-is_one_moving : goal.returns-then-is_one_moving
returns-then-is_one_moving g c = record { did = subst (Does _ _ _) (sym (cell_moves _ _ _ _ _ _ (sym c.is_one_moving.ensures ∙ c.if-is_one_moving.true))) c.grid_term.ensures.did }

pub returns-else-is_one_moving : goal.returns-else-is_one_moving
returns-else-is_one_moving g c = record { did = subst (Does _ _ _) (sym (cell_stays _ _ _ _ _ _ (sym c.is_one_moving.ensures ∙ c.if-is_one_moving.false))) c.picked_cell.ensures.did }
