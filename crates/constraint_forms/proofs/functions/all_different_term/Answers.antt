use Rattle.comet_meaning.specs.ConstraintForms.{all_different_form}
use Rattle.constraint_forms.proofs.functions.all_different_term.Goals as goal

pub returns : goal.returns
unfolding all_different_form
returns g c = record { did = c.all_different_with.ensures.did _ _ c.term_cells-cells.ensures.did }
