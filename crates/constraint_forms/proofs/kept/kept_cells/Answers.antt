use Rattle.comet_meaning.specs.ConstraintForms.{kept_cells}
use Rattle.constraint_forms.proofs.kept.kept_cells.Goals as goal

pub returns : goal.returns
unfolding kept_cells
returns g c = record { did = c.as_cells.ensures.did _ _ c.value_of-value.ensures.did }
