use Rattle.comet_meaning.specs.ConstraintForms.{kept_set}
use Rattle.constraint_forms.proofs.kept.kept_set.Goals as goal

pub returns : goal.returns
unfolding kept_set
returns g c = record { did = c.as_set.ensures.did _ _ c.value_of-value.ensures.did }
