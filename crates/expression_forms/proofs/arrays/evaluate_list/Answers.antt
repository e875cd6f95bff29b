use Rattle.comet_meaning.specs.Arrays.{list_form}
use Rattle.run_steps.proofs.Exits.{gives, after}
use Rattle.expression_forms.proofs.arrays.evaluate_list.Goals as goal

pub returns : goal.returns
unfolding list_form
returns g c = record { did = after _ _ _ _ c.in_ok-values.ensures.did (gives _ _ _ _ (rw c.deref.ensures.value at c.row_of_values.ensures.row) c.row_of_values.ensures.memory) }
