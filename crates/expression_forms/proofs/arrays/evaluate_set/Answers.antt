use Rattle.comet_meaning.specs.Expressions.{set_form}
use Rattle.run_steps.proofs.Exits.{gives, after}
use Rattle.expression_forms.proofs.arrays.evaluate_set.Goals as goal

pub returns : goal.returns
unfolding set_form
returns g c = record { did = after _ _ _ _ c.in_ok-values.ensures.did (gives _ _ _ _ (rw c.deref.ensures.value at c.set_of_values.ensures.set) c.set_of_values.ensures.memory) }
