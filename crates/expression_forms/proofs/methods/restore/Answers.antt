use Rattle.comet_meaning.specs.Methods.{restore_form}
use Rattle.expression_forms.proofs.methods.restore.Goals as goal

pub returns : goal.returns
unfolding restore_form
returns g c = record { did = c.behind_restore.ensures.did _ c.call_method-restored.ensures.did }
