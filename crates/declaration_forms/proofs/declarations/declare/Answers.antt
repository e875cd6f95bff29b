use Rattle.std.proofs.Common.{refl}
use Rattle.comet_meaning.proofs.GoingOn.{goes_put}
use Rattle.comet_meaning.specs.Declarations.{scalar_form}
use Rattle.run_steps.proofs.Steps.{scalar_as}
use Rattle.run_steps.proofs.Stops.{does}
use Rattle.declaration_forms.proofs.declarations.declare.Goals as goal

pub returns-in-None : goal.returns-in-None
unfolding scalar_form
returns-in-None g c = record { did = rw (c.in-None.is, ← c.first_value.ensures) (does _ _ _ _ (goes_put _ _) refl (c.put.ensures.did _)) }

pub returns-in-Some : goal.returns-in-Some
returns-in-Some g c = record { did = rw (c.in-Some.is, scalar_as _ _ _ _ _ _, ← c.deref-value.ensures) (c.declare_value.ensures.did _ c.value_of-value.ensures.did) }
