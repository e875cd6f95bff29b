use Rattle.comet_meaning.specs.Variables.{domain_form}
use Rattle.declaration_forms.proofs.declarations.domain_of.Goals as goal

pub returns-in-Some : goal.returns-in-Some
unfolding domain_form
returns-in-Some g c = record { did = rw c.in-Some.is c.bounds_of.ensures.did }
