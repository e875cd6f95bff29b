use Rattle.comet_meaning.proofs.GoingStatements.{goes_name_target}
use Rattle.run_steps.proofs.Exits.{act_does}
use Rattle.run_steps.proofs.Shapes.{form_name}
use Rattle.comet_meaning.specs.Writes.{target_of_form}
use Rattle.write_forms.proofs.targets.target_of_form.Goals as goal

pub returns-in-Name : goal.returns-in-Name
unfolding target_of_form
returns-in-Name g c = record { did = rw (c.in-Name.is, form_name _) (act_does _ _ _ _ (c.name_target.ensures.did _) ((goes_name_target _ _).from _).printed) }
