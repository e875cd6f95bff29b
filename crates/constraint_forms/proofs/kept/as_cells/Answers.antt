use Rattle.std.proofs.Common.{refl}
use Rattle.comet_meaning.specs.Cells.{cells}
use Rattle.comet_meaning.proofs.GoingOn.{goes_cells}
use Rattle.run_values.specs.Views.{cells_seen, value_seen}
use Rattle.run_steps.proofs.Behind.{err_passes, ok_acts}
use Rattle.constraint_forms.proofs.kept.as_cells.Goals as goal

pub returns-in-Err : goal.returns-in-Err
returns-in-Err c = record { did = λ printed. err_passes value_seen c.args.value c.in-Err.stop _ cells c.in-Err.is (λ v. goes_cells v) }

pub returns-in-Ok : goal.returns-in-Ok
returns-in-Ok c = record { did = λ printed. ok_acts value_seen cells_seen c.args.value c.in-Ok.value _ _ _ cells c.in-Ok.is (λ v. goes_cells v) refl (c.copied_cells.ensures.did printed) }
