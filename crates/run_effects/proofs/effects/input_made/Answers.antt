use Rattle.std.proofs.Common.{refl}
use Rattle.comet_meaning.proofs.GoingDeclarations.{goes_make_input}
use Rattle.run_steps.proofs.Stops.{does}
use Rattle.run_effects.proofs.effects.input_made.Goals as goal

pub returns : goal.returns
returns c = record { did = λ printed. does _ _ _ _ goes_make_input refl (c.make_input.ensures.did printed) }
