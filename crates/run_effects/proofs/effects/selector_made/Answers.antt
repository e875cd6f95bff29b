use Rattle.std.proofs.Common.{refl}
use Rattle.comet_meaning.proofs.GoingSearch.{goes_make_selector}
use Rattle.run_steps.proofs.Stops.{does}
use Rattle.run_effects.proofs.effects.selector_made.Goals as goal

pub returns : goal.returns
returns c = record { did = λ printed. does _ _ _ _ goes_make_selector refl (c.make_selector.ensures.did printed) }
