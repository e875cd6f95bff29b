-- The variable, and then its handler.
use Rattle.std.proofs.Common.{refl}
use Rattle.run_steps.proofs.Exits.{exit}
use Rattle.search_forms.proofs.LaterLaws.{whenever_ends, whenever_stops, whenever_went}
use Rattle.search_forms.proofs.watching.execute_whenever.Goals as goal

pub returns-in_err-variable : goal.returns-in_err-variable
returns-in_err-variable g c = record { did = exit _ _ _ _ _ c.from_residual.ensures.1 (whenever_ends _ _ _ _ _ _ _ c.in_err-variable.ensures.did) }

pub returns-in_err-attach : goal.returns-in_err-attach
returns-in_err-attach g c = record { did = exit _ _ _ _ _ c.from_residual-in_err-attach.ensures.1 (whenever_stops _ _ _ _ _ c.in_ok-variable.ensures.did _ _ refl (c.in_err-attach.ensures.did _)) }

pub returns : goal.returns
returns g c = record { did = whenever_went _ _ _ _ _ c.in_ok-variable.ensures.did (c.in_ok-attach.ensures.did _) }
