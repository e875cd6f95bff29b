-- The scan, and then one of the ties.
use Rattle.std.proofs.Common.{sym, subst}
use Rattle.run_steps.proofs.Exits.{exit, gives}
use Rattle.run_steps.specs.Does.{Does}
use Rattle.search_forms.proofs.ChoiceLaws.{choice_ends, choice_is}
use Rattle.search_forms.proofs.selectors.choose.Goals as goal

pub returns-in_err-scan : goal.returns-in_err-scan
returns-in_err-scan g c = record { did = exit _ _ _ _ _ c.from_residual.ensures.1 (choice_ends _ _ _ _ _ _ _ _ _ c.in_err-scan.ensures.did) }

pub returns : goal.returns
returns g c = record { did = let scanned = c.in_ok-scan.ensures.did in subst (Does _ _ _) (sym (choice_is _ _ _ _ _ _ _ _ scanned.2 scanned.1 (c.pick-number.ensures.did _))) (gives _ _ _ _ c.chosen_in.ensures.same c.chosen_in.ensures.memory) }
