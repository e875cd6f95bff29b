-- The candidates, their scan, and the frame as it was.
use Rattle.comet_meaning.proofs.GoingSearch.{goes_scan}
use Rattle.comet_meaning.proofs.GoingStatements.{goes_level}
use Rattle.run_steps.proofs.AggregateLaws.{memory_ends}
use Rattle.search_forms.proofs.ChoiceLaws.{own_rows, scan_exit, scan_is, scan_unlisted, scan_unscored}
use Rattle.search_forms.proofs.selectors.scan_all.Goals as goal

pub returns-in_err-frame-clause-did : goal.returns-in_err-frame-clause-did
returns-in_err-frame-clause-did g c = scan_exit _ _ _ _ _ c.from_residual.ensures.1 (memory_ends _ _ _ c.in_err-frame.ensures.memory ((goes_scan _ (goes_level _ _) _ _ _ _).from _).printed)

pub returns-in_err-candidates-clause-did : goal.returns-in_err-candidates-clause-did
returns-in_err-candidates-clause-did g c = scan_exit _ _ _ _ _ c.from_residual-in_err-candidates.ensures.1 (scan_unlisted _ _ _ _ _ _ (goes_level _ _) _ _ c.in_err-candidates.ensures.did)

pub scan-requires-clause-rows : goal.scan-requires-clause-rows
scan-requires-clause-rows g c = own_rows c.in_ok-candidates.ensures.rows

pub returns-in_err-part-clause-did : goal.returns-in_err-part-clause-did
returns-in_err-part-clause-did g c = scan_exit _ _ _ _ _ c.from_residual-in_err-part.ensures.1 (scan_unscored _ _ _ _ _ _ (goes_level _ _) c.in_ok-candidates.ensures.did _ _ c.in_err-part.ensures.did)

pub returns : goal.returns
returns g c = let scanned = c.in_ok-part.ensures.did in record { did = (scanned.0, scanned.1, scan_is _ _ _ _ _ _ _ c.in_ok-frame.ensures.same c.in_ok-candidates.ensures.did scanned.2); rows = own_rows c.in_ok-candidates.ensures.rows }
