-- What is kept runs.
use Rattle.comet_meaning.proofs.GoingStatements.{goes_level}
use Rattle.run_steps.proofs.AggregateLaws.{memory_ends}
use Rattle.run_steps.proofs.Exits.{exit}
use Rattle.search_forms.proofs.LaterLaws.{goes_run_move, move_does, move_none}
use Rattle.search_forms.proofs.moves.run_kept.Goals as goal

pub returns-in_err-kept : goal.returns-in_err-kept
returns-in_err-kept g c = record { did = exit _ _ _ _ _ c.from_residual.ensures.1 (memory_ends _ _ _ c.in_err-kept.ensures.memory ((goes_run_move _ (goes_level _ _) _).from _).printed) }

pub returns-in-None : goal.returns-in-None
returns-in-None g c = record { did = move_none _ _ _ (rw c.in-None.is at (c.in_ok-kept.ensures.kept (g.O.Outside.told c.args.out.now))) }

pub returns-in-Some : goal.returns-in-Some
returns-in-Some g c = record { did = move_does _ _ _ _ _ _ _ (rw c.in-Some.is at (c.in_ok-kept.ensures.kept (g.O.Outside.told c.args.out.now))) c.run_closure.ensures.did }
