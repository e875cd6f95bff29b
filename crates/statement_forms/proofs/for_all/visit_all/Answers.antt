use Rattle.std.proofs.Common.{sym, arith, option_map}
use Rattle.checked_tree.specs.Shape.{seen, optional, whole}
use Rattle.comet_meaning.proofs.GoingStatements.{goes_level}
use Rattle.comet_meaning.proofs.Rows.{found_stands}
use Rattle.comet_meaning.specs.Program.{level}
use Rattle.checked_tree.specs.Tasks.{work_of}
use Rattle.std.proofs.lemmas.Result.{err_from_is_err_and}
use Rattle.comet_meaning.specs.Levels.{Next}
use Rattle.run_steps.proofs.Visiting.{visiting_goes_on, visiting_returns, visiting_spends, visiting_starts, visiting_stays, visiting_stops}
use Rattle.statement_forms.proofs.for_all.visit_all.Goals as goal

pub returns-in_err-domain : goal.returns-in_err-domain
returns-in_err-domain g c = let p = err_from_is_err_and c.from_residual.result c.from_residual.ensures.1 in record { did = rw (p.1, p.2) (visiting_stays _ (goes_level _ _) _ _ _ _ _ _ c.requires.known _ _ c.in_err-domain.ensures.did) }

pub tuples-init : goal.tuples-init
tuples-init g c = (rw (c.new.ensures.items, c.pending_of.ensures) (visiting_starts _ (goes_level _ _) _ _ _ _ _ _ c.requires.known _ _ c.in_ok-domain.ensures.did), rw c.new.ensures.items (found_stands _ 0 _ (sym c.requires.known)).0)

pub returns-in_err-found : goal.returns-in_err-found
returns-in_err-found g c = let p = err_from_is_err_and c.from_residual-in_err-found.result c.from_residual-in_err-found.ensures.1 in record { did = rw (p.1, p.2) (c.in_err-found.ensures.did _ c.tuples.invariant.0) }

pub returns-in-None : goal.returns-in-None
returns-in-None g c = record { did = rw c.in-None.is at (c.in_ok-found.ensures.did _ c.tuples.invariant.0) }

pub returns-in_err-flow-in-Some : goal.returns-in_err-flow-in-Some
returns-in_err-flow-in-Some g c = let p = err_from_is_err_and c.from_residual-in_err-flow-in-Some.result c.from_residual-in_err-flow-in-Some.ensures.1 in let m = rw c.in-Some.is at (c.in_ok-found.ensures.did _ c.tuples.invariant.0) in record { did = rw (p.1, p.2) (visiting_stops (level (g.W.Within.code c.args.inside.now) (g.W.Within.depth c.args.inside.now)) (goes_level (g.W.Within.code c.args.inside.now) (g.W.Within.depth c.args.inside.now)) (optional whole (option_map seen c.args.condition.now)) (work_of c.args.body.now) m _ _ (c.in_err-flow-in-Some.ensures.did _ _)) }

pub returns-in-Returned : goal.returns-in-Returned
returns-in-Returned g c = let m = rw c.in-Some.is at (c.in_ok-found.ensures.did _ c.tuples.invariant.0) in record { did = visiting_returns (level (g.W.Within.code c.args.inside.now) (g.W.Within.depth c.args.inside.now)) (goes_level (g.W.Within.code c.args.inside.now) (g.W.Within.depth c.args.inside.now)) (optional whole (option_map seen c.args.condition.now)) (work_of c.args.body.now) m _ _ (rw c.in-Returned.is at (c.in_ok-flow-in-Some.ensures.did c.in-Some._value Next)) }

pub tuples-preserved : goal.tuples-preserved
tuples-preserved g c = let m = rw c.in-Some.is at (c.in_ok-found.ensures.did _ c.tuples.invariant.0) in (visiting_goes_on (level (g.W.Within.code c.args.inside.now) (g.W.Within.depth c.args.inside.now)) (goes_level (g.W.Within.code c.args.inside.now) (g.W.Within.depth c.args.inside.now)) (optional whole (option_map seen c.args.condition.now)) (work_of c.args.body.now) m _ (rw c.in-Next.is at (c.in_ok-flow-in-Some.ensures.did c.in-Some._value Next)), c.in_ok-found.ensures.inside)

pub tuples-smaller : goal.tuples-smaller
tuples-smaller g c = let m = rw c.in-Some.is at (c.in_ok-found.ensures.did _ c.tuples.invariant.0) in let less = rw c.in-Some.is at c.in_ok-found.ensures.falls in let no_more = visiting_spends (level (g.W.Within.code c.args.inside.now) (g.W.Within.depth c.args.inside.now)) (goes_level (g.W.Within.code c.args.inside.now) (g.W.Within.depth c.args.inside.now)) (optional whole (option_map seen c.args.condition.now)) (work_of c.args.body.now) m Next _ (rw c.in-Next.is at (c.in_ok-flow-in-Some.ensures.did c.in-Some._value Next)) in omega arith
