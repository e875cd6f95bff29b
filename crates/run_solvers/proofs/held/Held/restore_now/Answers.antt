-- The numbers are restored at once, or that is refused, or the model has a fault.
use Rattle.std.proofs.Common.{refl, sym, ◌∙◌}
use Rattle.run_solvers.specs.Views.{waits}
use Rattle.run_solvers.proofs.CommitLaws.{committed_kept}
use Rattle.run_solvers.proofs.SolutionLaws.{restored_failed, restored_ok, restored_refused}
use Rattle.run_solvers.proofs.ToldLaws.{told_commit}
use Rattle.run_solvers.proofs.held.Held.restore_now.Goals as goal

pub restore_uncounted-requires : goal.restore_uncounted-requires
restore_uncounted-requires g c = c.requires.kept.0.usable

pub returns-in-Ok : goal.returns-in-Ok
returns-in-Ok g c =
    let old = c.args.self.now in
    let new = c.restore_uncounted.new.self in
    let x = c.args.solution.now in
    let own = c.requires.own ∙ sym c.requires.kept.0.number_ in
    let done = restored_ok old.solver old.names (waits old) c.args.at x.values x new own refl c.requires.nothing c.in-Ok.changes c.in-Ok.ensures.restores in record {
      meant = done.0;
      kept = committed_kept old.solver new old.names _ (waits old) c.requires.nothing c.in-Ok.changes old.number c.requires.kept.0 c.requires.kept.1 done.1;
      number = refl;
      told = told_commit old.solver new old.names (waits old) (waits old) old.number c.requires.kept.0.number_ _ c.in-Ok.changes done.1;
    }

pub returns-in-Err-Run : goal.returns-in-Err-Run
returns-in-Err-Run g c =
    let old = c.args.self.now in
    let own = c.requires.own ∙ sym c.requires.kept.0.number_ in record {
      meant = restored_refused old.solver old.names (waits old) c.args.at c.args.solution.now.values c.args.solution.now c.restore_uncounted.new.self own refl c.requires.nothing c.in-Err-Run.fault (rw c.in-Err-Run.field-0-is at c.in-Err-Run.ensures.restores);
      kept = tt;
      number = refl;
      told = tt;
    }

pub returns-in-Err-At : goal.returns-in-Err-At
returns-in-Err-At g c =
    let old = c.args.self.now in
    let own = c.requires.own ∙ sym c.requires.kept.0.number_ in record {
      meant = restored_failed old.solver old.names (waits old) c.args.at c.args.solution.now.values c.args.solution.now c.restore_uncounted.new.self own refl c.requires.nothing c.in-Err-At.place c.in-Err-At.fault (rw c.in-Err-At.field-0-is at c.in-Err-At.ensures.restores);
      kept = tt;
      number = refl;
      told = tt;
    }
