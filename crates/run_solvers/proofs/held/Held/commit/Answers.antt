-- The moves are committed, or stop as they are meant to.
use Rattle.std.proofs.Common.{refl}
use Rattle.run_solvers.specs.Views.{waits}
use Rattle.run_solvers.proofs.BlockLaws.{free_number}
use Rattle.run_solvers.proofs.CommitLaws.{commits_fault, commits_ok, committed_kept}
use Rattle.run_solvers.proofs.ToldLaws.{told_commit}
use Rattle.run_solvers.proofs.held.Held.commit.Goals as goal

pub commit_uncounted-requires-clause-usable : goal.commit_uncounted-requires-clause-usable
commit_uncounted-requires-clause-usable g c = c.requires.kept.0.usable

pub commit_uncounted-requires-clause-kinds : goal.commit_uncounted-requires-clause-kinds
commit_uncounted-requires-clause-kinds g c = λ k m at own. free_number c.args.self.now.solver m.0 c.requires.kept.1 own (c.requires.free k m at).1

pub returns-in-Ok : goal.returns-in-Ok
returns-in-Ok g c =
    let old = c.args.self.now in
    let new = c.commit_uncounted.new.self in record {
      meant = commits_ok old.solver new old.names c.args.moves.now (waits old) c.requires.nothing c.in-Ok.changes c.in-Ok.ensures;
      kept = committed_kept old.solver new old.names c.args.moves.now (waits old) c.requires.nothing c.in-Ok.changes old.number c.requires.kept.0 c.requires.kept.1 c.in-Ok.ensures;
      number = refl;
      told = told_commit old.solver new old.names (waits old) (waits old) old.number c.requires.kept.0.number_ c.args.moves.now c.in-Ok.changes c.in-Ok.ensures;
    }

pub returns-in-Err-At : goal.returns-in-Err-At
returns-in-Err-At g c =
    let old = c.args.self.now in record {
      meant = commits_fault old.solver c.commit_uncounted.new.self old.names c.args.moves.now (waits old) c.requires.nothing c.in-Err-At.place c.in-Err-At.fault (rw c.in-Err-At.field-0-is at c.in-Err-At.ensures);
      kept = tt;
      number = refl;
      told = tt;
    }
