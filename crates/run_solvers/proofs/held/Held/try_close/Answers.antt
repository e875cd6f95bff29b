-- The solver is closed, or stops as it is meant to.
use Rattle.std.proofs.Common.{refl}
use Rattle.run_solvers.specs.Views.{waits}
use Rattle.run_solvers.proofs.CloseLaws.{closed_kept, closes_ok, closes_stops}
use Rattle.run_solvers.proofs.held.Held.try_close.Goals as goal

pub close-requires-clause-sets : goal.close-requires-clause-sets
close-requires-clause-sets g c = λ open'. c.requires.1

pub close-requires-clause-usable : goal.close-requires-clause-usable
close-requires-clause-usable g c = c.requires.0.usable

pub returns-in-Ok : goal.returns-in-Ok
returns-in-Ok g c =
    let old = c.args.self.now in record {
      meant = closes_ok old.solver _ old.names (waits old) c.args.at c.keeps_form.ensures.formed c.in-Ok.ensures;
      kept = closed_kept old.solver _ old.names (waits old) c.args.at c.keeps_form.ensures.formed old.number c.requires.0 c.requires.1 c.in-Ok.ensures;
      number = refl;
    }

pub returns-in-Err : goal.returns-in-Err
returns-in-Err g c =
    let old = c.args.self.now in record {
      meant = closes_stops old.solver _ old.names (waits old) c.args.at c.keeps_form.ensures.formed c.in-Err.fault c.stop_of.result c.in-Err.ensures c.stop_of.ensures;
      kept = tt;
      number = refl;
    }
