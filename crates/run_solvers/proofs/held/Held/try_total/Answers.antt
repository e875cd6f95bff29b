-- There is one more, or it stops as it is meant to.
use Rattle.std.proofs.Common.{refl, sym, ◌∙◌}
use Rattle.run_solvers.specs.Views.{waits}
use Rattle.run_solvers.proofs.TotalLaws.{counted, total_made, total_sets, total_stops, total_whole}
use Rattle.run_solvers.proofs.held.Held.try_total.Goals as goal

pub new_total-requires : goal.new_total-requires
new_total-requires g c = c.requires.0.usable

pub returns-in-Ok-clause-tries : goal.returns-in-Ok-clause-tries
returns-in-Ok-clause-tries g c =
    let old = c.args.self.now in record {
      meant = total_made old.solver _ old.names (waits old) c.args.at c.args.side c.in-Ok.ensures.answer c.in-Ok.ensures.made;
      kept = (total_whole old.solver _ old.names (waits old) c.args.at c.args.side old.number c.requires.0 c.in-Ok.ensures.answer c.in-Ok.ensures.made, total_sets old.solver _ old.names (waits old) c.args.at c.args.side c.requires.1 c.in-Ok.ensures.made);
      number = refl;
    }

pub returns-in-Ok-clause-index : goal.returns-in-Ok-clause-index
returns-in-Ok-clause-index g c = c.in-Ok.ensures.index ∙ sym (counted c.args.self.now.solver.model c.args.side)

pub returns-in-Err-clause-tries : goal.returns-in-Err-clause-tries
returns-in-Err-clause-tries g c =
    let old = c.args.self.now in record {
      meant = total_stops old.solver old.solver old.names (waits old) c.args.at c.args.side c.in-Err.fault c.stop_of.result c.in-Err.ensures.answer c.stop_of.ensures;
      kept = tt;
      number = refl;
    }
