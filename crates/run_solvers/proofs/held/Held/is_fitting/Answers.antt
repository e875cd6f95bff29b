-- The kinds are those that the meaning of programs compares.
use Rattle.run_solvers.specs.Views.{waits}
use Rattle.run_solvers.proofs.FitLaws.{early_own, fitting_seen}
use Rattle.run_solvers.proofs.held.Held.is_fitting.Goals as goal

pub returns : goal.returns
returns g c =
    let held = c.args.self.now in
    rw (c.are_same.ensures, c.kind-wanted.ensures, c.in_ok-kind.ensures) (fitting_seen held.solver held.names (waits held) c.args.variable c.args.term.now (early_own held.solver c.args.variable c.args.term.now c.requires.early))
