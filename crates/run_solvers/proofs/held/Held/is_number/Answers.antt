-- The kind is the one that the meaning of programs looks at.
use Rattle.run_solvers.specs.Views.{waits}
use Rattle.run_solvers.proofs.PostLaws.{number_told}
use Rattle.run_solvers.proofs.held.Held.is_number.Goals as goal

pub returns : goal.returns
returns g c =
    let held = c.args.self.now in
    rw (c.are_same.ensures, c.in_ok-kind.ensures) (number_told held.solver held.names (waits held) c.args.term.now)
