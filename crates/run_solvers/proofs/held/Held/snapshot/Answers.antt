-- The numbers of the free variables are kept.
use Rattle.run_solvers.specs.Views.{waits}
use Rattle.run_solvers.proofs.SolutionLaws.{keeps}
use Rattle.run_solvers.proofs.held.Held.snapshot.Goals as goal

pub returns-in-Ok-clause-did : goal.returns-in-Ok-clause-did
returns-in-Ok-clause-did g c = λ s.
    let h = c.args.self.now in
    keeps h.solver h.names (waits h) c.args.at s c.in-Ok.solution c.keeps_form.ensures.assigned c.in-Ok.ensures.answer c.in-Ok.ensures.values
