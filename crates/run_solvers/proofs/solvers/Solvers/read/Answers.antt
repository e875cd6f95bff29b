-- The solver is there, or it has no variable.
use Rattle.std.proofs.Common.{◌≡◌, ◌<◌, length, get_or, sym, ◌∙◌, arith}
use Rattle.comet_meaning.specs.Parts.{solver_at}
use Rattle.run_solvers.proofs.FoundSolvers.{found, kept_there, not_found, reads_nothing}
use Rattle.run_solvers.proofs.solvers.Solvers.read.Goals as goal

pub returns-then-number-len-clause-did : goal.returns-then-number-len-clause-did
returns-then-number-len-clause-did g c = λ s is.
    let none = not_found c.self.inside.held.items c.args.variable.solver s (is ∙ sym c.self.view_is) (omega (arith, c.len.ensures, c.if-number-len.true)) in
    reads_nothing c.args.at c.args.variable.index (solver_at s c.args.variable.solver) s none

pub read-requires : goal.read-requires
read-requires g c =
    let held = c.self.inside.held.items in
    let there : c.index.result.now ≡ get_or held c.args.variable.solver c.index.result.now = c.index.ensures in
    (kept_there held c.args.variable.solver c.index.result.now c.self.invariant (omega (arith, c.len.ensures, c.if-number-len.false)) there).1

pub returns-clause-did : goal.returns-clause-did
returns-clause-did g c = λ s is.
    let held = c.self.inside.held.items in
    let there : c.index.result.now ≡ get_or held c.args.variable.solver c.index.result.now = c.index.ensures in
    let lt : c.args.variable.solver < length c.self.inside.held.items = omega (arith, c.len.ensures, c.if-number-len.false) in
    rw (found held c.args.variable.solver c.index.result.now s (is ∙ sym c.self.view_is) lt there) (c.read.ensures.did s)
