-- The solver is there, or it is open.
use Rattle.std.proofs.Common.{◌≡◌, ◌<◌, length, get_or, sym, ap, ◌∙◌, arith}
use Rattle.comet_meaning.specs.Solvers.{SolverState}
use Rattle.run_solvers.specs.Solutions.{kept_numbers}
use Rattle.run_solvers.proofs.FoundSolvers.{found, kept_there, not_found}
use Rattle.run_solvers.proofs.solvers.Solvers.snapshot.Goals as goal

pub returns-then-number-len-clause-did : goal.returns-then-number-len-clause-did
returns-then-number-len-clause-did g c = λ s is.
    let none = not_found c.self.inside.held.items c.args.number s (is ∙ sym c.self.view_is) (omega (arith, c.len.ensures, c.if-number-len.true)) in
    ap (λ (m : SolverState). kept_numbers c.args.at m s) none

pub snapshot-requires : goal.snapshot-requires
snapshot-requires g c =
    let held = c.self.inside.held.items in
    let there : c.index.result.now ≡ get_or held c.args.number c.index.result.now = c.index.ensures in
    (kept_there held c.args.number c.index.result.now c.self.invariant (omega (arith, c.len.ensures, c.if-number-len.false)) there).1

pub returns-clause-did : goal.returns-clause-did
returns-clause-did g c = λ s is.
    let held = c.self.inside.held.items in
    let there : c.index.result.now ≡ get_or held c.args.number c.index.result.now = c.index.ensures in
    let lt : c.args.number < length held = omega (arith, c.len.ensures, c.if-number-len.false) in
    rw (found held c.args.number c.index.result.now s (is ∙ sym c.self.view_is) lt there) (c.snapshot.ensures.did s)

pub returns-clause-number : goal.returns-clause-number
returns-clause-number g c =
    let held = c.self.inside.held.items in
    let there : c.index.result.now ≡ get_or held c.args.number c.index.result.now = c.index.ensures in
    let lt : c.args.number < length held = omega (arith, c.len.ensures, c.if-number-len.false) in
    rw (kept_there held c.args.number c.index.result.now c.self.invariant lt there).0 at c.snapshot.ensures.number
