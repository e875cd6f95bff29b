-- The solver is there, or it isn't closed.
use Rattle.std.proofs.Common.{◌≡◌, ◌<◌, length, get_or, sym, ◌∙◌, arith}
use Rattle.ls_solver.specs.Totals.{whole_of}
use Rattle.run_solvers.proofs.TotalActs.{value_asked, value_nowhere}
use Rattle.run_solvers.proofs.FoundSolvers.{found, kept_there, not_found}
use Rattle.run_solvers.proofs.solvers.Solvers.total_value.Goals as goal

pub returns-then-number-len-clause-did : goal.returns-then-number-len-clause-did
returns-then-number-len-clause-did g c = λ s is.
    let none = not_found c.self.inside.held.items c.args.total.solver s (is ∙ sym c.self.view_is) (omega (arith, c.len.ensures, c.if-number-len.true)) in
    value_nowhere c.args.at c.args.total.solver (whole_of c.args.total) s none

pub total_value-requires-clause-kept : goal.total_value-requires-clause-kept
total_value-requires-clause-kept g c =
    let held = c.self.inside.held.items in
    let there : c.index.result.now ≡ get_or held c.args.total.solver c.index.result.now = c.index.ensures in
    (kept_there held c.args.total.solver c.index.result.now c.self.invariant (omega (arith, c.len.ensures, c.if-number-len.false)) there).1

pub total_value-requires-clause-own : goal.total_value-requires-clause-own
total_value-requires-clause-own g c =
    let held = c.self.inside.held.items in
    let there : c.index.result.now ≡ get_or held c.args.total.solver c.index.result.now = c.index.ensures in
    sym (kept_there held c.args.total.solver c.index.result.now c.self.invariant (omega (arith, c.len.ensures, c.if-number-len.false)) there).0

pub returns-clause-did : goal.returns-clause-did
returns-clause-did g c = λ s is.
    let held = c.self.inside.held.items in
    let there : c.index.result.now ≡ get_or held c.args.total.solver c.index.result.now = c.index.ensures in
    let lt : c.args.total.solver < length c.self.inside.held.items = omega (arith, c.len.ensures, c.if-number-len.false) in
    rw (value_asked c.args.at c.args.total.solver (whole_of c.args.total) s, found held c.args.total.solver c.index.result.now s (is ∙ sym c.self.view_is) lt there) (c.total_value.ensures.did s)
