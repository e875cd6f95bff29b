-- The terms are looked at one after the other.
use Rattle.std.proofs.Common.{◌≡◌, Some, sym, ◌∙◌}
use Rattle.cbl_base.specs.Inputs.{number_kind}
use Rattle.term_model.specs.Kinds.{kind_of_term, kinds_in}
use Rattle.run_solvers.specs.Views.{waits}
use Rattle.run_solvers.proofs.PostLaws.{number_is}
use Rattle.run_solvers.proofs.UserLaws.{one_before}
use Rattle.run_solvers.proofs.held.Held.are_numbers.Goals as goal

pub loop-term-preserved : goal.loop-term-preserved
loop-term-preserved g c =
    let h = c.args.self.now in
    one_before (λ t. kind_of_term (kinds_in h.solver.model.vars.items) t ≡ Some number_kind) c.args.terms.now c.loop-term.term-index c.term-item.result c.term-item.is
    (number_is h.solver h.names (waits h) c.term-item.result (sym c.in_ok-is_number.ensures ∙ c.if-not-branch.false)) c.loop-term.invariant
