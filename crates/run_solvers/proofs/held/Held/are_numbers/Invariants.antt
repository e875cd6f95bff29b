use Rattle.std.proofs.Common.{◌≡◌, Some}
use Rattle.cbl_base.specs.Inputs.{number_kind}
use Rattle.term_model.specs.Kinds.{kind_of_term, kinds_in}
use Rattle.run_solvers.proofs.UserLaws.{AllBefore}
use Rattle.run_solvers.proofs.held.Held.are_numbers.Given as goal

-- those so far are numbers
abbrev pub invariant-loop-term : goal.invariant-loop-term
invariant-loop-term g l = AllBefore (λ t. kind_of_term (kinds_in l.self.solver.model.vars.items) t ≡ Some number_kind) l.terms l.term-index
