use Rattle.std.proofs.Common.{◌≡◌, Some, []}
use Rattle.std.specs.List.{All}
use Rattle.cbl_base.specs.Inputs.{number_kind}
use Rattle.term_model.specs.Kinds.{kind_of_term, kinds_in}
use Rattle.term_model.specs.Naming.{users_of}
use Rattle.solver_tests.proofs.users.places_of.Given as goal

abbrev pub invariant-loop-sum : goal.invariant-loop-sum
invariant-loop-sum g l = record {
  kinds : All (λ t. kind_of_term (kinds_in l.solver.model.vars.items) t ≡ Some number_kind) l.places.items;
  users : All (λ t. users_of t ≡ []) l.places.items;
}
