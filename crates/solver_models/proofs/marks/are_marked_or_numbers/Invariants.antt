use Rattle.std.proofs.Common.{◌≡◌, ℕ, ◌<◌, false, Some}
use Rattle.cbl_base.specs.Inputs.{number_kind}
use Rattle.solver_models.specs.Kept.{mark_at}
use Rattle.term_model.specs.Kinds.{kinds_in}
use Rattle.solver_models.proofs.marks.are_marked_or_numbers.Given as goal

abbrev pub invariant-loop-index : goal.invariant-loop-index
invariant-loop-index l = (i : ℕ) → i < l.index → mark_at l.marks i ≡ false → kinds_in l.vars i ≡ Some number_kind
