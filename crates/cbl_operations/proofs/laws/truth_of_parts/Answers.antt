use Rattle.std.proofs.Common.{◌≡◌, pos}
use Rattle.std.specs.List.{list_all, list_any}
use Rattle.cbl_operations.specs.Truth.{truth, is_true}
use Rattle.cbl_operations.proofs.TruthLaws.{one_is_true, truth_of, all_true, some_true}
use Rattle.cbl_operations.proofs.laws.truth_of_parts.Goals as goal

pub returns-clause-all : goal.returns-clause-all
returns-clause-all c = λ xs. (
  λ e. let one : truth (list_all is_true xs) ≡ pos 1 = cc in (all_true xs).0 (one_is_true (list_all is_true xs) one),
  λ all. let one : truth (list_all is_true xs) ≡ pos 1 = truth_of (list_all is_true xs) ((all_true xs).1 all) in cc,
)

pub returns-clause-some : goal.returns-clause-some
returns-clause-some c = λ xs. (
  λ e. let one : truth (list_any is_true xs) ≡ pos 1 = cc in (some_true xs).0 (one_is_true (list_any is_true xs) one),
  λ some. let one : truth (list_any is_true xs) ≡ pos 1 = truth_of (list_any is_true xs) ((some_true xs).1 some) in cc,
)
