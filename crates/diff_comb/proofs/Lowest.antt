-- The violations of one of some constraints are the least of theirs.
use Rattle.std.proofs.Common.{◌≡◌, ℤ, List, [], ◌∷◌, Result, Ok, refl, ap, sym, subst}
use Rattle.cbl_base.specs.declared.faults.NodeFault.{NodeFault}
use Rattle.cbl_base.specs.declared.faults.RunFault.{RunFault}
use Rattle.cbl_operations.proofs.LeastLemmas.{fold_min}
use Rattle.cbl_violations.specs.Violations.AnyOf.{any_of_violations}
use Rattle.node_base.specs.NumberChanges.{IsNumberAnswer}
use Rattle.node_order.specs.Lowering.{lowest}

pub any_is_lowest : (xs : List ℤ) → lowest.value xs ≡ any_of_violations xs
unfolding any_of_violations
any_is_lowest [] = refl
any_is_lowest (x ∷ xs) = ap ok (sym (fold_min x xs))
  where
    ok : ℤ → Result ℤ RunFault
    ok v = Ok v

pub any_answer : (xs : List ℤ) (r : Result ℤ NodeFault) → IsNumberAnswer (lowest.value xs) r → IsNumberAnswer (any_of_violations xs) r
any_answer xs r h = subst (λ v. IsNumberAnswer v r) (any_is_lowest xs) h
