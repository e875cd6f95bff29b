-- The share of a variable is the model's, where what is closed may be read.
use Rattle.std.proofs.Common.{◌≡◌, ℕ, ℤ, List, Result, Ok, sym, ap, ◌∙◌}
use Rattle.cbl_base.specs.NumberRule.{NumberRule}
use Rattle.cbl_base.specs.declared.faults.RunFault.{RunFault}
use Rattle.model_values.specs.Asked.{answer_of}
use Rattle.model_values.specs.Delta.{value_of}
use Rattle.model_values.specs.Dependence.{var_depends}
use Rattle.model_values.specs.VarOutcomes.{outcome_of_var}
use Rattle.model_values.specs.declared.failure.Failure.{Failure}
use Rattle.model_values.specs.declared.wholes.Whole.TheVariants.{System}
use Rattle.term_model.specs.declared.model.Model.{Model}
use Rattle.violation_shares.specs.VariableViolations.{answered, variable_violations_of, violation_in_system}

pub shared : (users : ℕ → NumberRule) (M : Model) (a : List ℤ) (s x : ℕ) (v : ℤ) (result : Result ℤ RunFault) → value_of users M a (System s) ≡ Ok v → result ≡ violation_in_system users M (outcome_of_var users M a) (var_depends M x) s →
    variable_violations_of users M a s x ≡ answer_of result
shared users M a s x v result value is =
    ap (λ (r : Result ℤ Failure). answered r (violation_in_system users M (outcome_of_var users M a) (var_depends M x) s)) value ∙ ap answer_of (sym is)
