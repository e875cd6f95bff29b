-- The value of a rule of numbers is that of the numbers of its inputs.
use Rattle.std.proofs.Common.{◌≡◌, ℤ, List, Result, ap, ◌∙◌}
use Rattle.cbl_base.specs.Inputs.{numbers_of}
use Rattle.cbl_base.specs.NumberRule.{as_value}
use Rattle.cbl_base.specs.declared.input.Input.{Input}
use Rattle.cbl_base.specs.declared.faults.RunFault.{RunFault}

pub of_value : (f : List ℤ → Result ℤ RunFault) (inputs : List Input) (xs : List ℤ) (number : Result ℤ RunFault) (value : Result Input RunFault) →
    value ≡ as_value number → number ≡ f xs → xs ≡ numbers_of inputs → value ≡ as_value (f (numbers_of inputs))
of_value f inputs xs number value e h i = e ∙ ap as_value (h ∙ ap f i)
