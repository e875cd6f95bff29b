-- A rule of numbers alone: how many it takes, its value of a list of numbers, and the violation at
-- each place; and what it is as the rule of a node. A rule of this project.
use Rattle.std.specs.Prelude.{◌≡◌, ℕ, ℤ, Bool, ◌&&◌, List, length, Result, Ok, Err}
use Rattle.std.proofs.Common.{refl, ◌∙◌}
use Rattle.cbl_base.specs.Inputs.{number_kind, all_numbers, numbers_of}
use Rattle.cbl_base.specs.NodeLaw.{Rule, GivesOneKind, one_kind_from, kind_if_ok, kind_of-value}
use Rattle.cbl_base.specs.declared.input.Input.{Input}
use Rattle.cbl_base.specs.declared.input.Input.TheVariants.{Int}
use Rattle.cbl_base.specs.declared.faults.RunFault.{RunFault}

pub record NumberRule : Type 0 where
  pub takes : ℕ → Bool
  pub value : List ℤ → Result ℤ RunFault
  pub violation_at : List ℤ → ℕ → ℤ

-- a number, where there is one, as the value of a node
abbrev pub as_value : Result ℤ RunFault → Result Input RunFault
as_value (Ok x) = Ok (Int x)
as_value (Err fault) = Err fault

-- the rule of a node whose inputs are all numbers
abbrev pub rule_of_numbers : NumberRule → Rule
rule_of_numbers rule = record {
  takes = λ kinds. all_numbers kinds && rule.takes (length kinds);
  value = λ inputs. as_value (rule.value (numbers_of inputs));
  violation_at = λ inputs place. rule.violation_at (numbers_of inputs) place;
}

-- all its values are numbers
is_number-as_value : (value : Result ℤ RunFault) → kind_if_ok (as_value value) ≡ number_kind
is_number-as_value (Ok v) = refl
is_number-as_value (Err fault) = refl

pub one_kind_of_numbers : (rule : NumberRule) → GivesOneKind (rule_of_numbers rule)
one_kind_of_numbers rule =
    one_kind_from (rule_of_numbers rule) number_kind (λ xs x e. kind_of-value (as_value (rule.value (numbers_of xs))) x e ∙ is_number-as_value (rule.value (numbers_of xs)))
