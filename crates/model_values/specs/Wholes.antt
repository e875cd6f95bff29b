-- What a system or an objective comes to: where its members have values, the total of these, each times its
-- weight, in order of posting; else the failure of the least numbered subterm on which it stands. A total that
-- doesn't fit fails where the system or objective was declared. A rule of this project.
use Rattle.std.specs.declared.alloc.Global.{Global}
use Rattle.std.specs.Prelude.{◌≡◌, Vec, ℕ, ℤ, List, [], ◌∷◌, ◌++◌, fold, length, Option, Some, None, Result, Ok, Err, slice_get, unwrap_or, ◌<◌}
use Rattle.std.specs.Option.{option_map}
use Rattle.cbl_base.specs.NumberRule.{NumberRule}
use Rattle.cbl_base.specs.Inputs.{number_of}
use Rattle.cbl_base.specs.declared.faults.RunFault.{RunFault}
use Rattle.cbl_base.specs.declared.place.Place.{Place}
use Rattle.operation_values.specs.OfCblViolations.Violations.WeightedTotal.{weighted_total_value}
use Rattle.model_values.specs.Failures.{no_failure}
use Rattle.model_values.specs.Outcomes.{Outcome, outcome_of}
use Rattle.model_values.specs.Support.{failure_below, member_in}
use Rattle.model_values.specs.declared.failure.Failure.{Failure}
use Rattle.model_values.specs.declared.wholes.PartsHeld.{PartsHeld}
use Rattle.model_values.specs.declared.wholes.Whole.{Whole}
use Rattle.model_values.specs.declared.wholes.Whole.TheVariants.{System, Objective}
use Rattle.term_model.specs.declared.model.Member.{Member}
use Rattle.term_model.specs.declared.model.Model.{Model}
use Rattle.term_model.specs.declared.model.Posted.{Posted}
use Rattle.term_model.specs.declared.model.Total.{Total}

-- the numbers so far and one more, where all have one
abbrev pub gather_number : Option (List ℤ) → Outcome → Option (List ℤ)
gather_number (Some xs) (Some x) = Some (xs ++ number_of x ∷ [])
gather_number (Some xs) None = None
gather_number None outcome = None

-- the members' numbers and weights
pub record Parts : Type 0 where
  pub numbers : Option (List ℤ)
  pub weights : List ℤ

abbrev pub with_part : (ℕ → NumberRule) → (ℕ → Outcome) → Parts → Option Member → Parts
with_part users env parts (Some member) = record {
  numbers = gather_number parts.numbers (outcome_of users env member.term);
  weights = parts.weights ++ member.weight ∷ [];
}
with_part users env parts None = parts

abbrev pub add_posted : (ℕ → NumberRule) → (ℕ → Outcome) → Model → Whole → Parts → Posted → Parts
add_posted users env M whole parts posted = with_part users env parts (member_in M whole posted)

abbrev pub no_parts : Parts
no_parts = record { numbers = Some []; weights = [] }

abbrev pub parts_in : (ℕ → NumberRule) → (ℕ → Outcome) → Model → Whole → List Posted → Parts
parts_in users env M whole posted = fold (add_posted users env M whole) no_parts posted

-- where a system or objective was declared, and line 0 of one that the model doesn't have
abbrev pub place_in : List Total → ℕ → Place
place_in totals k = unwrap_or (option_map (λ total. total.place) (slice_get totals k)) (record { line = 0; col = 0 })

abbrev pub place_of : Model → Whole → Place
place_of M (System s) = place_in M.systems.items s
place_of M (Objective o) = place_in M.objectives.items o

-- the model has this system or objective
abbrev pub IsOf : Model → Whole → Type 0
IsOf M (System s) = s < length M.systems.items
IsOf M (Objective o) = o < length M.objectives.items

-- a total, or its failure where it was declared
abbrev pub total_at : Place → Result ℤ RunFault → Result ℤ Failure
total_at place (Ok z) = Ok z
total_at place (Err fault) = Err (record { place = place; fault = fault })

abbrev pub sum_of : Place → Option (List ℤ) → List ℤ → Option (Result ℤ Failure)
sum_of place (Some numbers) weights = Some (total_at place (weighted_total_value (length weights) (numbers ++ weights)))
sum_of place None weights = None

-- that of the members of a system or objective that was declared at this place, where all have values
abbrev pub sum_in : (ℕ → NumberRule) → Model → (ℕ → Outcome) → Whole → Place → Option (Result ℤ Failure)
sum_in users M env whole place = let parts = parts_in users env M whole M.posted.items in sum_of place parts.numbers parts.weights

abbrev pub sum_or : Option (Result ℤ Failure) → Option Failure → Result ℤ Failure
sum_or (Some sum) below = sum
sum_or None below = Err (unwrap_or below no_failure)

-- what a system or objective comes to that was declared at this place
abbrev pub outcome_of_whole : (ℕ → NumberRule) → Model → (ℕ → Outcome) → Whole → Place → Result ℤ Failure
outcome_of_whole users M env whole place = sum_or (sum_in users M env whole place) (failure_below users M env whole)

-- each number has a weight
abbrev pub HasWeights : Option (List ℤ) → List ℤ → Type 0
HasWeights (Some numbers) weights = length numbers ≡ length weights
HasWeights None weights = Unit {0}

-- the same of numbers in a `Vec`
abbrev pub listed_numbers : Option (Vec ℤ Global) → Option (List ℤ)
listed_numbers numbers = option_map (λ v. v.items) numbers

abbrev pub seen : PartsHeld → Parts
seen parts = record { numbers = listed_numbers parts.numbers; weights = parts.weights.items }
