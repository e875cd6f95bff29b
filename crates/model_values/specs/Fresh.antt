-- What a model comes to under an assignment: the values of all variables, systems and objectives; or a fault
-- with its place. That is the fault of the least numbered subterm whose arguments all have values and whose own
-- operation fails; where none does, that of the first total that doesn't fit, of the systems and then of the
-- objectives, in order of declaration. A rule of this project.
use Rattle.std.specs.declared.alloc.Global.{Global}
use Rattle.std.specs.Prelude.{◌≡◌, ℕ, ℤ, List, [], ◌∷◌, ◌++◌, fold, map, length, Option, Some, None, Result, Ok, Err, Vec, unwrap_or}
use Rattle.std.specs.Option.{option_map}
use Rattle.std.specs.List.{enumerate_from, range_with_len}
use Rattle.cbl_base.specs.NumberRule.{NumberRule}
use Rattle.cbl_base.specs.declared.input.Input.{Input}
use Rattle.model_values.specs.Failures.{first_failure, no_failure}
use Rattle.model_values.specs.Outcomes.{Outcome, gathered}
use Rattle.model_values.specs.VarOutcomes.{outcome_of_var}
use Rattle.model_values.specs.Wholes.{sum_in}
use Rattle.model_values.specs.declared.failure.Failure.{Failure}
use Rattle.model_values.specs.declared.values.ModelStop.{ModelStop}
use Rattle.model_values.specs.declared.values.ModelStop.TheVariants.{Fault, NoMemory}
use Rattle.model_values.specs.declared.values.Values.{Values}
use Rattle.model_values.specs.declared.wholes.Whole.{Whole}
use Rattle.model_values.specs.declared.wholes.Whole.TheVariants.{System, Objective}
use Rattle.term_model.specs.Posting.{totals_by}
use Rattle.term_model.specs.Subterms.{distinct_subterms}
use Rattle.term_model.specs.declared.model.Model.{Model}
use Rattle.term_model.specs.declared.model.Total.{Total}
use Rattle.term_model.specs.declared.posting.Side.{Side}
use Rattle.term_model.specs.declared.posting.Side.TheVariants.{Systems, Objectives}

-- the values of all variables, where all have one
abbrev pub fresh_vars : (ℕ → NumberRule) → Model → (ℕ → Outcome) → Option (List Input)
fresh_vars users M env = gathered (map env (range_with_len 0 (length M.vars.items)))

-- the totals so far and one more, or the first that doesn't fit; none where a member has no value
abbrev pub Sums : Type 0
Sums = Option (Result (List ℤ) Failure)

abbrev pub first_of : Result (List ℤ) Failure → Result ℤ Failure → Result (List ℤ) Failure
first_of (Ok xs) (Ok x) = Ok (xs ++ x ∷ [])
first_of (Ok xs) (Err f) = Err f
first_of (Err f) sum = Err f

abbrev pub gather_sum : Sums → Option (Result ℤ Failure) → Sums
gather_sum (Some sums) (Some sum) = Some (first_of sums sum)
gather_sum (Some sums) None = None
gather_sum None sum = None

abbrev pub whole_by : Side → ℕ → Whole
whole_by Systems k = System k
whole_by Objectives k = Objective k

abbrev pub add_sum : (ℕ → NumberRule) → Model → (ℕ → Outcome) → Side → Sums → ℕ × Total → Sums
add_sum users M env side so_far total = gather_sum so_far (sum_in users M env (whole_by side total.0) total.1.place)

-- those of all systems or of all objectives
abbrev pub sums_in : (ℕ → NumberRule) → Model → (ℕ → Outcome) → Side → List (ℕ × Total) → Sums
sums_in users M env side totals = fold (add_sum users M env side) (Some (Ok [])) totals

abbrev pub fresh_sums : (ℕ → NumberRule) → Model → (ℕ → Outcome) → Side → Sums
fresh_sums users M env side = sums_in users M env side (enumerate_from 0 (totals_by M side))

-- ---- all together
pub record Fresh : Type 0 where
  pub vars : List Input
  pub systems : List ℤ
  pub objectives : List ℤ

abbrev pub totals_joined : List Input → Result (List ℤ) Failure → Result (List ℤ) Failure → Result Fresh Failure
totals_joined vars (Ok systems) (Ok objectives) = Ok (record { vars = vars; systems = systems; objectives = objectives })
totals_joined vars (Ok systems) (Err f) = Err f
totals_joined vars (Err f) objectives = Err f

abbrev pub all_joined : Option (List Input) → Sums → Sums → Option (Result Fresh Failure)
all_joined (Some vars) (Some systems) (Some objectives) = Some (totals_joined vars systems objectives)
all_joined (Some vars) (Some systems) None = None
all_joined (Some vars) None objectives = None
all_joined None systems objectives = None

abbrev pub joined_or : Option (Result Fresh Failure) → Option Failure → Result Fresh Failure
joined_or (Some all) below = all
joined_or None below = Err (unwrap_or below no_failure)

abbrev pub fresh_in : (ℕ → NumberRule) → Model → (ℕ → Outcome) → Result Fresh Failure
fresh_in users M env =
    joined_or (all_joined (fresh_vars users M env) (fresh_sums users M env Systems) (fresh_sums users M env Objectives)) (first_failure users env (distinct_subterms M))

-- what a model comes to under an assignment
abbrev pub fresh_of : (ℕ → NumberRule) → Model → List ℤ → Result Fresh Failure
fresh_of users M a = fresh_in users M (outcome_of_var users M a)

-- the answer has these values or is this fault, or there was no memory
abbrev pub seen_values : Values → Fresh
seen_values values = record { vars = values.vars.items; systems = values.systems.items; objectives = values.objectives.items }

abbrev pub IsFresh : Result Fresh Failure → Result Values ModelStop → Type 0
IsFresh fresh (Ok values) = fresh ≡ Ok (seen_values values)
IsFresh fresh (Err (Fault place fault)) = fresh ≡ Err (record { place = place; fault = fault })
IsFresh fresh (Err NoMemory) = Unit {0}

-- the same of what was found
abbrev pub seen_fresh : Result Values Failure → Result Fresh Failure
seen_fresh (Ok values) = Ok (seen_values values)
seen_fresh (Err f) = Err f

abbrev pub seen_all : Option (Result Values Failure) → Option (Result Fresh Failure)
seen_all fresh = option_map seen_fresh fresh

-- the same of sums in a `Vec`
abbrev pub listed_sums : Option (Result (Vec ℤ Global) Failure) → Sums
listed_sums (Some (Ok sums)) = Some (Ok sums.items)
listed_sums (Some (Err f)) = Some (Err f)
listed_sums None = None
