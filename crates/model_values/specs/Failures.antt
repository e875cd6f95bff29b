-- Which subterm fails: one whose arguments all have values and whose own operation fails. Of several that one
-- counts that has the least number, with its place. A rule of this project.
use Rattle.std.specs.Prelude.{ℕ, Bool, List, map, Option, Some, None, is_some, Result, Ok, Err}
use Rattle.std.specs.Option.{option_and_then}
use Rattle.std.specs.List.{find}
use Rattle.cbl_base.specs.NumberRule.{NumberRule}
use Rattle.cbl_base.specs.declared.faults.RunFault.{RunFault}
use Rattle.cbl_base.specs.declared.faults.RunFault.TheVariants.{NotClosed}
use Rattle.cbl_base.specs.declared.input.Input.{Input}
use Rattle.cbl_base.specs.declared.place.Place.{Place}
use Rattle.operation_values.specs.OfCblOperations.RuleOf.{rule_of}
use Rattle.operation_values.specs.OfCblOperations.declared.op.Op.{Op}
use Rattle.model_values.specs.Outcomes.{Outcome, gathered, outcome_of}
use Rattle.model_values.specs.declared.failure.Failure.{Failure}
use Rattle.term_model.specs.declared.term.Term.{Term}
use Rattle.term_model.specs.declared.term.Term.TheOpen.{Term-F}
use Rattle.term_model.specs.declared.term.Term.TheViews.{out-Term}

-- the failure of an operation at this place
abbrev pub failure_in : Place → Result Input RunFault → Option Failure
failure_in place (Ok x) = None
failure_in place (Err fault) = Some (record { place = place; fault = fault })

abbrev pub failure_by : (ℕ → NumberRule) → Op → Place → Option (List Input) → Option Failure
failure_by users op place (Some xs) = failure_in place ((rule_of users op).value xs)
failure_by users op place None = None

abbrev pub failure_at : (ℕ → NumberRule) → (ℕ → Outcome) → Term-F Term → Option Failure
failure_at users env (Term-F.Const x) = None
failure_at users env (Term-F.ConstSet s) = None
failure_at users env (Term-F.Var v) = None
failure_at users env (Term-F.Node op args place) = failure_by users op place (gathered (map (outcome_of users env) args.items))

-- the failure of a subterm, where it fails
abbrev pub failure_of : (ℕ → NumberRule) → (ℕ → Outcome) → Term → Option Failure
failure_of users env t = failure_at users env (out-Term t)

abbrev pub fails : (ℕ → NumberRule) → (ℕ → Outcome) → Term → Bool
fails users env t = is_some (failure_of users env t)

-- that of the first one that fails
abbrev pub first_failure : (ℕ → NumberRule) → (ℕ → Outcome) → List Term → Option Failure
first_failure users env ts = option_and_then (failure_of users env) (find (fails users env) ts)

-- where no subterm fails all have values, so this stands for no failure at all
abbrev pub no_failure : Failure
no_failure = record { place = record { line = 0; col = 0 }; fault = NotClosed }
