-- What a term comes to: its value, or none where an argument has none or its own operation fails. A constant is
-- itself, a variable has its own value, and a node has its operation's value of its arguments' values. A rule of
-- this project.
use Rattle.std.specs.declared.alloc.Global.{Global}
use Rattle.std.specs.Prelude.{◌≡◌, ℕ, List, [], ◌∷◌, ◌++◌, fold, Option, Some, None, Vec, Result, Ok, Err, slice_get}
use Rattle.std.specs.Option.{option_map}
use Rattle.cbl_base.specs.Inputs.{InputKind, kind_of, kinds_of}
use Rattle.cbl_base.specs.NumberRule.{NumberRule}
use Rattle.cbl_base.specs.declared.faults.RunFault.{RunFault}
use Rattle.cbl_base.specs.declared.input.Input.{Input}
use Rattle.cbl_base.specs.declared.input.Input.TheVariants.{Int, Set}
use Rattle.operation_values.specs.OfCblOperations.RuleOf.{rule_of}
use Rattle.operation_values.specs.OfCblOperations.declared.op.Op.{Op}
use Rattle.term_model.specs.declared.term.Term.{Term}
use Rattle.term_model.specs.declared.term.Term.TheOpen.{Term-F}
use Rattle.term_model.specs.declared.term.Term.TheFolds.{fold-Term}

abbrev pub Outcome : Type 0
Outcome = Option Input

-- the values so far and one more, where all have one
abbrev pub gather : Option (List Input) → Outcome → Option (List Input)
gather (Some xs) (Some x) = Some (xs ++ x ∷ [])
gather (Some xs) None = None
gather None outcome = None

abbrev pub gathered : List Outcome → Option (List Input)
gathered outcomes = fold gather (Some []) outcomes

-- the same of values in a `Vec`
abbrev pub listed : Option (Vec Input Global) → Option (List Input)
listed values = option_map (λ v. v.items) values

-- the value of an operation of these values
abbrev pub value_in : Result Input RunFault → Outcome
value_in (Ok x) = Some x
value_in (Err fault) = None

abbrev pub operated : (ℕ → NumberRule) → Op → Option (List Input) → Outcome
operated users op (Some xs) = value_in ((rule_of users op).value xs)
operated users op None = None

-- one layer of a term, with what each argument comes to in its place
abbrev pub outcome_step : (ℕ → NumberRule) → (ℕ → Outcome) → Term-F Outcome → Outcome
outcome_step users env (Term-F.Const x) = Some (Int x)
outcome_step users env (Term-F.ConstSet s) = Some (Set s)
outcome_step users env (Term-F.Var v) = env v.index
outcome_step users env (Term-F.Node op args place) = operated users op (gathered args.items)

-- what a term comes to, where the variables come to these
abbrev pub outcome_of : (ℕ → NumberRule) → (ℕ → Outcome) → Term → Outcome
outcome_of users env = fold-Term Outcome (outcome_step users env)

abbrev pub known : Option (Option Outcome) → Outcome
known (Some (Some outcome)) = outcome
known (Some None) = None
known None = None

-- what variables come to, from a list of those that are known
abbrev pub env_of : List (Option Outcome) → ℕ → Outcome
env_of cells i = known (slice_get cells i)

-- the kinds of the variables are those of their values
abbrev pub HasKinds : (ℕ → Option InputKind) → (ℕ → Outcome) → Type 0
HasKinds kinds env = (i : ℕ) (x : Input) → env i ≡ Some x → kinds i ≡ Some (kind_of x)

-- these are the kinds of the values, where all have one
abbrev pub AreKinds : Option (List Input) → Option (List InputKind) → Type 0
AreKinds (Some xs) kinds = kinds ≡ Some (kinds_of xs)
AreKinds None kinds = Unit {0}
