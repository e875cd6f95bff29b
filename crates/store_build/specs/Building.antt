-- What was built so far.
use Rattle.std.specs.Prelude.{◌≡◌, ℕ, ◌-◌, ◌<◌, ◌≤◌, List, [], ◌∷◌, ◌++◌, length, map, slice_get, slice_set, slice_index_or, Option, Some, None, ℤ}
use Rattle.cbl_base.specs.NodeLaw.{Rule}
use Rattle.cbl_base.specs.declared.faults.RunFault.{RunFault}
use Rattle.cbl_base.specs.declared.input.Input.{Input}
use Rattle.cbl_base.specs.declared.input.Input.TheVariants.{Int}
use Rattle.store_turns.specs.declared.frame.Frame.{Frame}
use Rattle.store_turns.specs.declared.outcome.Outcome.{Outcome}
use Rattle.store_turns.specs.declared.outcome.Outcome.TheVariants.{Value, Fails, Missing}
use Rattle.store_turns.specs.Meaning.{inputs_in, values_of, come_to, the_one}
use Rattle.store_build.specs.declared.jobs.Jobs.{Jobs}
use Rattle.store_build.specs.declared.building.Building.{Building}
use Rattle.store_build.specs.Aims.{Aim}

-- ---- outcomes by id, of which there is none where an id didn't come to one yet
abbrev pub or_missing : Option Outcome → Outcome
or_missing (Some o) = o
or_missing None = Missing

abbrev pub outcome_in : List (Option Outcome) → ℕ → Outcome
outcome_in os id = or_missing (slice_index_or os id None)

-- the values of these ids, where all have values
abbrev pub values_in : List (Option Outcome) → List ℕ → Option (List Input)
values_in os ids = values_of (map (outcome_in os) ids)

abbrev pub value_in : Option Outcome → Option Input
value_in (Some (Value x)) = Some x
value_in (Some (Fails f)) = None
value_in (Some Missing) = None
value_in None = None

-- what a cell comes to: a free one to its number, another to the value of the one id in its list
abbrev pub cell_outcome : ℤ → List ℕ → Option (List Input) → Outcome
cell_outcome number [] xs = Value (Int number)
cell_outcome number (i ∷ is) xs = come_to the_one xs

-- a copy of what another came to
abbrev pub copied : Option Input → Outcome
copied (Some x) = Value x
copied None = Missing

-- an id has come to its outcome
abbrev pub HasCome : (ℕ → Outcome) → List (Option Outcome) → ℕ → Type 0
HasCome o os id = slice_index_or os id None ≡ Some (o id)

-- ---- what is to be reset
-- the values of the inputs of an id behind the cells, whose rule this is
pub record IsTask (aim : Aim) (frame : Frame) (id : ℕ) (rule : Rule) (values : List Input) : Type 0 where
  pub behind : frame.first ≤ id
  pub within : id < length frame.inputs.items
  pub ruled : slice_get aim.rules (id - frame.first) ≡ Some rule
  pub valued : values_of (map aim.outcome (inputs_in frame id)) ≡ Some values

abbrev pub AreTasks : Aim → Frame → List ℕ → List Rule → List (List Input) → Type 0
AreTasks aim frame [] rs vs = (rs ≡ []) × (vs ≡ [])
AreTasks aim frame (id ∷ ids) [] vs = ⊥
AreTasks aim frame (id ∷ ids) (r ∷ rs) [] = ⊥
AreTasks aim frame (id ∷ ids) (r ∷ rs) (v ∷ vs) = IsTask aim frame id r v × AreTasks aim frame ids rs vs

-- an id has come to its outcome, and no node of it has to be reset
abbrev pub IsSettled : Aim → Frame → List (Option Outcome) → ℕ → Type 0
IsSettled aim frame os id = HasCome aim.outcome os id × (frame.first ≤ id → values_of (map aim.outcome (inputs_in frame id)) ≡ None)

module _ {N : Type 0} where
  abbrev pub job_rules : (N → Rule) → Jobs N → List Rule
  job_rules rule jobs = map (λ j. rule j.0) jobs.jobs.items

  abbrev pub job_values : Jobs N → List (List Input)
  job_values jobs = map (λ j. j.1.items) jobs.jobs.items

  -- a node whose inputs came to these values is to be reset to them; where they have none it has no value
  abbrev pub NodeTaken : (N → Rule) → Option (List Input) → ℕ → N → List (Option Outcome) → List (Option Outcome) → Jobs N → Jobs N → Type 0
  NodeTaken rule None id node old new jobs after = (new ≡ slice_set old id (Some Missing)) × (after ≡ jobs)
  NodeTaken rule (Some xs) id node old new jobs after = (new ≡ old) × (after.ids.items ≡ jobs.ids.items ++ id ∷ []) × (job_rules rule after ≡ job_rules rule jobs ++ rule node ∷ []) × (job_values after ≡ job_values jobs ++ xs ∷ [])

  -- the same of an item, which is a cell where it has no node
  abbrev pub ItemTaken : (N → Rule) → List ℕ → ℤ → ℕ → Option N → List (Option Outcome) → List (Option Outcome) → Jobs N → Jobs N → Type 0
  ItemTaken rule inputs number id None old new jobs after = (new ≡ slice_set old id (Some (cell_outcome number inputs (values_in old inputs)))) × (after ≡ jobs)
  ItemTaken rule inputs number id (Some node) old new jobs after = NodeTaken rule (values_in old inputs) id node old new jobs after

  -- ---- nodes in their places
  -- the node of an id is in its place, reset to its inputs' values, if all have values
  abbrev pub HasNode : (N → Rule) → (N → List Input) → (N → Type 0) → Aim → Frame → List (Option N) → ℕ → Type 0
  HasNode rule held ready aim frame nodes id = (xs : List Input) → values_of (map aim.outcome (inputs_in frame id)) ≡ Some xs
      → (n : N) × (slice_get nodes (id - frame.first) ≡ Some (Some n)) × (slice_get aim.rules (id - frame.first) ≡ Some (rule n)) × ready n × (held n ≡ xs)

  -- an id is done with
  abbrev pub IsFinished : (N → Rule) → (N → List Input) → (N → Type 0) → Aim → Frame → Building N → ℕ → Type 0
  IsFinished rule held ready aim frame b id = HasCome aim.outcome b.outcomes.items id × (frame.first ≤ id → HasNode rule held ready aim frame b.nodes.items id)

  -- there is a place for each
  pub record HasPlaces (aim : Aim) (frame : Frame) (b : Building N) : Type 0 where
    pub outcomes : length b.outcomes.items ≡ length frame.inputs.items
    pub nodes : length b.nodes.items ≡ length aim.rules

-- ---- all that is there
abbrev pub option_list : {A : Type 0} → Option A → List A
option_list None = []
option_list (Some x) = x ∷ []

abbrev pub values_there : List (Option Outcome) → List Input
values_there [] = []
values_there (o ∷ os) = option_list (value_in o) ++ values_there os

abbrev pub all_there : {N : Type 0} → List (Option N) → List N
all_there [] = []
all_there (n ∷ ns) = option_list n ++ all_there ns

-- the id fails, and no lesser one does
pub record IsFirst (os : List (Option Outcome)) (id : ℕ) (fault : RunFault) : Type 0 where
  pub here : slice_index_or os id None ≡ Some (Fails fault)
  pub within : id < length os
  pub least : (k : ℕ) (other : RunFault) → slice_index_or os k None ≡ Some (Fails other) → id ≤ k

abbrev pub NoneFails : List (Option Outcome) → Type 0
NoneFails os = (k : ℕ) (fault : RunFault) → slice_index_or os k None ≡ Some (Fails fault) → ⊥
