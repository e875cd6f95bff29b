-- What a trial tells of a target: the difference of two fresh evaluations, or the fault that it meets.
use Rattle.std.specs.Prelude.{◌≡◌, ◌⊎◌, ℕ, ℤ, ◌-ℤ◌, ◌≤◌, Ok, Err}
use Rattle.cbl_base.specs.Arithmetic.{exact}
use Rattle.cbl_base.specs.declared.input.Input.{Input}
use Rattle.cbl_base.specs.declared.input.Input.TheVariants.{Int}
use Rattle.cbl_base.specs.declared.faults.RunFault.{RunFault}
use Rattle.cbl_base.specs.declared.ids.NodeId.{NodeId}
use Rattle.store_turns.specs.declared.outcome.Outcome.{Outcome}
use Rattle.store_turns.specs.declared.outcome.Outcome.TheVariants.{Value, Fails}
use Rattle.store_turns.specs.Meaning.{Graph, IsMeaning}
use Rattle.store_turns.specs.Cones.{StandsOn}
use Rattle.trial.specs.declared.fault.DifferenceFault.{DifferenceFault}
use Rattle.trial.specs.declared.fault.DifferenceFault.TheVariants as stops
use Rattle.trial.specs.declared.fault.TrialFault.{TrialFault}
use Rattle.trial.specs.declared.fault.TrialFault.TheVariants.{Node, NoMemory}

-- of what the target stands on, the id is the least whose own operation fails
pub record FailsBelow (g : Graph) (o : ℕ → Outcome) (target id : ℕ) (fault : RunFault) : Type 0 where
  pub stands : StandsOn g.inputs target id
  pub here : o id ≡ Fails fault
  pub least : (j : ℕ) (other : RunFault) → StandsOn g.inputs target j → o j ≡ Fails other → id ≤ j

-- what ids come to where the free cells hold these values now and those after, and the target's two numbers
pub record AreNumbers (g : Graph) (now after : ℕ → Input) (target : ℕ) (x y : ℤ) : Type 0 where
  pub outcome : ℕ → Outcome
  pub outcome_after : ℕ → Outcome
  pub meaning : IsMeaning g now outcome
  pub meaning_after : IsMeaning g after outcome_after
  pub had : outcome target ≡ Value (Int x)
  pub has : outcome_after target ≡ Value (Int y)

-- the target's number after less its number now
abbrev pub IsDifference : Graph → (ℕ → Input) → (ℕ → Input) → ℕ → ℤ → Type 0
IsDifference g now after target d = (x : ℤ) × (y : ℤ) × AreNumbers g now after target x y × (exact (y -ℤ x) ≡ Ok d)

-- the least failing id on which the target stands after the moves; or the target, where that difference
-- doesn't fit
abbrev pub FailsAfter : Graph → (ℕ → Input) → ℕ → ℕ → RunFault → Type 0
FailsAfter g after target id fault = (o : ℕ → Outcome) × IsMeaning g after o × FailsBelow g o target id fault

abbrev pub Exceeds : Graph → (ℕ → Input) → (ℕ → Input) → ℕ → ℕ → RunFault → Type 0
Exceeds g now after target id fault = (id ≡ target) × (x : ℤ) × (y : ℤ) × AreNumbers g now after target x y × (exact (y -ℤ x) ≡ Err fault)

abbrev pub IsRefusal : Graph → (ℕ → Input) → (ℕ → Input) → ℕ → TrialFault → Type 0
IsRefusal g now after target (Node node fault) = FailsAfter g after target node.0 fault ⊎ Exceeds g now after target node.0 fault
IsRefusal g now after target NoMemory = Unit {0}

-- the same with that of the difference told apart
abbrev pub Overflows : Graph → (ℕ → Input) → (ℕ → Input) → ℕ → RunFault → Type 0
Overflows g now after target fault = (x : ℤ) × (y : ℤ) × AreNumbers g now after target x y × (exact (y -ℤ x) ≡ Err fault)

abbrev pub IsStopped : Graph → (ℕ → Input) → (ℕ → Input) → ℕ → DifferenceFault → Type 0
IsStopped g now after target (stops.Node node fault) = FailsAfter g after target node.0 fault
IsStopped g now after target (stops.Difference fault) = Overflows g now after target fault
IsStopped g now after target stops.NoMemory = Unit {0}

-- and told together
abbrev pub fault_at : NodeId → DifferenceFault → TrialFault
fault_at target (stops.Node node fault) = Node node fault
fault_at target (stops.Difference fault) = Node target fault
fault_at target stops.NoMemory = NoMemory
