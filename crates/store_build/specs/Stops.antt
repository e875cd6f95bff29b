-- The fault by which a store can't be built, or a commit ends it.
use Rattle.std.specs.Prelude.{◌≡◌, ℕ, ◌<◌, ◌≤◌}
use Rattle.cbl_base.specs.declared.input.Input.{Input}
use Rattle.cbl_base.specs.declared.faults.RunFault.{RunFault}
use Rattle.store_turns.specs.declared.outcome.Outcome.{Outcome}
use Rattle.store_turns.specs.declared.outcome.Outcome.TheVariants.{Fails}
use Rattle.store_turns.specs.Meaning.{Graph, IsMeaning}
use Rattle.store_build.specs.declared.parts.StoreFault.{StoreFault}
use Rattle.store_build.specs.declared.parts.StoreFault.TheVariants.{Node, NoMemory}

-- over these free cells the id's own operation fails though all its inputs have values, and it is the
-- least such
pub record FailsFirst (g : Graph) (free : ℕ → Input) (id : ℕ) (fault : RunFault) : Type 0 where
  pub outcome : ℕ → Outcome
  pub meaning : IsMeaning g free outcome
  pub here : (id < g.size) × (outcome id ≡ Fails fault)
  pub least : (j : ℕ) (other : RunFault) → j < g.size → outcome j ≡ Fails other → id ≤ j

abbrev pub IsStop : Graph → (ℕ → Input) → StoreFault → Type 0
IsStop g free (Node node fault) = FailsFirst g free node.0 fault
IsStop g free NoMemory = Unit {0}
