use Rattle.std.proofs.Common.{◌≡◌, ℕ, ◌<◌, None, Some, get_or}
use Rattle.cbl_base.specs.declared.faults.RunFault.{RunFault}
use Rattle.store_turns.specs.declared.outcome.Outcome.TheVariants.{Fails}
use Rattle.store_build.proofs.whole.first_fault.Given as goal

abbrev pub invariant-loop-id : goal.invariant-loop-id
invariant-loop-id l = (k : ℕ) (fault : RunFault) → k < l.id → get_or l.outcomes k None ≡ Some (Fails fault) → ⊥
