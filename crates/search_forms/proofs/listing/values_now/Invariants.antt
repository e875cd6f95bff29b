-- The values that the names so far have.
use Rattle.std.proofs.Common.{◌≡◌, ℕ, List, take}
use Rattle.run_steps.specs.OfRunState.Views.{state_seen}
use Rattle.search_forms.proofs.LastLaws.{values_of}
use Rattle.search_forms.proofs.listing.values_now.Given as goal

abbrev pub invariant-loop-generator : goal.invariant-loop-generator
invariant-loop-generator l = record { known : (printed : _) → l.values.items ≡ values_of (state_seen l.s printed) (take l.generator-index l.generators) }
