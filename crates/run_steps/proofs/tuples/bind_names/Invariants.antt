use Rattle.comet_meaning.proofs.Rows.{NamesLeft}
use Rattle.comet_meaning.specs.Generators.{bind}
use Rattle.run_steps.specs.OpenTuples.{bound_seen, names_seen}
use Rattle.std.proofs.Common.{◌≡◌, ℕ, List}
use Rattle.run_objects.specs.OfRunState.Views.{state_seen}
use Rattle.run_steps.proofs.tuples.bind_names.Given as goal

abbrev pub invariant-loop-entered : goal.invariant-loop-entered
invariant-loop-entered l = record { left : (printed : _) → NamesLeft bound_seen l.below l.entered-index (state_seen l.s printed) (bind (names_seen l.below) (state_seen l.fn.s printed)); fuel : l.s.fuel ≡ l.fn.s.fuel }
