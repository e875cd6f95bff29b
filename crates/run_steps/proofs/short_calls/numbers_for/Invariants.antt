use Rattle.std.proofs.Common.{◌≡◌, ℕ, List, [], map, length}
use Rattle.comet_meaning.specs.Calls.{arguments_form}
use Rattle.comet_meaning.specs.Levels.{Code}
use Rattle.comet_meaning.specs.Program.{level}
use Rattle.comet_meaning.proofs.Rows.{ArgumentsLeft}
use Rattle.run_objects.specs.OfRunState.Views.{state_seen}
use Rattle.run_steps.specs.Spending.{AreNumbers}
use Rattle.run_steps.specs.Views.{part, row}
use Rattle.run_values.specs.Views.{value_seen}
use Rattle.run_steps.proofs.short_calls.numbers_for.Given as goal

abbrev pub invariant-loop-argument : goal.invariant-loop-argument
invariant-loop-argument l = record { left : (code : Code) (printed : _) → ArgumentsLeft (level code l.room) part l.parameters l.arguments l.argument-index (map value_seen l.values.items) (state_seen l.s printed) (arguments_form (level code l.room) l.parameters (row l.arguments) [] (state_seen l.s printed)); known : length l.values.items ≡ l.argument-index; plain : AreNumbers (map value_seen l.values.items) }
