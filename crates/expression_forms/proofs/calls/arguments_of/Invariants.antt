use Rattle.run_steps.specs.Views.{part, row}
use Rattle.std.proofs.Common.{◌≡◌, [], map, length}
use Rattle.comet_meaning.specs.Calls.{arguments_form}
use Rattle.comet_meaning.specs.Program.{level}
use Rattle.comet_meaning.proofs.Rows.{ArgumentsLeft}
use Rattle.run_steps.specs.OfRunState.Views.{state_seen}
use Rattle.run_values.specs.Views.{value_seen}
use Rattle.expression_forms.proofs.calls.arguments_of.Given as goal

abbrev pub invariant-loop-argument : goal.invariant-loop-argument
invariant-loop-argument g l = record { left : ArgumentsLeft (level (g.W.Within.code l.inside) (g.W.Within.depth l.inside)) part l.parameters l.arguments l.argument-index (map value_seen l.values.items) (state_seen l.s (g.O.Outside.told l.out)) (arguments_form (level (g.W.Within.code l.inside) (g.W.Within.depth l.inside)) l.parameters (row l.arguments) [] (state_seen l.fn.s (g.O.Outside.told l.fn.out))); known : length l.values.items ≡ l.argument-index }
