use Rattle.run_steps.specs.Views.{part, row}
use Rattle.std.proofs.Common.{[], map}
use Rattle.comet_meaning.specs.Parts.{values}
use Rattle.comet_meaning.specs.Program.{level}
use Rattle.comet_meaning.proofs.Rows.{ValuesLeft}
use Rattle.run_steps.specs.OfRunState.Views.{state_seen}
use Rattle.run_values.specs.Views.{value_seen}
use Rattle.expression_forms.proofs.expressions.values_of.Given as goal

abbrev pub invariant-loop-e : goal.invariant-loop-e
invariant-loop-e g l = ValuesLeft (level (g.W.Within.code l.inside) (g.W.Within.depth l.inside)) part l.es l.e-index (map value_seen l.values.items) (state_seen l.s (g.O.Outside.told l.out)) (values (level (g.W.Within.code l.inside) (g.W.Within.depth l.inside)) (row l.es) [] (state_seen l.fn.s (g.O.Outside.told l.fn.out)))
