use Rattle.run_steps.specs.Views.{part, row}
use Rattle.std.proofs.Common.{[], map}
use Rattle.comet_meaning.specs.Methods.{asked_values}
use Rattle.comet_meaning.specs.Program.{level}
use Rattle.run_steps.specs.OfRunState.Views.{state_seen}
use Rattle.run_values.specs.Views.{value_seen}
use Rattle.expression_forms.proofs.MethodLaws.{AskedLeft}
use Rattle.expression_forms.proofs.methods.asked_values.Given as goal

-- the arguments that are left, from here, give what all give
abbrev pub invariant-loop-e : goal.invariant-loop-e
invariant-loop-e g l = AskedLeft (level (g.W.Within.code l.inside) (g.W.Within.depth l.inside)) part l.es l.e-index l.left (map value_seen l.values.items) (state_seen l.s (g.O.Outside.told l.out)) (asked_values (level (g.W.Within.code l.inside) (g.W.Within.depth l.inside)) l.fn.count (row l.es) [] (state_seen l.fn.s (g.O.Outside.told l.fn.out)))
