use Rattle.run_steps.specs.Views.{part}
use Rattle.std.proofs.Common.{Bor, option_map}
use Rattle.checked_tree.specs.Shape.{optional}
use Rattle.comet_meaning.specs.Program.{level}
use Rattle.run_steps.specs.OfRunState.Views.{state_seen}
use Rattle.std.specs.Option.{option_copied}
use Rattle.checked_tree.specs.Actions.{deed_of}
use Rattle.checked_tree.specs.declared.expressions.Typed.{Typed}
use Rattle.checked_tree.specs.Tasks.{work_of}
use Rattle.comet_meaning.specs.Loops.{repeated, turn_form}
use Rattle.comet_meaning.specs.Statements.{step_of}
use Rattle.run_steps.proofs.Steps.{TurnsLeft}
use Rattle.statement_forms.proofs.loops.repeat.Given as goal

-- the turns that are left, from here, are the loop from the start
abbrev pub invariant-turns : goal.invariant-turns
invariant-turns g l =
    TurnsLeft l.at (turn_form (level (g.W.Within.code l.inside) (g.W.Within.depth l.inside)) l.at (optional (λ (e : Bor Typed). part e.now) l.test) (step_of (level (g.W.Within.code l.inside) (g.W.Within.depth l.inside)) l.at (option_map deed_of (option_copied l.step))) (work_of l.body)) (state_seen l.s (g.O.Outside.told l.out)) (repeated l.at (turn_form (level (g.W.Within.code l.inside) (g.W.Within.depth l.inside)) l.at (optional (λ (e : Bor Typed). part e.now) l.test) (step_of (level (g.W.Within.code l.inside) (g.W.Within.depth l.inside)) l.at (option_map deed_of (option_copied l.step))) (work_of l.body)) (state_seen l.fn.s (g.O.Outside.told l.fn.out)))

abbrev pub decreases-turns : goal.decreases-turns
decreases-turns g l = l.s.fuel
