use Rattle.std.proofs.Common.{map}
use Rattle.comet_meaning.specs.Program.{level}
use Rattle.comet_meaning.proofs.Rows.{PrintsLeft}
use Rattle.run_steps.specs.OfRunState.Views.{state_seen}
use Rattle.checked_tree.specs.Actions.{printed_of}
use Rattle.comet_meaning.specs.Printing.{print_form}
use Rattle.write_forms.proofs.printing.print_all.Given as goal

-- the items that are left, from here, are all from the start
abbrev pub invariant-loop-item : goal.invariant-loop-item
invariant-loop-item g l =
    PrintsLeft (level (g.W.Within.code l.inside) (g.W.Within.depth l.inside)) printed_of l.items l.item-index (state_seen l.s (g.O.Outside.told l.out)) (print_form (level (g.W.Within.code l.inside) (g.W.Within.depth l.inside)) (map printed_of l.items) (state_seen l.fn.s (g.O.Outside.told l.fn.out)))
