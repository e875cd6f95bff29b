use Rattle.run_steps.specs.OpenTuples.{Remains, bounds_of, stack_seen}
use Rattle.std.proofs.Common.{◌<◌, map, length, option_map}
use Rattle.checked_tree.specs.Shape.{optional, seen, shape_of_generator, whole}
use Rattle.comet_meaning.specs.Program.{level}
use Rattle.run_steps.specs.OfRunState.Views.{state_seen}
use Rattle.checked_tree.specs.Tasks.{work_of}
use Rattle.comet_meaning.specs.Loops.{for_all_form}
use Rattle.comet_meaning.proofs.GoingStatements.{goes_level}
use Rattle.run_steps.proofs.Visiting.{visits}
use Rattle.statement_forms.proofs.for_all.visit_all.Given as goal

-- the tuples that are left, from here, are all from the start
abbrev pub invariant-tuples : goal.invariant-tuples
invariant-tuples g l =
    (Remains (level (g.W.Within.code l.inside) (g.W.Within.depth l.inside)) l.at (visits (level (g.W.Within.code l.inside) (g.W.Within.depth l.inside)) (goes_level (g.W.Within.code l.inside) (g.W.Within.depth l.inside)) (optional whole (option_map seen l.condition)) (work_of l.body) (for_all_form (level (g.W.Within.code l.inside) (g.W.Within.depth l.inside)) l.at (map shape_of_generator l.generators) (option_map seen l.condition) (work_of l.body) (state_seen l.fn.s (g.O.Outside.told l.fn.out)))) l.generators (bounds_of l.tuples) (stack_seen l.tuples) (state_seen l.s (g.O.Outside.told l.out))) × (length l.tuples.below.items < length l.generators)

abbrev pub decreases-tuples : goal.decreases-tuples
decreases-tuples g l = l.s.fuel
