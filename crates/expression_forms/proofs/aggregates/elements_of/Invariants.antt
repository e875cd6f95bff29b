use Rattle.run_steps.proofs.AggregateLaws.{gathers}
use Rattle.run_steps.specs.Views.{part_or_none, part, generators_seen}
use Rattle.comet_meaning.specs.Aggregates.{element_form}
use Rattle.comet_meaning.specs.Generators.{each_tuple}
use Rattle.comet_meaning.specs.Outcome.{always}
use Rattle.run_steps.specs.OpenTuples.{Remains, bounds_of, stack_seen}
use Rattle.std.proofs.Common.{◌<◌, [], map, length}
use Rattle.comet_meaning.specs.Program.{level}
use Rattle.run_steps.specs.OfRunState.Views.{state_seen}
use Rattle.run_values.specs.Views.{element_seen}
use Rattle.expression_forms.proofs.aggregates.elements_of.Given as goal

abbrev pub invariant-loop-tuples : goal.invariant-loop-tuples
invariant-loop-tuples g l = record { left : Remains (level (g.W.Within.code l.inside) (g.W.Within.depth l.inside)) l.at (gathers (g.W.Within.code l.inside) (g.W.Within.depth l.inside) l.at l.aggregate (part_or_none l.condition) (part l.body) (map element_seen l.elements.items) (each_tuple (level (g.W.Within.code l.inside) (g.W.Within.depth l.inside)) l.at always (element_form (level (g.W.Within.code l.inside) (g.W.Within.depth l.inside)) l.at l.aggregate (part_or_none l.condition) (part l.body)) [] (generators_seen l.generators) [] (state_seen l.fn.s (g.O.Outside.told l.fn.out)))) l.generators (bounds_of l.tuples) (stack_seen l.tuples) (state_seen l.s (g.O.Outside.told l.out)); inside : length l.tuples.below.items < length l.generators }

abbrev pub decreases-loop-tuples : goal.decreases-loop-tuples
decreases-loop-tuples g l = l.s.fuel
