use Rattle.run_steps.specs.OpenTuples.{Visits, Remains, bounds_of, stack_seen}
use Rattle.std.proofs.Common.{◌≤◌, ◌<◌, ◌+◌, ◌*◌, length}
use Rattle.comet_meaning.specs.Program.{level}
use Rattle.run_steps.specs.OfRunState.Views.{state_seen}
use Rattle.form_parts.proofs.tuples.next_tuple.Given as goal

abbrev pub invariant-loop-value : goal.invariant-loop-value
invariant-loop-value g l = record { left : (V : Visits) → Remains (level (g.W.Within.code l.inside) (g.W.Within.depth l.inside)) l.at V l.generators (bounds_of l.fn.tuples) (stack_seen l.fn.tuples) (state_seen l.fn.s (g.O.Outside.told l.fn.out)) → Remains (level (g.W.Within.code l.inside) (g.W.Within.depth l.inside)) l.at V l.generators (bounds_of l.tuples) (stack_seen l.tuples) (state_seen l.s (g.O.Outside.told l.out)); inside : length l.tuples.below.items < length l.generators; fuel : l.s.fuel ≤ l.fn.s.fuel }

abbrev pub decreases-loop-value : goal.decreases-loop-value
decreases-loop-value g l = 2 * l.s.fuel + length l.tuples.below.items
