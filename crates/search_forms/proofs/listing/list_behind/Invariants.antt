-- The candidates for the tuples that are left.
use Rattle.std.proofs.Common.{◌+◌, ◌<◌, length, map}
use Rattle.checked_tree.specs.Shape.{shape_of_generator}
use Rattle.comet_meaning.specs.Program.{level}
use Rattle.comet_meaning.proofs.GoingStatements.{goes_level}
use Rattle.run_steps.specs.OfRunState.Views.{state_seen}
use Rattle.run_steps.specs.OpenTuples.{Remains, bounds_of, stack_seen}
use Rattle.search_forms.specs.Fronts.{behind_front}
use Rattle.search_forms.specs.Tables.{AreRows, candidates_seen}
use Rattle.search_forms.proofs.ListingLaws.{lists}
use Rattle.search_forms.proofs.listing.list_behind.Given as goal

-- the candidates for the tuples that are left, from here, are all from the start
abbrev pub invariant-tuples : goal.invariant-tuples
invariant-tuples g l = record {
  left : Remains (level (g.W.Within.code l.inside) (g.W.Within.depth l.inside)) l.place (lists (level (g.W.Within.code l.inside) (g.W.Within.depth l.inside)) (goes_level (g.W.Within.code l.inside) (g.W.Within.depth l.inside)) l.at (map shape_of_generator l.front) (shape_of_generator l.last) (candidates_seen l.found) (behind_front (level (g.W.Within.code l.inside) (g.W.Within.depth l.inside)) l.at (map shape_of_generator l.front) (shape_of_generator l.last) (candidates_seen l.fn.found) (state_seen l.fn.s (g.O.Outside.told l.fn.out)))) l.front (bounds_of l.tuples) (stack_seen l.tuples) (state_seen l.s (g.O.Outside.told l.out));
  inside : length l.tuples.below.items < length l.front;
  rows : AreRows l.found (length l.front + 1);
}

-- a tuple costs a unit
abbrev pub decreases-tuples : goal.decreases-tuples
decreases-tuples g l = l.s.fuel
