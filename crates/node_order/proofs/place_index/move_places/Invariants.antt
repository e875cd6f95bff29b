use Rattle.std.proofs.Common.{ℤ, List, take}
use Rattle.node_base.specs.NumberChanges.{AreNumberChanges, after_number_changes}
use Rattle.node_order.specs.PlaceIndex.{ArePlacesOf}
use Rattle.node_order.proofs.place_index.move_places.Given as goal

abbrev pub invariant-loop-change : goal.invariant-loop-change
invariant-loop-change l =
    (xs : List ℤ) → ArePlacesOf l.fn.number xs l.initial.places → AreNumberChanges xs l.changes → ArePlacesOf l.fn.number (after_number_changes xs (take l.change-index l.changes)) l.places
