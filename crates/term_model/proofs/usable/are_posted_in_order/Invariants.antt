use Rattle.std.proofs.Common.{◌≡◌, length, take}
use Rattle.std.specs.List.{All}
use Rattle.term_model.specs.Checks.{AreCounts}
use Rattle.term_model.specs.Wellformed.{IsThere}
use Rattle.term_model.proofs.usable.are_posted_in_order.Given as goal

abbrev pub invariant-loop-turn : goal.invariant-loop-turn
invariant-loop-turn l =
    AreCounts l.side (take l.turn l.model.posted.items) l.counts.items
    × All (IsThere l.side (length l.totals)) (take l.turn l.model.posted.items)
    × (length l.counts.items ≡ length l.totals)
