use Rattle.std.proofs.Common.{◌≡◌, take}
use Rattle.std.specs.Prelude.{None}
use Rattle.node_base.specs.Counting.{place_among}
use Rattle.node_base.proofs.overlay.place_among.Given as goal

abbrev pub invariant-loop-place : goal.invariant-loop-place
invariant-loop-place l = place_among l.number (take l.place l.counts) ≡ None
