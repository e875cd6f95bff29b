use Rattle.std.specs.List.{All}
use Rattle.bench.specs.RoundTrips.{IsRoundTrip}
use Rattle.bench.proofs.nodes.sample.Sample.of.Given as goal

abbrev pub invariant-loop-trip : goal.invariant-loop-trip
invariant-loop-trip l = All (IsRoundTrip l.inputs.items) l.trips.items
