-- A change of the inputs, and the change back. A rule of this project.
use Rattle.std.specs.Prelude.{◌≡◌, List}
use Rattle.cbl_base.specs.declared.input.Input.{Input}
use Rattle.cbl_base.specs.Changes.{AreChanges, after_changes}
use Rattle.bench.specs.declared.nodes.sample.RoundTrip.{RoundTrip}

-- both are changes of what stands there, and after the second all is as before
pub record IsRoundTrip (inputs : List Input) (trip : RoundTrip) : Type 0 where
  pub forth : AreChanges inputs trip.forth.items
  pub back : AreChanges (after_changes inputs trip.forth.items) trip.back.items
  pub home : after_changes (after_changes inputs trip.forth.items) trip.back.items ≡ inputs
