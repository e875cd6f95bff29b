-- A change that makes the input at a place, whatever stands elsewhere, from one into another. A rule of this
-- project.
use Rattle.std.specs.Prelude.{◌≡◌, ℕ, List, Some, slice_get, slice_set}
use Rattle.cbl_base.specs.Changes.{IsChange, after_change, place_of}
use Rattle.cbl_base.specs.declared.input.Change.{Change}
use Rattle.cbl_base.specs.declared.input.Input.{Input}

pub record IsStep (place : ℕ) (old new : Input) (change : Change) : Type 0 where
  pub at : place_of change ≡ place
  pub fits : (inputs : List Input) → slice_get inputs place ≡ Some old → IsChange inputs change
  pub after : (inputs : List Input) → slice_get inputs place ≡ Some old → after_change inputs change ≡ slice_set inputs place new
