-- What a statement that holds no statement returns, if it is a `return`. From the language.
use Rattle.std.specs.Prelude.{Option, Some, None}
use Rattle.checked_tree.specs.Shape.{Seen}
use Rattle.checked_tree.specs.Actions.{Deed, returning}

abbrev pub returned_by : Deed → Option (Option Seen)
returned_by (returning e) = Some e
returned_by d = None
