-- What a clause says of a turn and its seats.
use Rattle.std.specs.Prelude.{◌≡◌, Some}
use Rattle.atomic_table.specs.Seated.{TableId}
use Rattle.best_turn.specs.declared.view.View.{View}

-- the state that the turn began with
abbrev pub start_of : {S : Type 0} → TableId × S → S
start_of t = t.1

module _ {S Q R : Type 0} where
  -- what the seat has seen and made, and the numbers that it may still give
  abbrev pub view_of : TableId × View S Q R → View S Q R
  view_of s = s.1

  -- the seat calls this turn
  abbrev pub IsSeatOf : TableId × S → TableId × View S Q R → Type 0
  IsSeatOf t s = (s.0 ≡ t.0) × (s.1.start ≡ Some t.1)
