-- How far a listing is undone: the events that are left show the front of the listing, and what stands on the stacks is written as the rest of it.
-- A definition of this project.
use Rattle.std.specs.Prelude.{List, ◌++◌, ◌≡◌, length}
use Rattle.comet_syntax.specs.declared.token.Token.{Token}
use Rattle.comet_syntax.specs.Refusal.{start}
use Rattle.comet_syntax.specs.Written.Shown.{Shown}
use Rattle.parse_machine.specs.declared.event.Event.{Event}
use Rattle.parse_machine.specs.Listing.{reads, shown_all}
use Rattle.parse_machine.specs.Undoing.{items_after}
use Rattle.parse_stacks.specs.Standing.{Stands}
use Rattle.parse_stacks.specs.Values.{State}

pub record Building (all : List Shown) (log : List Event) (ts : List Token) (st : State) : Type 0 where
  pub undone : List Shown
  pub whole : all ≡ shown_all log ts ++ undone
  pub all_read : reads log ≡ length ts
  pub stands : Stands (items_after (shown_all log ts) start) st undone
