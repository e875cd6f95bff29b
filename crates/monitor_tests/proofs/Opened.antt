-- What is known of a seat over which a port was opened, and which was taken out of it again.
use Rattle.std.proofs.Common.{◌≡◌, ℕ, List, length, subst, sym, Option, Some}
use Rattle.best_turn.specs.Seated.{TableId}
use Rattle.best_turn.specs.declared.view.View.{View}
use Rattle.best_turn.specs.Seats.{IsSeatOf}
use Rattle.best_monitor.specs.Port.{Base, OverSeat, base_of, MadeSince}
use Rattle.best_monitor.proofs.Asked.{seat_of_base}

module _ {S Q R : Type 0} where
  pub opened_over : (turn : TableId × S) (j k : ℕ) (seat opened before next : TableId × View S Q R) → opened ≡ seat → ◌≡◌ {A = Option (Base S Q R)} (Some (OverSeat (base_of before j))) (Some (OverSeat (base_of opened k))) → MadeSince j before next → IsSeatOf turn seat
      → IsSeatOf turn next × (next.1.rest ≡ seat.1.rest) × (length next.1.made ≡ length seat.1.made)
  opened_over turn j k seat opened before next is same since own =
      let all = seat_of_base turn j k opened before next same since (subst (λ (s : TableId × View S Q R). IsSeatOf turn s) (sym is) own) in
      subst (λ (s : TableId × View S Q R). IsSeatOf turn next × (next.1.rest ≡ s.1.rest) × (length next.1.made ≡ length s.1.made)) is (all.0, all.1, all.2)
