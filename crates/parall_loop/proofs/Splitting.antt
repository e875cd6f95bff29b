-- A worker is split from the seats of a loop.
use Rattle.std.proofs.Common.{◌≡◌, ℕ, ◌+◌, ◌-◌, ◌<◌, ◌≤◌, List, [], ◌∷◌, ◌++◌, ap, sym, subst, ◌∙◌, arith}
use Rattle.std.specs.List.{All}
use Rattle.std.proofs.lemmas.List.Elements.{All-push}
use Rattle.best_turn.specs.Seated.{TableId}
use Rattle.best_turn.specs.declared.view.View.{View}
use Rattle.best_turn.specs.Rule.{all_numbers, newcomer, gave_number, split_off}
use Rattle.best_turn.specs.Seats as turns
use Rattle.iter_claim.specs.declared.claims.Claims.{Claims}
use Rattle.iter_claim.specs.declared.claims.ClaimSeat.{ClaimSeat}
use Rattle.iter_claim.specs.Seats as claims
use Rattle.parall_loop.specs.Runs.{IsFresh, HasSplit}

one_less : (rest i all : ℕ) → 0 < rest → rest + i ≡ all → rest - 1 + (i + 1) ≡ all
one_less rest i all some sum = omega arith

pub some_left : (rest i all : ℕ) → i < 64 → 65 ≤ all → rest + i ≡ all → 0 < rest
some_left rest i all few many sum = omega arith

module _ {S Q R : Type 0} (turn : TableId × S) (count : Claims) where
  pub none_split : (seat : TableId × View S Q R) (claimer : ClaimSeat) → turns.IsSeatOf turn seat → seat.1 ≡ newcomer turn.1 [] 0 4294967296 → claims.IsSeatOf count claimer → claims.seats_from claimer ≡ claims.all_seats → claims.drawn_by claimer ≡ []
      → HasSplit turn count 0 seat claimer
  none_split seat claimer own view own' seats drawn = record {
    number = 0;
    own = own;
    made = ap (λ (v : View S Q R). v.made) view;
    rest = ap (λ (v : View S Q R). v.rest + 0) view;
    claims = own';
    seats = let h : claims.seats_from claimer ≡ claims.all_seats = seats in omega arith;
    drawn = drawn;
  }

  pub one_split : (i : ℕ) (seat seat' new : TableId × View S Q R) (claimer claimer' fresh : ClaimSeat) → i < 64 → HasSplit turn count i seat claimer
      → turns.IsSeatOf turn seat' × turns.IsSeatOf turn new → (seat'.1 ≡ gave_number seat.1) × (new.1 ≡ split_off seat.1)
      → claims.IsSeatOf count claimer' × claims.IsSeatOf count fresh → (claims.seats_from claimer' + 1 ≡ claims.seats_from claimer) × (claims.seats_from fresh ≡ 1) → (claims.drawn_by claimer' ≡ claims.drawn_by claimer) × (claims.drawn_by fresh ≡ [])
      → HasSplit turn count (i + 1) seat' claimer' × IsFresh turn count new fresh
  one_split i seat seat' new claimer claimer' fresh few has own views own' seats drawn = (
    record {
      number = has.number;
      own = own.0;
      made = ap (λ (v : View S Q R). v.made) views.0 ∙ has.made;
      rest = ap (λ (v : View S Q R). v.rest + (i + 1)) views.0 ∙ one_less seat.1.rest i 4294967296 (some_left seat.1.rest i 4294967296 few (omega arith) has.rest) has.rest;
      claims = own'.0;
      seats = let h : claims.seats_from claimer + i ≡ claims.all_seats = has.seats in let s = seats.0 in omega arith;
      drawn = drawn.0 ∙ has.drawn;
    },
    record {
      number = all_numbers - seat.1.rest;
      own = own.1;
      made = ap (λ (v : View S Q R). v.made) views.1;
      rest = ap (λ (v : View S Q R). v.rest) views.1;
      claims = own'.1;
      seats = seats.1;
      drawn = drawn.1;
    },
  )

pub all_pushed : {W : Type 0} (P : W → Type 0) (xs ys : List W) (x : W) → ys ≡ xs ++ x ∷ [] → All P xs → P x → All P ys
all_pushed P xs ys x is all one = subst (All P) (sym is) (All-push P xs x all one)
