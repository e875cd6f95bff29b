-- What a clause says of claims and their seats.
use Rattle.std.specs.Prelude.{◌≡◌, ℕ, List, Bool}
use Rattle.iter_claim.specs.Claiming as rule
use Rattle.iter_claim.specs.declared.claims.Claims.{Claims}
use Rattle.iter_claim.specs.declared.claims.ClaimSeat.{ClaimSeat}

-- how many seats can come from the first one, itself counted: 2^32
abbrev pub all_seats : ℕ
all_seats = rule.all_seats

-- how many numbers there are
abbrev pub count_of : Claims → ℕ
count_of c = c.table.shared.key

-- the numbers that the seat drew, in order, and behind them those of each seat that it took in
abbrev pub drawn_by : ClaimSeat → List ℕ
drawn_by s = s.token.me.0.drawn

-- how many seats may still come from it, itself counted
abbrev pub seats_from : ClaimSeat → ℕ
seats_from s = s.token.me.0.seats

-- whether it was answered `None`, or a seat that it took in or was split from
abbrev pub is_done : ClaimSeat → Bool
is_done s = s.token.me.0.stopped

-- the seat draws from these claims
abbrev pub IsSeatOf : Claims → ClaimSeat → Type 0
IsSeatOf c s = (s.token.table_id ≡ c.table.shared.table_id) × (s.token.me.0.count ≡ c.table.shared.key)
