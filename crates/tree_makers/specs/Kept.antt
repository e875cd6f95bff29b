-- What was made or done, read back from what it was joined with.
use Rattle.std.specs.Prelude.{Result, Ok, Err}

-- what was made, of what it is beside of
abbrev pub made_of : {K T E : Type 0} → Result (K × T) E → Result T E
made_of (Ok p) = Ok p.1
made_of (Err e) = Err e

-- what was done, of what goes on behind it
abbrev pub done_of : {T E : Type 0} → Result T E → Result (Unit {0}) E
done_of (Ok x) = Ok tt
done_of (Err e) = Err e
