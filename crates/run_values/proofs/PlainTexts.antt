-- What is no array is printed as it is.
use Rattle.std.proofs.Common.{Bool, true, false}
use Rattle.comet_meaning.specs.Values.{Value, Array, Row, Variables}

abbrev pub is_array : Value → Bool
is_array (Array n) = true
is_array (Row xs) = true
is_array (Variables n) = true
is_array v = false
