-- Pieces that are appended one after the other.
use Rattle.std.proofs.Common.{◌≡◌, ◌++◌, ◌-◌, ℕ, List, Option, Some, None, append_assoc, length, take, drop}
use Rattle.std.proofs.lemmas.List.{take-append-drop, take_rest}
use Rattle.cbl_io.specs.Appended.{Appends}

-- two pieces in turn are one piece
pub Appends-append : (old middle new : Option (List ℕ)) (first second : List ℕ)
    → Appends old middle first → Appends middle new second → Appends old new (first ++ second)
Appends-append None None new first second a b = b
Appends-append None (Some middle) new first second a b = cc
Appends-append (Some old) None new first second a b = cc
Appends-append (Some old) (Some middle) new first second a b =
    let taken : middle ≡ old ++ first = cc in
    let together : (old ++ first) ++ second ≡ old ++ (first ++ second) = append_assoc old first second in
    cc

-- a further front of what is left goes over to what was taken
pub take-drop-further : (whole front left : List ℕ) (taken : ℕ)
    → whole ≡ front ++ left
    → whole ≡ (front ++ take taken left) ++ take (length left - taken) (drop taken left)
take-drop-further whole front left taken whole-is =
    let parts : take taken left ++ drop taken left ≡ left = take-append-drop taken left in
    let all : take (length left - taken) (drop taken left) ≡ drop taken left = take_rest left taken in
    rw (all, append_assoc, parts) whole-is
