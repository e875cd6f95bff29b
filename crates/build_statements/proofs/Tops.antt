-- A stack from which a value is taken has one.
use Rattle.std.specs.Prelude.{List, ◌∷◌, ◌≡◌, ◌<◌, length, reverse}
use Rattle.std.proofs.Common.{sym, ◌∙◌, ap, arith}
use Rattle.std.proofs.lemmas.List.{length-reverse}

pub has_one : {A : Type 0} (s : List A) {x : A} {xs : List A} → reverse s ≡ x ∷ xs → 0 < length s
has_one s {x = x} {xs = xs} e =
    let all : length s ≡ length (x ∷ xs) = sym (length-reverse s) ∙ ap length e in
    omega (arith, all)
