-- A stack from which a value is taken has one.
use Rattle.std.specs.Prelude.{List, ◌∷◌, ◌≡◌, ◌<◌, length, reverse}
use Rattle.std.proofs.Common.{sym, ◌∙◌, ap, arith}
use Rattle.std.proofs.lemmas.List.{length-reverse}

pub has_one : {A : Type 0} (s : List A) {x : A} {xs : List A} → reverse s ≡ x ∷ xs → 0 < length s
has_one s {x = x} {xs = xs} e =
    let all : length s ≡ length (x ∷ xs) = sym (length-reverse s) ∙ ap length e in
    omega (arith, all)

-- behind a first value another one
pub has_next : {A : Type 0} (s t : List A) {r x y : A} {xs ys : List A} → reverse s ≡ r ∷ reverse t → reverse s ≡ x ∷ xs → xs ≡ y ∷ ys → 0 < length t
has_next s t {r = r} {x = x} {y = y} {ys = ys} h e f =
    let one : length s ≡ length (r ∷ reverse t) = sym (length-reverse s) ∙ ap length h in
    let two : length s ≡ length (x ∷ y ∷ ys) = sym (length-reverse s) ∙ ap length (e ∙ ap (λ v. x ∷ v) f) in
    let back : length (reverse t) ≡ length t = length-reverse t in
    omega (arith, one, two, back)
