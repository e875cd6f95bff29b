-- A stack from which four values were taken, one after another, had four.
use Rattle.std.specs.Prelude.{List, ◌∷◌, ◌≡◌, ◌<◌, length, reverse}
use Rattle.std.proofs.Common.{sym, ◌∙◌, ap, arith}
use Rattle.std.proofs.lemmas.List.{length-reverse}

pub has_four : {A : Type 0} (s : List A) {x y z w : A} {xs ys zs ws : List A} → reverse s ≡ x ∷ xs → xs ≡ y ∷ ys → ys ≡ z ∷ zs → zs ≡ w ∷ ws → 3 < length s
has_four s {x = x} {y = y} {z = z} {w = w} {ws = ws} e f g h =
    let all : length s ≡ length (x ∷ y ∷ z ∷ w ∷ ws) = sym (length-reverse s) ∙ ap length (e ∙ ap (λ v. x ∷ v) (f ∙ ap (λ v. y ∷ v) (g ∙ ap (λ v. z ∷ v) h))) in
    omega (arith, all)
