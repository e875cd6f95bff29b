-- A stack from which values are taken has them.
use Rattle.std.specs.Prelude.{ℕ, suc, IfOk, Ok, Result, List, ◌∷◌, ◌≡◌, ◌<◌, length, reverse}
use Rattle.std.proofs.Common.{sym, ◌∙◌, ap, arith, subst}
use Rattle.std.proofs.lemmas.List.{length-reverse}

pub has_one : {A : Type 0} (s : List A) {x : A} {xs : List A} → reverse s ≡ x ∷ xs → 0 < length s
has_one s {x = x} {xs = xs} e =
    let all : length s ≡ length (x ∷ xs) = sym (length-reverse s) ∙ ap length e in
    omega (arith, all)

pub has_two : {A : Type 0} (s : List A) {x y : A} {xs ys : List A} → reverse s ≡ x ∷ xs → xs ≡ y ∷ ys → 1 < length s
has_two s {x = x} {y = y} {ys = ys} e f =
    let all : length s ≡ length (x ∷ y ∷ ys) = sym (length-reverse s) ∙ ap length (e ∙ ap (λ v. x ∷ v) f) in
    omega (arith, all)

pub has_three : {A : Type 0} (s : List A) {x y z : A} {xs ys zs : List A} → reverse s ≡ x ∷ xs → xs ≡ y ∷ ys → ys ≡ z ∷ zs → 2 < length s
has_three s {x = x} {y = y} {z = z} {zs = zs} e f g =
    let all : length s ≡ length (x ∷ y ∷ z ∷ zs) = sym (length-reverse s) ∙ ap length (e ∙ ap (λ v. x ∷ v) (f ∙ ap (λ v. y ∷ v) g)) in
    omega (arith, all)

-- and has one less behind the first one
pub has_more : {A : Type 0} (s t : List A) {x : A} (n : ℕ) → reverse s ≡ x ∷ reverse t → suc n < length s → n < length t
has_more s t {x = x} n e h =
    let all : length s ≡ length (x ∷ reverse t) = sym (length-reverse s) ∙ ap length e in
    let back : length (reverse t) ≡ length t = length-reverse t in
    omega (arith, all, back, h)

-- what holds of what was made holds of the value
pub of_ok : {A E : Type 0} (P : A → Type 0) {r : Result A E} {x : A} → r ≡ Ok x → IfOk r P → P x
of_ok P e h = subst (λ r. IfOk r P) e h
