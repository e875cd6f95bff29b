-- Arrays by their numbers: what is found among them, and what a write changes.
use Rattle.std.proofs.Common.{◌≡◌, ℕ, ◌<◌, ℤ, List, length, get_or, set, map, Some, sym, ◌∙◌, ap, arith}
use Rattle.std.specs.List.{slice_get}
use Rattle.std.proofs.lemmas.List.{get_or-map, length-map, map-set}
use Rattle.std.proofs.lemmas.Option.{slice_get-get_or}
use Rattle.comet_meaning.specs.State.{Cells}
use Rattle.comet_meaning.specs.Cells.{with_number}

-- what is found in a list of views is the view of what is found
pub seen_there : {X Y : Type 0} (f : X → Y) (xs : List X) (n : ℕ) (x : X) (e : Y) → x ≡ get_or xs n x → n < length xs → get_or (map f xs) n e ≡ f x
seen_there f xs n x e is h = get_or-map f xs n x e h ∙ ap f (sym is)

-- a number is written into the array that is there, or nowhere
pub written_there : {X : Type 0} (f : X → Cells) (xs : List X) (n k : ℕ) (z : ℤ) (x y : X) → n < length xs → x ≡ get_or xs n x → f y ≡ with_number k z (Some (f x)) → map f (set xs n y) ≡ set (map f xs) n (with_number k z (slice_get (map f xs) n))
written_there f xs n k z x y h is e =
    let there : n < length (map f xs) = omega (arith, length-map xs f) in
    let found : slice_get (map f xs) n ≡ Some (f x) = slice_get-get_or (map f xs) n (f x) there ∙ ap Some (seen_there f xs n x (f x) is h) in
    map-set f xs n y ∙ ap (λ c. set (map f xs) n c) (e ∙ ap (λ o. with_number k z o) (sym found))
