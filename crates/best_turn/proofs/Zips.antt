-- Two lists side by side, each longer by one.
use Rattle.std.proofs.Common.{◌≡◌, ℕ, ◌^◌, ◌<◌, ◌≤◌, List, [], ◌∷◌, ◌++◌, length, min, refl, ap, ap₂, ◌∙◌, arith}
use Rattle.std.specs.List.{zip}
use Rattle.std.proofs.lemmas.Slice.Zip.{length-zip}

pub zip-push : {A B : Type 0} (ks : List A) (es : List B) (k : A) (e : B) → length ks ≡ length es → zip (ks ++ k ∷ []) (es ++ e ∷ []) ≡ zip ks es ++ (k, e) ∷ []
zip-push [] [] k e same = refl
zip-push [] (y ∷ es) k e same = absurd (omega arith)
zip-push (x ∷ ks) [] k e same = absurd (omega arith)
zip-push (x ∷ ks) (y ∷ es) k e same = ap (λ l. (x, y) ∷ l) (zip-push ks es k e (omega arith))

-- what a book shows once a pair was pushed
pub asked : {S E : Type 0} (d : S × List (ℕ × E)) (s t u : S) (ks ks' : List ℕ) (es es' : List E) (k : ℕ) (e f : E) → ◌≡◌ {A = S × List (ℕ × E)} (s, zip ks es) d → length ks ≡ length es → ks' ≡ ks ++ k ∷ [] → es' ≡ es ++ e ∷ [] → e ≡ f → t ≡ u
    → ◌≡◌ {A = S × List (ℕ × E)} (t, zip ks' es') (u, d.1 ++ (k, f) ∷ [])
asked d s t u ks ks' es es' k e f is same more more' entry state =
    let whole : zip ks' es' ≡ d.1 ++ (k, f) ∷ [] = ap₂ zip more more' ∙ (zip-push ks es k e same ∙ ap₂ (λ l x. l ++ (k, x) ∷ []) (ap (λ y. y.1) is) entry) in
    λ i. (state i, whole i)

pub short_zip : {A B : Type 0} (ks : List A) (es : List B) (len cap : ℕ) → len ≡ length ks → len ≤ cap → cap < 2 ^ 63 → length (zip ks es) < 18446744073709551616
short_zip ks es len cap is fits small = let z = length-zip ks es in let l : ℕ = length (zip ks es) in let z' : l ≡ min (length ks) (length es) = z in omega arith
