-- Parts with a byte between them, put together.
use Rattle.std.proofs.Common.{◌≡◌, ℕ, ◌<◌, List, [], ◌∷◌, ◌++◌, length, refl, ap, sym, ◌∙◌, arith, append_assoc}
use Rattle.journal_text.specs.Texts.{joined}

pub joined_cons : (at : ℕ) (x : List ℕ) (ps : List (List ℕ)) → 0 < length ps → joined at (x ∷ ps) ≡ x ++ at ∷ joined at ps
joined_cons at x [] h = absurd (omega arith)
joined_cons at x (p ∷ ps) h = refl

pub joined_append : (w : List ℕ) (ws : List (List ℕ)) (v : List ℕ) (vs : List (List ℕ)) → joined 32 ((w ∷ ws) ++ v ∷ vs) ≡ joined 32 (w ∷ ws) ++ 32 ∷ joined 32 (v ∷ vs)
joined_append w [] v vs = refl
joined_append w (x ∷ xs) v vs = ap (λ l. w ++ 32 ∷ l) (joined_append x xs v vs) ∙ sym (append_assoc w (32 ∷ joined 32 (x ∷ xs)) (32 ∷ joined 32 (v ∷ vs)))
