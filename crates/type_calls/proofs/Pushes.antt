-- A loop that puts parts behind a list: what is there, and what the items that are left give, is the whole.
use Rattle.std.specs.Prelude.{◌≡◌, refl, zero, suc, ◌<◌, ◌≤◌, ◌+◌, ℕ, List, [], ◌∷◌, ◌++◌, length, drop, get_or}
use Rattle.std.proofs.Common.{sym, ap, ◌∙◌, arith}
use Rattle.std.proofs.lemmas.List.{append_assoc, append-nil}
use Rattle.type_scopes.proofs.Loops.{next_item, no_item}

pub pushes_next : {A B : Type 0} (f : ℕ → A → List B) (whole : ℕ → List A → List B) (cons : (i : ℕ) (x : A) (xs : List A) → whole i (x ∷ xs) ≡ f i x ++ whole (i + 1) xs)
    (items : List A) (i : ℕ) (x : A) (there new all : List B)
    → there ++ whole i (drop i items) ≡ all → i < length items → x ≡ get_or items i x → new ≡ there ++ f i x → new ++ whole (i + 1) (drop (i + 1) items) ≡ all
pushes_next f whole cons items i x there new all h low is made =
    ap (λ r. r ++ whole (i + 1) (drop (i + 1) items)) made ∙ append_assoc there (f i x) (whole (i + 1) (drop (i + 1) items))
    ∙ ap (λ r. there ++ r) (sym (cons i x (drop (i + 1) items)) ∙ ap (whole i) (sym (next_item items i x low is))) ∙ h

pub pushes_end : {A B : Type 0} (whole : ℕ → List A → List B) (nil : (i : ℕ) → whole i [] ≡ []) (items : List A) (i : ℕ) (there all : List B)
    → there ++ whole i (drop i items) ≡ all → length items ≤ i → there ≡ all
pushes_end whole nil items i there all h past =
    sym (append-nil there) ∙ ap (λ r. there ++ r) (sym (nil i) ∙ ap (whole i) (sym (no_item items i past))) ∙ h

-- an item that stands there is the one whatever would stand in its place
pub same_item : {A : Type 0} (xs : List A) (i : ℕ) (d e : A) → i < length xs → get_or xs i d ≡ get_or xs i e
same_item [] i d e low = absurd (omega (arith, low))
same_item (x ∷ xs) zero d e low = refl
same_item (x ∷ xs) (suc i) d e low = same_item xs i d e (omega (arith, low))
