-- Steps that may give nothing, one after another, and choices by a word.
use Rattle.std.proofs.Common.{◌≡◌, ℕ, Bool, true, false, cond, List, Option, Some, None, refl, sym, subst}
use Rattle.std.specs.Str.{bytes_eq}
use Rattle.std.proofs.lemmas.Slice.Eq.{bytes_eq-Decides}
use Rattle.journal_text.specs.Reading.{◌>>=◌}

pub some_is : {A : Type 0} (a b : A) → Some a ≡ Some b → a ≡ b
some_is a b e = cc

-- the value of a step that gave something
pub bind_some : {A B : Type 0} (o : Option A) (f : A → Option B) (y : B) → (o >>= f) ≡ Some y → (x : A) × (o ≡ Some x) × (f x ≡ Some y)
bind_some (Some x) f y e = (x, refl, e)
bind_some None f y e = absurd cc

-- a chain of words
pub chosen : {A : Type 0} (name word : List ℕ) (here other : Option A) (x : A) (P : List ℕ → Type 0) → (here ≡ Some x → P word) → (other ≡ Some x → P name) → cond (bytes_eq name word) here other ≡ Some x → P name
chosen {A} name word here other x P found else e = cases (bytes_eq name word) refl e
  where
    cases : (b : Bool) → bytes_eq name word ≡ b → cond b here other ≡ Some x → P name
    cases true is e = subst P (sym ((bytes_eq-Decides name word).0 is)) (found e)
    cases false is e = else e
