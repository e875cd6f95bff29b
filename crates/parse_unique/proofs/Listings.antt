-- What a listing puts on the stack, in front of what stands behind it; or it ends a program once more, as no derivation does.
use Rattle.std.specs.Prelude.{ℕ, List, [], ◌∷◌, ◌++◌, ◌≡◌, ◌<◌, ◌≤◌, refl}
use Rattle.std.proofs.Common.{sym, ◌∙◌, ap, subst, arith, append_assoc}
use Rattle.cbl_base.specs.declared.place.Place.{Place}
use Rattle.comet_syntax.specs.declared.token.TokenKind.TheVariants as kinds
use Rattle.comet_syntax.specs.declared.token.Word.{Word}
use Rattle.comet_syntax.specs.declared.tree.expressions.Name.{Name}
use Rattle.comet_syntax.specs.Grammar.Symbols.{Part, Symbol}
use Rattle.comet_syntax.specs.Written.Shown.{Shown, form, Grows, each, word, mark, name}
use Rattle.parse_unique.specs.Bare.{Bare, listed}
use Rattle.parse_unique.proofs.Values.{Value, sign, marked, nothing, tree, Stack, list_in, part_step, valued, ends_of, ends}

-- No program ends in what is put in front, and then it is so; or one does.
pub data Fine (k m : ℕ) (P : Type 0) : Type 0 where
  more_ends : k < m → Fine k m P
  as_many : m ≡ k → P → Fine k m P

pub fine_le : {k m : ℕ} {P : Type 0} → Fine k m P → k ≤ m
fine_le (more_ends l) = omega arith
fine_le (as_many e p) = omega arith

pub fine_map : {k m : ℕ} {P Q : Type 0} → (P → Q) → Fine k m P → Fine k m Q
fine_map f (more_ends l) = more_ends l
fine_map f (as_many e p) = as_many e (f p)

pub fine_then : {k m n : ℕ} {P Q R : Type 0} → Fine k m P → Fine m n Q → (P → Q → R) → Fine k n R
fine_then (more_ends l) q f = let h = fine_le q in more_ends (omega arith)
fine_then (as_many e p) (more_ends l) f = more_ends (omega arith)
fine_then (as_many e p) (as_many d q) f = as_many (d ∙ e) (f p q)

pub fine_as : {k m n : ℕ} {P Q : Type 0} → n ≡ m → (P → Q) → Fine k m P → Fine k n Q
fine_as e f (more_ends l) = more_ends (omega arith)
fine_as e f (as_many d p) = as_many (e ∙ d) (f p)

pub record Pushes (w : Grows) (vs : Stack) : Type 0 where
  pub push : (X : List Shown) → Fine (ends X) (ends (w X)) (valued (w X) ≡ vs ++ valued X)

pub steady : {w : Grows} {vs : Stack} → Pushes w vs → (X : List Shown) → ends X ≤ ends (w X)
steady p X = fine_le (p.push X)

infixr 60 ◌⊳◌
-- one behind the other
pub ◌⊳◌ : {w u : Grows} {vs us : Stack} → Pushes w vs → Pushes u us → Pushes (λ X. w (u X)) (vs ++ us)
◌⊳◌ {w} {u} {vs} {us} p q = record {
  push = λ X. fine_then (q.push X) (p.push (u X)) (λ e d. d ∙ (ap (λ z. vs ++ z) e ∙ sym (append_assoc vs us (valued X))));
}

pub signs : (w : Word) → Pushes (word w) (sign (kinds.Word w) ∷ [])
signs w = record { push = λ X. as_many refl refl }

pub marks : (w : Word) (p : Place) → Pushes (mark w p) (marked (kinds.Word w) p ∷ [])
marks w p = record { push = λ X. as_many refl refl }

pub names : (n : Name) → Pushes (name n) (marked (kinds.Name n.text) n.place ∷ [])
names n = record { push = λ X. as_many refl refl }

pub shows : (x : Shown) (v : Value) → ((X : List Shown) → ends (x ∷ X) ≡ ends X) → ((X : List Shown) → valued (x ∷ X) ≡ v ∷ valued X) → Pushes (λ X. x ∷ X) (v ∷ [])
shows x v e d = record { push = λ X. as_many (e X) (d X) }

-- a form, whose value is made of those of its symbols
pub formed : (n : Part) (f : List Symbol) (v : Value) → ((k : ℕ) → ends_of n f k ≡ k) → {w : Grows} {vs : Stack} → Pushes w vs → ((s : Stack) → part_step n f (vs ++ s) ≡ v ∷ s)
    → Pushes (λ X. form n f ∷ w X) (v ∷ [])
formed n f v e {w} {vs} p d = record {
  push = λ X. fine_as (e (ends (w X))) (λ q. ap (part_step n f) q ∙ d (valued X)) (p.push X);
}

-- a form without symbols
pub left_out : (n : Part) (v : Value) → ((k : ℕ) → ends_of n [] k ≡ k) → ((s : Stack) → part_step n [] s ≡ v ∷ s) → Pushes (λ X. form n [] ∷ X) (v ∷ [])
left_out n v e d = record { push = λ X. as_many (e (ends X)) (d (valued X)) }

-- what is put in front of a list
pub record Conses (w : Grows) (b : Bare) : Type 0 where
  pub cons : (u : Grows) (l : Value) → Pushes u (l ∷ []) → Pushes (λ X. w (u X)) (tree (Bare.more b (list_in l)) ∷ [])

pub formed_cons : (n : Part) (f : List Symbol) (b : Bare) → ((k : ℕ) → ends_of n f k ≡ k) → {w : Grows} {vs : Stack} → Pushes w vs
    → ((l : Value) (s : Stack) → part_step n f ((vs ++ (l ∷ [])) ++ s) ≡ tree (Bare.more b (list_in l)) ∷ s) → Conses (λ X. form n f ∷ w X) b
formed_cons n f b e {w} {vs} p d = record {
  cons = λ u l q. formed n f (tree (Bare.more b (list_in l))) e (p ⊳ q) (d l);
}

-- each of a list is so, with what it is
pub data EachOf {A : Type 0} (P : A → Bare → Type 0) : List A → List Bare → Type 0 where
  none : EachOf P [] []
  and_one : {x : A} {b : Bare} {xs : List A} {bs : List Bare} → P x b → EachOf P xs bs → EachOf P (x ∷ xs) (b ∷ bs)

abbrev pub rest_of : List Bare → Value
rest_of [] = nothing
rest_of (b ∷ bs) = tree (listed (b ∷ bs))

pub list_rest : (bs : List Bare) → list_in (rest_of bs) ≡ listed bs
list_rest [] = refl
list_rest (b ∷ bs) = refl

pub rests : {A : Type 0} (f : A → Grows) {xs : List A} {bs : List Bare} → EachOf (λ x b. Conses (f x) b) xs bs → (u : Grows) → Pushes u (nothing ∷ [])
    → Pushes (λ X. each f xs (u X)) (rest_of bs ∷ [])
rests f none u p = p
rests f (and_one {x} {b} {xs} {bs} c cs) u p =
    subst (λ z. Pushes (λ X. f x (each f xs (u X))) (tree (Bare.more b z) ∷ [])) (list_rest bs) (c.cons (λ X. each f xs (u X)) (rest_of bs) (rests f cs u p))
