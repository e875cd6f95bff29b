-- A derivation of tokens, from the left: what is still to come is a list of tokens and of parts with their depths; a part is replaced by one of its forms, a token is read.
-- The words are the textbooks'; that an optional part is left out only where the next token can't begin it is a rule of the language.
use Rattle.std.specs.Prelude.{ℕ, Bool, true, false, List, [], ◌∷◌, ◌+◌, ◌≡◌}
use Rattle.comet_syntax.specs.declared.token.Token.{Token}
use Rattle.comet_syntax.specs.Grammar.Kinds.{Kind, kind, next_in}
use Rattle.comet_syntax.specs.Grammar.Symbols.{Part, Symbol, token, same, deeper, default}
use Rattle.comet_syntax.specs.Grammar.Alternatives.{alternatives}
use Rattle.comet_syntax.specs.Grammar.First.{first}

-- what is still to come: a token, and whether the tree keeps its place; or a part at its depth
pub data Item : Type 0 where
  want : Bool → Kind → Item
  part : Part → ℕ → Item

abbrev pub depth_in : Bool → ℕ → ℕ
depth_in false d = d
depth_in true d = d + 1

-- the symbols of a form at a depth, and then what stands behind it
abbrev pub push : List Symbol → ℕ → List Item → List Item
push [] d items = items
push (token m k ∷ form) d items = want m k ∷ push form d items
push (same n ∷ form) d items = part n d ∷ push form d items
push (deeper n ∷ form) d items = part n (d + 1) ∷ push form d items
push (default b n ∷ form) d items = part n (depth_in b d) ∷ push form d items

-- what a derivation consists of, in its order: which form each part has, and each token
pub data Event : Type 0 where
  chose : Part → List Symbol → Event
  read : Bool → Token → Event

pub data OneOf {A : Type 0} : List A → A → Type 0 where
  here : {a : A} {xs : List A} → OneOf (a ∷ xs) a
  there : {a b : A} {xs : List A} → OneOf xs a → OneOf (b ∷ xs) a

-- A part is left out, or has its form for all other tokens, only where the next token begins no other form.
abbrev pub MayTake : Part → List Symbol → List Token → Type 0
MayTake n [] ts = next_in (first n) ts ≡ false
MayTake n (default b m ∷ form) ts = next_in (first n) ts ≡ false
MayTake n (token m k ∷ form) ts = Unit {0}
MayTake n (same m ∷ form) ts = Unit {0}
MayTake n (deeper m ∷ form) ts = Unit {0}

-- The derivation of the tokens from the items, up to its end. Each depth in it is allowed.
pub data Derives (Allow : ℕ → Type 0) (End : List Item → List Token → Type 0) : List Item → List Event → List Token → Type 0 where
  ends : {items : List Item} {ts : List Token} → End items ts → Derives Allow End items [] ts
  reads : {m : Bool} {k : Kind} {items : List Item} {t : Token} {events : List Event} {ts : List Token} → kind t ≡ k
      → Derives Allow End items events ts → Derives Allow End (want m k ∷ items) (read m t ∷ events) (t ∷ ts)
  takes : {n : Part} {d : ℕ} {items : List Item} {events : List Event} {ts : List Token} (form : List Symbol) → Allow d
      → OneOf (alternatives n) form → MayTake n form ts
      → Derives Allow End (push form d items) events ts → Derives Allow End (part n d ∷ items) (chose n form ∷ events) ts
