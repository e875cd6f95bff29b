-- What a tree keeps of the derivation of its tokens: which form each part has, each token, and of some tokens the place.
-- A rule of this project.
use Rattle.std.specs.Prelude.{Bool, true, false, List, [], ◌∷◌}
use Rattle.cbl_base.specs.declared.place.Place.{Place}
use Rattle.comet_syntax.specs.declared.token.Token.{Token}
use Rattle.comet_syntax.specs.declared.token.TokenKind.{TokenKind}
use Rattle.comet_syntax.specs.declared.token.TokenKind.TheVariants as kinds
use Rattle.comet_syntax.specs.declared.token.Word.{Word}
use Rattle.comet_syntax.specs.declared.tree.expressions.Name.{Name}
use Rattle.comet_syntax.specs.Grammar.Symbols.{Part, Symbol}
use Rattle.comet_syntax.specs.Derivation.{Event, chose, read}

pub data Shown : Type 0 where
  -- a part has this form
  form : Part → List Symbol → Shown
  -- a token
  plain : TokenKind → Shown
  -- a token at its place
  placed : TokenKind → Place → Shown

abbrev pub shown : Bool → Token → Shown
shown false t = plain t.kind
shown true t = placed t.kind t.place

-- what is kept of a derivation
abbrev pub kept : List Event → List Shown
kept [] = []
kept (chose n f ∷ events) = form n f ∷ kept events
kept (read m t ∷ events) = shown m t ∷ kept events

-- A part of a tree, written in front of what stands behind it.
abbrev pub Grows : Type 0
Grows = List Shown → List Shown

-- one after the other
abbrev pub each : {A : Type 0} → (A → Grows) → List A → Grows
each f [] behind = behind
each f (x ∷ xs) behind = f x (each f xs behind)

abbrev pub word : Word → Grows
word w behind = plain (kinds.Word w) ∷ behind

abbrev pub mark : Word → Place → Grows
mark w place behind = placed (kinds.Word w) place ∷ behind

abbrev pub name : Name → Grows
name n behind = placed (kinds.Name n.text) n.place ∷ behind
