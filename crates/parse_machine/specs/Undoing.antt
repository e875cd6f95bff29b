-- Which items a listing leaves to come, and which item each of its events answers. So a listing can be undone from its end.
-- Definitions of this project.
use Rattle.std.specs.Prelude.{ℕ, Bool, true, false, List, [], ◌∷◌, ◌≡◌}
use Rattle.comet_syntax.specs.declared.token.TokenKind.{TokenKind}
use Rattle.comet_syntax.specs.Grammar.Kinds.{kind_of}
use Rattle.comet_syntax.specs.Grammar.Symbols.{Part}
use Rattle.comet_syntax.specs.Derivation.{Item, want, part, push}
use Rattle.comet_syntax.specs.Written.Shown.{Shown, form, plain, placed}

-- what is to come behind one event: for a part its form, for a token nothing
abbrev pub after : Shown → List Item → List Item
after (form n b) (part m d ∷ K) = push b d K
after (plain k) (want m j ∷ K) = K
after (placed k p) (want m j ∷ K) = K
after _ K = []

abbrev pub items_after : List Shown → List Item → List Item
items_after [] K = K
items_after (x ∷ L) K = items_after L (after x K)

-- this part is to come next
pub record NeedsPart (n : Part) (K : List Item) : Type 0 where
  pub depth : ℕ
  pub behind : List Item
  pub is : K ≡ part n depth ∷ behind

-- a token of this kind is to come next
pub record NeedsToken (m : Bool) (k : TokenKind) (K : List Item) : Type 0 where
  pub behind : List Item
  pub is : K ≡ want m (kind_of k) ∷ behind

-- what has to come next where this event comes
abbrev pub Needs : Shown → List Item → Type 0
Needs (form n b) K = NeedsPart n K
Needs (plain k) K = NeedsToken false k K
Needs (placed k p) K = NeedsToken true k K
