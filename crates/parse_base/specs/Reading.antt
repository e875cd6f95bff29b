-- What is read for sure, and where reading stops for sure: whatever stands behind, the next token leaves no other way.
-- Definitions of this project, for the promises of a reader.
use Rattle.std.specs.Prelude.{ℕ, Bool, true, false, List, [], ◌∷◌, ◌+◌, ◌≡◌, ◌≤◌}
use Rattle.comet_syntax.specs.declared.token.Token.{Token}
use Rattle.comet_syntax.specs.declared.stop.FormCause.{FormCause}
use Rattle.comet_syntax.specs.declared.stop.FormCause.TheVariants.{Unexpected, UnexpectedEnd, TooDeep}
use Rattle.comet_syntax.specs.Grammar.Kinds.{Kind, kind, next_in}
use Rattle.comet_syntax.specs.Grammar.Symbols.{Part, Symbol, token, same, deeper, default}
use Rattle.comet_syntax.specs.Grammar.Alternatives.{alternatives}
use Rattle.comet_syntax.specs.Grammar.First.{first}
use Rattle.comet_syntax.specs.Derivation.{Item, want, part, push, Event, chose, read, OneOf, MayTake}

-- whether a form of a part goes with the next token
abbrev pub fits : Part → List Symbol → List Token → Bool
fits n [] ts = true
fits n (token m k ∷ body) ts = next_in (k ∷ []) ts
fits n (same m ∷ body) ts = next_in (first m) ts
fits n (default c m ∷ body) ts = true
fits n (deeper m ∷ body) ts = next_in (first m) ts

-- no other form of the part goes with the next token
abbrev pub MustTake : Part → List Symbol → List Token → Type 0
MustTake n body ts = (other : List Symbol) → OneOf (alternatives n) other → MayTake n other ts → fits n other ts ≡ true → other ≡ body

-- What is read for sure: from these items at these tokens to those at those.
pub data Leads (limit : ℕ) : List Item → List Token → List Event → List Item → List Token → Type 0 where
  stays : {K : List Item} {ts : List Token} → Leads limit K ts [] K ts
  gets : {m : Bool} {k : Kind} {K K' : List Item} {t : Token} {ts rest : List Token} {tree : List Event} → kind t ≡ k
      → Leads limit K ts tree K' rest → Leads limit (want m k ∷ K) (t ∷ ts) (read m t ∷ tree) K' rest
  picks : {n : Part} {d : ℕ} {K K' : List Item} {ts rest : List Token} {tree : List Event} (body : List Symbol) → d ≤ limit
      → OneOf (alternatives n) body → MayTake n body ts → MustTake n body ts
      → Leads limit (push body d K) ts tree K' rest → Leads limit (part n d ∷ K) ts (chose n body ∷ tree) K' rest

abbrev pub cause_at : List Token → FormCause
cause_at [] = UnexpectedEnd
cause_at (t ∷ ts) = Unexpected

-- whether a form is empty, or one for all other tokens
abbrev pub is_default : List Symbol → Bool
is_default [] = true
is_default (default c m ∷ b) = true
is_default (token q k ∷ b) = false
is_default (same m ∷ b) = false
is_default (deeper m ∷ b) = false

-- a part that is never empty
abbrev pub IsSolid : Part → Type 0
IsSolid n = (b : List Symbol) → OneOf (alternatives n) b → is_default b ≡ true → ⊥

-- whatever stands behind, nothing of these items is read at these tokens
pub data Stops (limit : ℕ) : List Item → List Token → FormCause → Type 0 where
  wrong : {m : Bool} {k : Kind} {K : List Item} {ts : List Token} → next_in (k ∷ []) ts ≡ false → Stops limit (want m k ∷ K) ts (cause_at ts)
  closed : {n : Part} {d : ℕ} {K : List Item} {ts : List Token} → IsSolid n → next_in (first n) ts ≡ false → Stops limit (part n d ∷ K) ts (cause_at ts)
  deep : {n : Part} {d : ℕ} {K : List Item} {ts : List Token} → next_in (first n) ts ≡ true → d ≡ limit + 1 → Stops limit (part n d ∷ K) ts TooDeep
  over : {t : Token} {ts : List Token} → Stops limit [] (t ∷ ts) Unexpected
