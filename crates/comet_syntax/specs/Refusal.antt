-- Which tokens are possible, which are too deep, and how a list of tokens that no tree spells is refused.
-- A token is possible where some cut tree stands for the tokens through it. The list is refused at the first token that isn't possible, or behind the last one; but where some token before begins a part that is too deep, at the first such token.
-- A rule of this project.
use Rattle.std.specs.Prelude.{ℕ, List, [], ◌∷◌, ◌++◌, ◌+◌, ◌≡◌, ◌≤◌, length}
use Rattle.comet_syntax.specs.declared.token.Token.{Token}
use Rattle.comet_syntax.specs.declared.stop.FormCause.{FormCause}
use Rattle.comet_syntax.specs.declared.stop.FormCause.TheVariants.{Unexpected, UnexpectedEnd, TooDeep}
use Rattle.comet_syntax.specs.Grammar.Symbols.{program}
use Rattle.comet_syntax.specs.Derivation.{Item, want, part, Event, Derives}

-- a whole tree: nothing is to come, and no token is left
abbrev pub Whole : List Item → List Token → Type 0
Whole items ts = (items ≡ []) × (ts ≡ [])

-- a cut tree: no token is left, whatever is to come
abbrev pub Broken : List Item → List Token → Type 0
Broken items ts = ts ≡ []

abbrev pub AnyDepth : ℕ → Type 0
AnyDepth d = Unit {0}

-- the last token begins a part that is one deeper than the limit
abbrev pub Deeper : ℕ → List Item → List Token → Type 0
Deeper limit [] ts = ⊥
Deeper limit (want m k ∷ items) ts = ⊥
Deeper limit (part n d ∷ items) ts = (d ≡ limit + 1) × (length ts ≡ 1) × (cut : List Event) × Derives AnyDepth Broken (part n d ∷ []) cut ts

abbrev pub start : List Item
start = part program 0 ∷ []

-- the derivation of a tree, of depth at most the limit, for all the tokens
abbrev pub DerivesAll : ℕ → List Event → List Token → Type 0
DerivesAll limit events ts = Derives (λ d. d ≤ limit) Whole start events ts

-- the derivation of a tree of any depth
abbrev pub DerivesAny : List Event → List Token → Type 0
DerivesAny events ts = Derives AnyDepth Whole start events ts

-- some cut tree, of any depth, stands for the tokens
abbrev pub IsPossible : List Token → Type 0
IsPossible ts = (cut : List Event) × Derives AnyDepth Broken start cut ts

-- some cut tree for the tokens has a part one deeper than the limit that begins at the last token
abbrev pub IsDeepAtLast : ℕ → List Token → Type 0
IsDeepAtLast limit ts = (cut : List Event) × Derives AnyDepth (Deeper limit) start cut ts

abbrev pub NoneDeep : ℕ → List Token → Type 0
NoneDeep limit ts = (front : List Token) (w : Token) (more : List Token) → ts ≡ front ++ (w ∷ more) → IsDeepAtLast limit (front ++ (w ∷ [])) → ⊥

-- no tree of any depth spells the tokens
abbrev pub NoTree : List Token → Type 0
NoTree ts = (events : List Event) → DerivesAny events ts → ⊥

abbrev pub EachPossible : List Token → Type 0
EachPossible ts = (front : List Token) (w : Token) (more : List Token) → ts ≡ front ++ (w ∷ more) → IsPossible (front ++ (w ∷ []))

-- the tokens are refused where these are left
abbrev pub Refused : ℕ → List Token → List Token → List Token → FormCause → Type 0
Refused limit ts before [] UnexpectedEnd = (ts ≡ before) × EachPossible ts × NoTree ts × NoneDeep limit ts
Refused limit ts before (u ∷ more) Unexpected = (ts ≡ before ++ (u ∷ more)) × EachPossible before × (IsPossible (before ++ (u ∷ [])) → ⊥) × NoTree ts × NoneDeep limit before
Refused limit ts before (w ∷ more) TooDeep = (ts ≡ before ++ (w ∷ more)) × EachPossible (before ++ (w ∷ [])) × IsDeepAtLast limit (before ++ (w ∷ [])) × ((events : List Event) → DerivesAll limit events ts → ⊥) × NoneDeep limit before
Refused limit ts before _ _ = ⊥
