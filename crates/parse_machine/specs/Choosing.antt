-- Which form the next token picks, and what is known of a part that comes next.
-- Definitions of this project.
use Rattle.std.specs.Prelude.{ℕ, List, [], ◌∷◌, ◌+◌, ◌≡◌, ◌≤◌, ◌==◌, ◌||◌, ◌⊎◌, true, false, length, Option, None, Some, if◌then◌else◌}
use Rattle.cbl_base.specs.declared.limits.TheConstants.{MAX_NESTING}
use Rattle.comet_syntax.specs.declared.token.Token.{Token}
use Rattle.comet_syntax.specs.Grammar.Kinds.{Kind, kind, next_in}
use Rattle.comet_syntax.specs.Grammar.Heads.{heads}
use Rattle.comet_syntax.specs.Grammar.Symbols.{Part, named_simple, pair_named}
use Rattle.comet_syntax.specs.Grammar.Alternatives.{alternatives}
use Rattle.comet_syntax.specs.Grammar.First.{first}
use Rattle.comet_syntax.specs.Derivation.{OneOf, MayTake}
use Rattle.parse_base.specs.Reading.{MustTake, IsSolid, is_default}
use Rattle.parse_machine.specs.Rows.{Production}

-- the first form that begins with the next token, or that begins with none and so is for all others
abbrev pub picked : List Production → List Token → Option Production
picked [] ts = None
picked (p ∷ ps) ts = if (length p.on == 0) || next_in p.on ts then Some p else picked ps ts

pub record Picks (ps : List Production) (ts : List Token) (p : Production) : Type 0 where
  pub is : picked ps ts ≡ Some p

-- how much deeper than itself a part may go before it comes to a part that is never empty
abbrev pub headroom : Part → ℕ
headroom named_simple = 1
headroom pair_named = 1
headroom n = 0

-- the part is not too deep, or it is one too deep and never empty
abbrev pub CanCome : Part → ℕ → Type 0
CanCome n d = (d + headroom n ≤ MAX_NESTING) ⊎ ((d ≡ MAX_NESTING + 1) × IsSolid n)

-- the part has this form at these tokens, and must have it
pub record Chosen (n : Part) (d : ℕ) (ts : List Token) (p : Production) : Type 0 where
  pub low : d ≤ MAX_NESTING
  pub lower : d + headroom n ≤ MAX_NESTING
  pub of_is : p.of ≡ n
  pub body_is : p.stated ≡ p.body
  pub among : OneOf (alternatives n) p.body
  pub may : MayTake n p.body ts
  pub must : MustTake n p.body ts
  pub how : (next_in (heads p.body) ts ≡ true) ⊎ ((is_default p.body ≡ true) × (next_in (first n) ts ≡ false))

-- the next token has this kind, and these stand behind it
pub record IsNext (ts : List Token) (k : Kind) (rest : List Token) : Type 0 where
  pub next : Token
  pub is : ts ≡ next ∷ rest
  pub kind_is : kind next ≡ k
