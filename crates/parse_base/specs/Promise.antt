-- What a reader promises: that items of the grammar were read for sure and how they are written, or that reading surely stops.
-- Definitions of this project.
use Rattle.std.specs.Prelude.{ℕ, Bool, List, [], ◌∷◌, ◌≡◌, ◌≤◌, length}
use Rattle.comet_syntax.specs.declared.token.Token.{Token}
use Rattle.comet_syntax.specs.declared.stop.FormCause.{FormCause}
use Rattle.comet_syntax.specs.Grammar.Kinds.{Kind, kind}
use Rattle.comet_syntax.specs.Grammar.Symbols.{Part, Symbol}
use Rattle.comet_syntax.specs.Grammar.Alternatives.{alternatives}
use Rattle.comet_syntax.specs.Derivation.{Item, want, part, push, OneOf, MayTake}
use Rattle.comet_syntax.specs.Written.Shown.{Shown, form, shown}
use Rattle.parse_base.specs.declared.stop.Stop.{Stop}
use Rattle.parse_base.specs.declared.stop.Stop.TheVariants.{Fault, NoMemory}
use Rattle.parse_base.specs.Reading.{MustTake, Stops}

-- what is read for sure, as it is written
pub data Carries (limit : ℕ) : List Item → List Token → List Shown → List Item → List Token → Type 0 where
  waits : {K : List Item} {ts : List Token} → Carries limit K ts [] K ts
  gains : {m : Bool} {k : Kind} {K K' : List Item} {t : Token} {ts rest : List Token} {tree : List Shown} → kind t ≡ k
      → Carries limit K ts tree K' rest → Carries limit (want m k ∷ K) (t ∷ ts) (shown m t ∷ tree) K' rest
  settles : {n : Part} {d : ℕ} {K K' : List Item} {ts rest : List Token} {tree : List Shown} (body : List Symbol) → d ≤ limit
      → OneOf (alternatives n) body → MayTake n body ts → MustTake n body ts
      → Carries limit (push body d K) ts tree K' rest → Carries limit (part n d ∷ K) ts (form n body ∷ tree) K' rest

-- what is read for sure leads to items where reading surely stops
pub record Halts (limit : ℕ) (K : List Item) (ts : List Token) (left : ℕ) (c : FormCause) : Type 0 where
  pub tree : List Shown
  pub items : List Item
  pub rest : List Token
  pub leads : Carries limit K ts tree items rest
  pub stops : Stops limit items rest c
  pub left_is : left ≡ length rest

-- Reading the symbols stops where so many tokens are left, whatever stands behind. Memory may run out at any time.
pub data Fails (limit : ℕ) (body : List Symbol) (d : ℕ) (ts : List Token) : Stop → Type 0 where
  halts : {left : ℕ} {c : FormCause} → ((K : List Item) → Halts limit (push body d K) ts left c) → Fails limit body d ts (Fault left c)
  no_memory : Fails limit body d ts NoMemory
