-- What a listing of events shows of the tokens that it reads, and what the machine promises of its listing.
-- Definitions of this project.
use Rattle.std.specs.Prelude.{ℕ, List, [], ◌∷◌, ◌+◌, ◌≡◌, length}
use Rattle.comet_syntax.specs.declared.token.Token.{Token}
use Rattle.comet_syntax.specs.Derivation.{Event as Step}
use Rattle.comet_syntax.specs.Refusal.{start, Refused, DerivesAll}
use Rattle.comet_syntax.specs.Written.Shown.{Shown, form, shown, kept}
use Rattle.parse_base.specs.Promise.{Carries}
use Rattle.parse_base.specs.declared.stop.Stop.{Stop}
use Rattle.parse_base.specs.declared.stop.Stop.TheVariants as stops
use Rattle.parse_machine.specs.declared.event.Event.{Event}
use Rattle.parse_machine.specs.declared.event.Event.TheVariants as events
use Rattle.parse_machine.specs.Forms.{part_in, body_in}

-- how many tokens were read
abbrev pub reads : List Event → ℕ
reads [] = 0
reads (events.Chose f ∷ log) = reads log
reads (events.Read m ∷ log) = 1 + reads log

-- the events, with the tokens that were read in their order
abbrev pub shown_all : List Event → List Token → List Shown
shown_all [] ts = []
shown_all (events.Chose f ∷ log) ts = form (part_in f) (body_in f) ∷ shown_all log ts
shown_all (events.Read m ∷ log) [] = []
shown_all (events.Read m ∷ log) (t ∷ ts) = shown m t ∷ shown_all log ts

-- The listing is kept of a derivation of all the tokens, with no part deeper than the limit. Each token was read, and for sure.
pub record Lists (limit : ℕ) (ts : List Token) (log : List Event) : Type 0 where
  pub steps : List Step
  pub derives : DerivesAll limit steps ts
  pub is : kept steps ≡ shown_all log ts
  pub all_read : reads log ≡ length ts
  pub run : Carries limit start ts (shown_all log ts) [] []

-- The tokens are refused where so many are left. Memory may run out at any time.
abbrev pub IsStop : ℕ → List Token → Stop → Type 0
IsStop limit ts (stops.Fault left cause) = (before : List Token) × (rest : List Token) × (left ≡ length rest) × Refused limit ts before rest cause
IsStop limit ts stops.NoMemory = Unit {0}
