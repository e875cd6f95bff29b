-- When a stop is the refusal of a list of tokens.
-- Definitions of this project.
use Rattle.std.specs.Prelude.{ℕ, List, [], ◌≡◌, length, take, drop}
use Rattle.comet_syntax.specs.declared.stop.FormCause.TheVariants as causes
use Rattle.comet_syntax.specs.declared.token.Token.{Token}
use Rattle.comet_syntax.specs.Refusal.{Refused}
use Rattle.comet_parse.specs.declared.stop.ParseStop.{ParseStop}
use Rattle.comet_parse.specs.declared.stop.ParseStop.TheVariants as refusals

-- The list is refused for this cause, at the token of this number, or behind the last one, which has the number of tokens. Memory may run out at any time.
abbrev pub IsRefusal : ℕ → List Token → ParseStop → Type 0
IsRefusal limit ts (refusals.Fault token causes.UnexpectedEnd) = Refused limit ts ts [] causes.UnexpectedEnd × (token ≡ length ts)
IsRefusal limit ts (refusals.Fault token cause) = Refused limit ts (take token ts) (drop token ts) cause
IsRefusal limit ts refusals.NoMemory = Unit {0}
