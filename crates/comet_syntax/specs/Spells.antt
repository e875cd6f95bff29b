-- A program spells a list of tokens where the derivation that it stands for is one of all the tokens, and no part in it is deeper than a limit.
-- A rule of this project.
use Rattle.std.specs.Prelude.{ℕ, List, ◌≡◌}
use Rattle.comet_syntax.specs.declared.token.Token.{Token}
use Rattle.comet_syntax.specs.declared.tree.program.Program.{Program}
use Rattle.comet_syntax.specs.Derivation.{Event}
use Rattle.comet_syntax.specs.Refusal.{DerivesAll, DerivesAny}
use Rattle.comet_syntax.specs.Written.Shown.{kept}
use Rattle.comet_syntax.specs.Written.Programs.{written_program}

abbrev pub Spells : ℕ → Program → List Token → Type 0
Spells limit program ts = (events : List Event) × DerivesAll limit events ts × (kept events ≡ written_program program)

-- at any depth
abbrev pub SpellsAtAnyDepth : Program → List Token → Type 0
SpellsAtAnyDepth program ts = (events : List Event) × DerivesAny events ts × (kept events ≡ written_program program)
