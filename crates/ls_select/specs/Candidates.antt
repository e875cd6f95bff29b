-- Candidates, and their scan under a fuel: each in order is scored with what those before it left, and the first that
-- stops ends the scan. Where there is fuel enough, what a candidate costs and how it ends depend on no more. A rule of
-- this project.
use Rattle.std.specs.Prelude.{ℕ, ℤ, ◌+◌, ◌-◌, nat_le, if◌then◌else◌, List, [], ◌∷◌, Option, Some, None}
use Rattle.std.specs.Option.{is_none}
use Rattle.cbl_base.specs.declared.faults.RunFault.{RunFault}
use Rattle.cbl_base.specs.declared.place.Place.{Place}
use Rattle.ls_select.specs.declared.scored.End.{End}
use Rattle.ls_select.specs.declared.scored.End.TheVariants.{Skipped, Kept, Stopped}
use Rattle.ls_select.specs.declared.scored.Scored.{Scored}
use Rattle.ls_select.specs.declared.scored.Stop.{Stop}
use Rattle.ls_select.specs.declared.scored.Stop.TheVariants.{Spent, Fault}

-- how a candidate ends where there is fuel enough
pub data Ending : Type 0 where
  skipped : Ending
  kept : ℤ → Ending
  faulty : Place → RunFault → Ending

-- what scoring a candidate costs, how it ends, and where less fuel is spent
pub record Candidate : Type 0 where
  pub cost : ℕ
  pub ending : Ending
  pub spent_at : ℕ → Place

abbrev pub end_of : Ending → End
end_of skipped = Skipped
end_of (kept key) = Kept key
end_of (faulty place fault) = Stopped (Fault place fault)

-- a candidate that is scored with so much fuel left; where it needs more it counts as one unit more than is left
abbrev pub score : Candidate → ℕ → Scored
score c left =
    if nat_le c.cost left
    then record { cost = c.cost; end = end_of c.ending }
    else record { cost = left + 1; end = Stopped (Spent (c.spent_at left)) }

-- why a candidate stops the scan, if it does
abbrev pub stop_in : End → Option Stop
stop_in Skipped = None
stop_in (Kept key) = None
stop_in (Stopped stop) = Some stop

-- the candidates that are scanned, each as it is scored
abbrev pub scan : List Candidate → ℕ → List Scored
scan [] left = []
scan (c ∷ rest) left =
    score c left ∷ (if is_none (stop_in (score c left).end) then scan rest (left - c.cost) else [])
