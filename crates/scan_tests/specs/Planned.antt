-- Candidates as a list plans them: each is skipped, or is kept with a key, or meets a fault, and costs one unit. Behind
-- the list all are skipped.
use Rattle.std.specs.Prelude.{ℤ, Option, Some, None, Result, Ok, Err}
use Rattle.cbl_base.specs.declared.faults.RunFault.{RunFault}
use Rattle.cbl_base.specs.declared.place.Place.{Place}
use Rattle.ls_select.specs.Candidates.{Candidate, Ending, skipped, kept, faulty}

abbrev pub here : Place
here = record { line = 1; col = 1 }

abbrev pub ending_of : Option (Result (Option ℤ) RunFault) → Ending
ending_of None = skipped
ending_of (Some (Ok None)) = skipped
ending_of (Some (Ok (Some key))) = kept key
ending_of (Some (Err fault)) = faulty here fault

abbrev pub candidate_of : Option (Result (Option ℤ) RunFault) → Candidate
candidate_of plan = record { cost = 1; ending = ending_of plan; spent_at = λ left. here }
