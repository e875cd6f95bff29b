-- The candidates that each worker scans, and what its scan gives. A rule of this project.
use Rattle.std.specs.Prelude.{◌≡◌, ℕ, ◌+◌, ◌-◌, ◌*◌, ◌/◌, List, [], ◌∷◌, Result, IfOk, map, ⊤}
use Rattle.std.specs.List.{range_with_len}
use Rattle.cbl_base.specs.declared.faults.NoMemory.{NoMemory}
use Rattle.ls_select.specs.Candidates.{Candidate}
use Rattle.ls_select.specs.Parts.{part_under}
use Rattle.ls_select.specs.declared.part.Part.{Part}
use Rattle.ls_select.specs.declared.want.Want.{Want}

-- the number of a worker's first candidate, where candidates and workers are numbered from 0; its last one is that
-- before the next worker's first
abbrev pub first_of_worker : ℕ → ℕ → ℕ → ℕ
first_of_worker candidates workers worker = worker * candidates / workers

-- the candidates from a number on and below another
abbrev pub candidates_between : (ℕ → Candidate) → ℕ → ℕ → List Candidate
candidates_between candidate from end = map candidate (range_with_len from (end - from))

-- this is the part of these candidates under a fuel
abbrev pub IsScanOf : (ℕ → Candidate) → Want → ℕ → ℕ → ℕ → Part → Type 0
IsScanOf candidate want fuel from end part =
    part ≡ part_under want from fuel (candidates_between candidate from end)

-- these are the parts of the workers from one on, but for those that lacked memory
abbrev pub AreScans : (ℕ → Candidate) → Want → ℕ → ℕ → ℕ → ℕ → List (Result Part NoMemory) → Type 0
AreScans candidate want fuel candidates workers worker [] = ⊤
AreScans candidate want fuel candidates workers worker (one ∷ rest) =
    IfOk one (λ part.
    IsScanOf candidate want fuel (first_of_worker candidates workers worker)
    (first_of_worker candidates workers (worker + 1)) part)
    × AreScans candidate want fuel candidates workers (worker + 1) rest
