-- Files over memory and their rule: which read fails.
use Rattle.std.specs.Prelude.{◌==◌, ◌++◌, ◌||◌, ℕ, Bool, true, false, List, [], ◌∷◌, Result, Err, if◌then◌else◌, is_none}
use Rattle.std.specs.FinMap as map
use Rattle.std.specs.List.{list_any}
use Rattle.cbl_io.specs.Faults.{next_count}
use Rattle.cbl_io.specs.Held.{Held}
use Rattle.cbl_io.specs.declared.files.ReadStop.{ReadStop}
use Rattle.cbl_io.specs.declared.files.ReadStop.TheVariants.{Failed}

pub record MemFilesState : Type 0 where
  -- each name with its bytes; of equal names the first counts
  pub entries : List (List ℕ × List ℕ)
  -- the numbers of the reads that fail, from 0
  pub failing : List ℕ
  -- how many reads there were
  pub reads : ℕ
  -- the names whose reads failed, in order
  pub failed : List (List ℕ)

abbrev pub held_of : MemFilesState → Held
held_of files = map.from_entries files.entries

-- the next read of a name fails: its number is listed, or the name isn't held
abbrev pub read_fails : MemFilesState → List ℕ → Bool
read_fails files name =
    list_any (λ number. number == files.reads) files.failing || is_none (map.get (held_of files) name)

-- whether a read answered that it failed
abbrev pub is_failed : {T : Type 0} → Result T ReadStop → Bool
is_failed (Err Failed) = true
is_failed _ = false

-- the files after a read of a name
abbrev pub after_read : MemFilesState → List ℕ → Bool → MemFilesState
after_read files name failed =
    record files {
      reads = next_count files.reads;
      failed = if failed then files.failed ++ name ∷ [] else files.failed;
    }
