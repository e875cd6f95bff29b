-- A sink over memory and its rule: which write fails, and how many bytes another takes.
use Rattle.std.specs.Prelude.{◌==◌, ◌-◌, ◌++◌, ◌&&◌, ◌||◌, ℕ, Bool, List, length, take, min, nat_lt, if◌then◌else◌}
use Rattle.std.specs.List.{list_any}
use Rattle.cbl_io.specs.Faults.{next_count}

pub record MemSinkState : Type 0 where
  -- all bytes so far
  pub bytes : List ℕ
  -- how many bytes it takes in all
  pub room : ℕ
  -- how many bytes one write takes at most
  pub most : ℕ
  -- the numbers of the writes that fail, from 0
  pub failing : List ℕ
  -- how many writes there were
  pub writes : ℕ
  -- how many of them failed
  pub faults : ℕ

abbrev pub room_left : MemSinkState → ℕ
room_left sink = sink.room - length sink.bytes

-- the next write fails: its number is listed, or there is a byte to take and no room for one
abbrev pub write_fails : MemSinkState → List ℕ → Bool
write_fails sink piece =
    list_any (λ number. number == sink.writes) sink.failing || (nat_lt 0 (length piece) && (room_left sink == 0))

-- how many bytes of a piece the next write takes, where it doesn't fail
abbrev pub taken_of : MemSinkState → List ℕ → ℕ
taken_of sink piece = min (length piece) (min sink.most (room_left sink))

-- the sink after the next write
abbrev pub after_write : MemSinkState → List ℕ → MemSinkState
after_write sink piece =
    if write_fails sink piece
    then record sink { writes = next_count sink.writes; faults = next_count sink.faults }
    else record sink { writes = next_count sink.writes; bytes = sink.bytes ++ take (taken_of sink piece) piece }
