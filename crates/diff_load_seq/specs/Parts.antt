-- A sum of parts, each a number or a fault: the sum of the numbers, and how many parts have none. It is
-- there where each part is a number and the sum fits 64 bits. A rule of this project.
use Rattle.std.specs.Prelude.{◌≡◌, ℕ, ℤ, pos, neg_ℤ, ◌+◌, ◌+ℤ◌, ◌-ℤ◌, ◌≤◌, ◌<◌, ◌≤ℤ◌, ◌^◌, ◌==◌, Bool, true, false, List, All, FitsSigned, length, count_by, Result, Ok, Err, if◌then◌else◌}
use Rattle.std.specs.Int.{w64}
use Rattle.cbl_base.specs.Arithmetic.{exact}
use Rattle.cbl_base.specs.Totals.{total_by}
use Rattle.cbl_base.specs.declared.faults.RunFault.{RunFault}
use Rattle.cbl_base.specs.declared.faults.RunFault.TheVariants.{Overflow}
use Rattle.diff_load_seq.specs.declared.running_sum.RunningSum.{RunningSum}

abbrev pub Part : Type 0
Part = Result ℤ RunFault

-- the number of a part, 0 for a fault
abbrev pub number_in : Part → ℤ
number_in (Ok v) = v
number_in (Err _) = pos 0

abbrev pub is_fault : Part → Bool
is_fault (Ok _) = false
is_fault (Err _) = true

-- 1 for a fault
abbrev pub fault_in : Part → ℕ
fault_in part = if is_fault part then 1 else 0

abbrev pub sum_of : List Part → ℤ
sum_of parts = total_by number_in parts

abbrev pub faults_in : List Part → ℕ
faults_in parts = count_by is_fault parts

-- the sum where each part is a number and the sum fits, and an overflow else
abbrev pub joined : List Part → Part
joined parts = if faults_in parts == 0 then exact (sum_of parts) else Err Overflow

-- the same of a sum that is kept
abbrev pub joined_of : RunningSum → Part
joined_of running = if running.faults == 0 then exact running.sum else Err Overflow

-- this is the sum of the parts, each of which fits 64 bits, and of which there are few enough for 128
pub record IsSumOf (running : RunningSum) (parts : List Part) : Type 0 where
  pub sum : running.sum ≡ sum_of parts
  pub faults : running.faults ≡ faults_in parts
  pub each : All (λ part. FitsSigned w64 (number_in part)) parts
  pub few : length parts < 2 ^ 63

-- a sum has room for one part in the place of another
pub record HasRoom (running : RunningSum) (old : Part) : Type 0 where
  pub low : neg_ℤ (pos (2 ^ 126)) ≤ℤ running.sum
  pub high : running.sum ≤ℤ pos (2 ^ 126)
  pub there : fault_in old ≤ running.faults
  pub few : running.faults < 2 ^ 63

-- a sum after the part `old` gave way to the part `new`
pub record IsReplaced (running : RunningSum) (old new : Part) (after : RunningSum) : Type 0 where
  pub sum : after.sum ≡ ((running.sum -ℤ number_in old) +ℤ number_in new)
  pub faults : (after.faults + fault_in old) ≡ (running.faults + fault_in new)
