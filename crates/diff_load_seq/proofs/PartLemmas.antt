-- A running sum of parts has room for one more, and is that of the parts once one was added or replaced.
use Rattle.std.proofs.Common.{◌≡◌, ℕ, ◌+◌, ◌*◌, ◌<◌, ◌≤◌, ◌^◌, ℤ, pos, neg_ℤ, ◌+ℤ◌, ◌-ℤ◌, ◌≤ℤ◌, List, [], ◌∷◌, ◌++◌, length, get_or, set, map, ap, ◌∙◌, arith, w64, length-append, cond, Err, ◌==◌}
use Rattle.std.specs.Prelude.{FitsSigned, All, Ok}
use Rattle.std.proofs.lemmas.Int.{ints}
use Rattle.std.proofs.lemmas.List.{map-set, length-map, length-set, get_or-map}
use Rattle.std.proofs.lemmas.List.Elements.{All-nil, All-cons, All-head, All-tail, All-set, All-append}
use Rattle.std.proofs.lemmas.List.Sums.{sum_by-set, sum_by-append, count_by-le-length}
use Rattle.cbl_base.specs.Arithmetic.{exact}
use Rattle.cbl_base.specs.declared.faults.RunFault.TheVariants.{Overflow}
use Rattle.cbl_base.specs.Totals.{total}
use Rattle.cbl_base.proofs.TotalLemmas.{total-set, total_by-append}
use Rattle.diff_load_seq.specs.Parts.{Part, number_in, is_fault, fault_in, sum_of, faults_in, joined, joined_of, IsSumOf, HasRoom, IsReplaced}
use Rattle.diff_load_seq.specs.declared.running_sum.RunningSum.{RunningSum}

-- a part of 64 bits
abbrev pub Fits : Part → Type 0
Fits part = FitsSigned w64 (number_in part)

bounds : (x : ℤ) → FitsSigned w64 x → (neg_ℤ (pos (2 ^ 63)) ≤ℤ x) × (x ≤ℤ pos (2 ^ 63))
bounds x fits = (omega (arith, ints, fits), omega (arith, ints, fits))

sum_bounds : (parts : List Part) → All Fits parts → (neg_ℤ (pos (2 ^ 63 * length parts)) ≤ℤ sum_of parts) × (sum_of parts ≤ℤ pos (2 ^ 63 * length parts))
sum_bounds [] all = (omega (arith, ints), omega (arith, ints))
sum_bounds (p ∷ parts) all =
    let b = bounds (number_in p) (All-head Fits p parts all) in
    let t = sum_bounds parts (All-tail Fits p parts all) in
    (omega (arith, ints, b.0, t.0), omega (arith, ints, b.1, t.1))

-- a part is a fault only where there are faults
fault_there : (parts : List Part) (k : ℕ) (d : Part) → k < length parts → fault_in (get_or parts k d) ≤ faults_in parts
fault_there parts k d within = omega (arith, sum_by-set fault_in parts k (Ok (pos 0)) d within)

pub has_room : (running : RunningSum) (parts : List Part) (k : ℕ) (d old : Part) → IsSumOf running parts → k < length parts → get_or parts k d ≡ old → HasRoom running old
has_room running parts k d old is within at =
    let b = sum_bounds parts is.each in
    let there = fault_there parts k d within in
    let n = is.few in
    record {
      low = omega (arith, ints, b.0, n, is.sum);
      high = omega (arith, ints, b.1, n, is.sum);
      there = omega (arith, there, is.faults, ap fault_in at);
      few = omega (arith, n, is.faults, count_by-le-length is_fault parts);
    }

pub has_room_more : (running : RunningSum) (parts : List Part) → IsSumOf running parts → HasRoom running (Ok (pos 0))
has_room_more running parts is =
    let b = sum_bounds parts is.each in
    let n = is.few in
    record {
      low = omega (arith, ints, b.0, n, is.sum);
      high = omega (arith, ints, b.1, n, is.sum);
      there = omega arith;
      few = omega (arith, n, is.faults, count_by-le-length is_fault parts);
    }

pub sum_replaced : (running after : RunningSum) (parts : List Part) (k : ℕ) (d old new : Part) → IsSumOf running parts → k < length parts → get_or parts k d ≡ old → Fits new
    → IsReplaced running old new after → IsSumOf after (set parts k new)
sum_replaced running after parts k d old new is within at fits by = record {
  sum =
      let at_map : get_or (map number_in parts) k (pos 0) ≡ number_in old = get_or-map number_in parts k d (pos 0) within ∙ ap number_in at in
      let whole = total-set (map number_in parts) k (number_in new) (pos 0) (omega (arith, within, length-map parts number_in)) in
      let same : sum_of (set parts k new) ≡ ((sum_of parts -ℤ number_in old) +ℤ number_in new) = ap total (map-set number_in parts k new) ∙ whole ∙ ap (λ z. (sum_of parts -ℤ z) +ℤ number_in new) at_map in
      omega (arith, ints, by.sum, is.sum, same);
  faults = omega (arith, by.faults, is.faults, ap fault_in at, sum_by-set fault_in parts k new d within);
  each = All-set Fits parts k new fits is.each;
  few = omega (arith, is.few, length-set parts k new);
}

pub sum_pushed : (running after : RunningSum) (parts : List Part) (new : Part) → IsSumOf running parts → length parts + 1 < 2 ^ 63 → Fits new
    → IsReplaced running (Ok (pos 0)) new after → IsSumOf after (parts ++ new ∷ [])
sum_pushed running after parts new is few fits by = record {
  sum = omega (arith, ints, by.sum, is.sum, total_by-append number_in parts (new ∷ []));
  faults = omega (arith, by.faults, is.faults, sum_by-append fault_in parts (new ∷ []));
  each = All-append Fits parts (new ∷ []) is.each (All-cons Fits new [] fits (All-nil Fits));
  few = omega (arith, few, length-append parts (new ∷ []));
}

-- what is kept gives the sum of the parts
pub joined_kept : (running : RunningSum) (parts : List Part) → IsSumOf running parts → joined_of running ≡ joined parts
joined_kept running parts is = ap (λ n. cond (n == 0) (exact running.sum) (Err Overflow)) is.faults ∙ ap (λ z. cond (faults_in parts == 0) (exact z) (Err Overflow)) is.sum
