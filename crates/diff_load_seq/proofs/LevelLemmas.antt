-- The excesses of levels, and how they change with a level.
use Rattle.std.proofs.Common.{◌≡◌, ℕ, ◌+◌, ◌<◌, ◌^◌, ℤ, pos, negsuc, ◌-ℤ◌, Bool, true, false, cond, ◌&&◌, List, [], ◌∷◌, ◌++◌, length, get_or, set, refl, ap, sym, ◌∙◌, subst, arith, w64, Ok, Err}
use Rattle.std.specs.Prelude.{FitsSigned}
use Rattle.std.proofs.lemmas.Int.{ints, clamps}
use Rattle.std.proofs.lemmas.Bool.Decides.{nat_tests}
use Rattle.std.proofs.lemmas.List.{map-set, length-map, map-append, get_or-map}
use Rattle.cbl_base.specs.Arithmetic.{fits_64}
use Rattle.cbl_base.specs.declared.faults.RunFault.TheVariants.{Overflow}
use Rattle.cbl_violations.specs.Fitting.{excess}
use Rattle.diff_load_seq.specs.Parts.{number_in, IsSumOf, HasRoom, IsReplaced}
use Rattle.diff_load_seq.specs.Levels.{excess_of, excesses, flat}
use Rattle.diff_load_seq.specs.declared.running_sum.RunningSum.{RunningSum}
use Rattle.diff_load_seq.specs.declared.levels.Level.{Level}
use Rattle.diff_load_seq.proofs.PartLemmas.{Fits, has_room, sum_replaced, sum_pushed}

pub signed_from_fits : (z : ℤ) → fits_64 z ≡ true → FitsSigned w64 z
signed_from_fits (pos n) e = grind (arith, ints, nat_tests)
signed_from_fits (negsuc n) e = grind (arith, ints, nat_tests)

excess_signed : (z : ℤ) → FitsSigned w64 z → FitsSigned w64 (excess z)
excess_signed z fits = omega (arith, ints, clamps, fits)

-- an excess fits
pub excess_fits : (level : Level) → Fits (excess_of level)
excess_fits level = by_tests (fits_64 level.height) (fits_64 (level.height -ℤ level.limit)) (signed_from_fits (level.height -ℤ level.limit))
  where
    by_tests : (a b : Bool) → (b ≡ true → FitsSigned w64 (level.height -ℤ level.limit))
        → FitsSigned w64 (number_in (cond (a && (b && true)) (Ok (excess (level.height -ℤ level.limit))) (Err Overflow)))
    by_tests true true h = excess_signed (level.height -ℤ level.limit) (h refl)
    by_tests true false h = omega (arith, ints)
    by_tests false b h = omega (arith, ints)

-- what an index read
pub level_read : (levels : List Level) (k : ℕ) (level : Level) → k < length levels → level ≡ get_or levels k level → get_or (excesses levels) k (excess_of flat) ≡ excess_of level
level_read levels k level within at = get_or-map excess_of levels k level (excess_of flat) within ∙ ap excess_of (sym at)

pub room_at : (running : RunningSum) (levels : List Level) (k : ℕ) (level : Level) → IsSumOf running (excesses levels) → k < length levels → level ≡ get_or levels k level → HasRoom running (excess_of level)
room_at running levels k level is within at =
    has_room running (excesses levels) k (excess_of flat) (excess_of level) is (subst (λ n. k < n) (sym (length-map levels excess_of)) within) (level_read levels k level within at)

pub levels_replaced : (running after : RunningSum) (levels : List Level) (k : ℕ) (old new : Level) → IsSumOf running (excesses levels) → k < length levels → old ≡ get_or levels k old
    → IsReplaced running (excess_of old) (excess_of new) after → IsSumOf after (excesses (set levels k new))
levels_replaced running after levels k old new is within at by =
    subst (IsSumOf after) (sym (map-set excess_of levels k new))
    (sum_replaced running after (excesses levels) k (excess_of flat) (excess_of old) (excess_of new) is (subst (λ n. k < n) (sym (length-map levels excess_of)) within) (level_read levels k old within at) (excess_fits new) by)

pub levels_pushed : (running after : RunningSum) (levels : List Level) (new : Level) → IsSumOf running (excesses levels) → length levels + 1 < 2 ^ 63
    → IsReplaced running (Ok (pos 0)) (excess_of new) after → IsSumOf after (excesses (levels ++ new ∷ []))
levels_pushed running after levels new is few by =
    subst (IsSumOf after) (sym (map-append excess_of levels (new ∷ [])))
    (sum_pushed running after (excesses levels) (excess_of new) is (omega (arith, few, length-map levels excess_of)) (excess_fits new) by)
