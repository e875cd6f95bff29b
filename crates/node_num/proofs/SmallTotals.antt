-- Totals of numbers that are few enough, as the numbers change.
use Rattle.std.proofs.Common.{◌≡◌, ℤ, pos, neg_ℤ, ◌+ℤ◌, ◌-ℤ◌, ◌≤ℤ◌, ◌*◌, ◌^◌, List, [], ◌∷◌, length, ap, ◌∙◌, arith, w64}
use Rattle.std.specs.Prelude.{FitsSigned, All}
use Rattle.std.proofs.lemmas.Int.{ints}
use Rattle.std.proofs.lemmas.List.{length-set}
use Rattle.std.proofs.lemmas.List.Elements.{All-head, All-tail, All-set}
use Rattle.cbl_base.specs.Totals.{total}
use Rattle.cbl_base.proofs.TotalLemmas.{total-set}
use Rattle.node_base.specs.declared.number_change.NumberChange.{NumberChange}
use Rattle.node_base.specs.NumberChanges.{after_number_change, IsNumberChange}
use Rattle.node_base.proofs.ChangeLemmas.{number_within, number_read}
use Rattle.node_num.specs.Few.{AreFew, IsSmall}

total_bounds : (xs : List ℤ) → All (λ x. FitsSigned w64 x) xs → (neg_ℤ (pos (length xs * 2 ^ 63)) ≤ℤ total xs) × (total xs ≤ℤ pos (length xs * 2 ^ 63))
total_bounds [] all = (omega (arith, ints), omega (arith, ints))
total_bounds (x ∷ xs) all =
    let one : FitsSigned w64 x = All-head (λ (x : ℤ). FitsSigned w64 x) x xs all in
    let rest = total_bounds xs (All-tail (λ (x : ℤ). FitsSigned w64 x) x xs all) in
    (omega (arith, ints, one, rest.0), omega (arith, ints, one, rest.1))

pub total_small : (xs : List ℤ) → AreFew xs → IsSmall (total xs)
total_small xs few =
    let bounds = total_bounds xs few.each in
    let short = few.few in
    record { low = omega (arith, ints, bounds.0, short); high = omega (arith, ints, bounds.1, short) }

-- at a change of what stands there
pub total_after : (xs : List ℤ) (c : NumberChange) → IsNumberChange xs c → total (after_number_change xs c) ≡ (total xs -ℤ c.old) +ℤ c.new
total_after xs c h = total-set xs c.place c.new c.old (number_within xs c h) ∙ ap (λ v. (total xs -ℤ v) +ℤ c.new) (number_read xs c c.old h)

pub few_after : (xs : List ℤ) (c : NumberChange) → FitsSigned w64 c.new → AreFew xs → AreFew (after_number_change xs c)
few_after xs c fits f =
    record { each = All-set (λ (x : ℤ). FitsSigned w64 x) xs c.place c.new fits f.each; few = omega (arith, f.few, length-set xs c.place c.new) }
