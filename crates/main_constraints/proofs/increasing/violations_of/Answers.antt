use Rattle.std.proofs.Common.{rules, ◌+◌, ◌-◌, ◌<◌, ◌^◌, ◌∙◌, w64, pos, get_or}
use Rattle.std.specs.Prelude.{FitsSigned}
use Rattle.std.proofs.lemmas.Int.{to_z-of_z}
use Rattle.main_constraints.proofs.Falling.{IsSum, next_sum}
use Rattle.main_constraints.proofs.increasing.violations_of.Goals as goal

pub loop-place-preserved : goal.loop-place-preserved
loop-place-preserved c =
    let i = c.loop-place.place in
    let xs = c.args.numbers.now in
    let before : FitsSigned w64 (get_or xs (i - 1) (pos 0)) = search rules in
    let at : FitsSigned w64 (get_or xs i (pos 0)) = search rules in
    let narrow : c.from-sum.result < 2 ^ 64 = rw c.from-sum.ensures c.fall.type_inv in
    let step : IsSum xs (i + 1) (c.loop-place.sum + c.from-sum.result) =
    next_sum xs i c.loop-place.sum c.from-sum.result _ _ c.loop-place.auto.place c.loop-place-test.true
    (to_z-of_z w64 _ before) (to_z-of_z w64 _ at) c.loop-place.invariant.sum c.loop-place.invariant.small
    (c.from-sum.ensures ∙ c.fall.ensures) narrow
    in
    record { sum = step.sum_is; small = step.small }
