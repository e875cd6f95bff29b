use Rattle.std.proofs.Common.{rules, ◌+◌, ◌-◌, w64, pos, get_or}
use Rattle.std.specs.Prelude.{FitsSigned}
use Rattle.std.proofs.lemmas.Int.{to_z-of_z}
use Rattle.own_constraint.proofs.RestLemmas.{IsCount, next}
use Rattle.own_constraint.proofs.rest.violations_of.Goals as goal

pub loop-day-preserved : goal.loop-day-preserved
loop-day-preserved c =
    let day = c.loop-day.day in
    let xs = c.args.shifts.now in
    let before : FitsSigned w64 (get_or xs (day - 1) (pos 0)) = search rules in
    let at : FitsSigned w64 (get_or xs day (pos 0)) = search rules in
    let step : IsCount xs (day + 1) (c.loop-day.count + c.short_rest-count.result) =
    next xs day c.loop-day.count c.short_rest-count.result _ _ c.loop-day.auto.day c.loop-day-test.true
    (to_z-of_z w64 _ before) (to_z-of_z w64 _ at) c.loop-day.invariant.count c.loop-day.invariant.small
    c.short_rest-count.ensures.rule c.short_rest-count.ensures.one
    in
    record { count = step.is; small = step.small }
