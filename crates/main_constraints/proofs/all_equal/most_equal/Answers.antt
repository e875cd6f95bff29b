use Rattle.std.proofs.Common.{rules, ◌+◌, w64, pos, get_or}
use Rattle.std.specs.Prelude.{FitsSigned}
use Rattle.std.proofs.lemmas.Int.{to_z-of_z}
use Rattle.main_constraints.proofs.MostEqual.{IsNext, next}
use Rattle.main_constraints.proofs.all_equal.most_equal.Goals as goal

pub loop-number-preserved : goal.loop-number-preserved
loop-number-preserved c =
    let i = c.loop-number.number-index in
    let xs = c.args.numbers.now in
    let fits : FitsSigned w64 (get_or xs i (pos 0)) = search rules in
    let step : IsNext xs (i + 1) c.push.new.self c.max-most.result =
    next xs c.loop-number.seen c.push.new.self i c.loop-number.most c.in_ok-before.before c.max-most.result _
    c.loop-number-test.true (to_z-of_z w64 _ fits) c.loop-number.invariant.seen c.loop-number.invariant.most
    c.in_ok-before.ensures.ok c.in_ok-before.ensures.before c.max-most.ensures
    in
    record { seen = step.seen_is; most = step.most_is }
