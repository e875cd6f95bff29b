use Rattle.std.proofs.Common.{◌≡◌, ◌<◌, ◌^◌, [], ◌∷◌, length, sym, arith}
use Rattle.node_base.specs.NumberChanges.{after_number_change}
use Rattle.node_base.proofs.ChangeLemmas.{length-after_numbers}
use Rattle.diff_global.specs.Repeats.{repeats}
use Rattle.diff_global.proofs.RepeatLemmas.{old_repeats, repeats_change, violations_fit, violations_as}
use Rattle.diff_global.proofs.all_different.probe_one.Goals as goal
use Rattle.diff_global.proofs.all_different.probe_one.Goals.{After-repeats_after}

-- the list after the change is short, and has so many repeats
short : (c : After-repeats_after) → length (after_number_change c.args.tally.now c.args.change) < 2 ^ 62
short c = omega (arith, length-after_numbers c.args.tally.now (c.args.change ∷ []), c.requires.few)

counted : (c : After-repeats_after) → c.repeats_after.result ≡ repeats (after_number_change c.args.tally.now c.args.change)
counted c =
    let moved = repeats_change c.args.tally.now c.args.change c.elsewhere.result c.requires.change c.elsewhere.ensures in
    omega (arith, moved, c.repeats_after.ensures, c.requires.count)

pub repeats_after-requires-clause-old : goal.repeats_after-requires-clause-old
repeats_after-requires-clause-old c =
    let some = old_repeats c.args.tally.now c.args.change c.elsewhere.result c.requires.change c.elsewhere.ensures in
    omega (arith, c.requires.count, some)

pub repeats_after-requires-clause-room : goal.repeats_after-requires-clause-room
repeats_after-requires-clause-room c = violations_fit c.args.tally.now c.args.count c.requires.count c.requires.few

pub overflow_cast-result : goal.overflow_cast-result
overflow_cast-result c = record { sfits = violations_fit (after_number_change c.args.tally.now c.args.change) c.repeats_after.result (counted c) (short c) }

pub returns : goal.returns
returns c = sym (violations_as (after_number_change c.args.tally.now c.args.change) c.repeats_after.result (counted c) (short c))
