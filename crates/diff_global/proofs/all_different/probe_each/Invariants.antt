use Rattle.std.proofs.Common.{◌≡◌, take}
use Rattle.node_base.specs.NumberChanges.{after_number_changes}
use Rattle.node_base.specs.Counting.{Shows}
use Rattle.diff_global.specs.Repeats.{repeats}
use Rattle.diff_global.proofs.all_different.probe_each.Given as goal

abbrev pub invariant-loop-change : goal.invariant-loop-change
invariant-loop-change l =
    let xs = after_number_changes l.tally (take l.change-index l.changes) in
    record { shown : Shows l.tally l.overlay xs; repeats : l.repeats ≡ repeats xs }
