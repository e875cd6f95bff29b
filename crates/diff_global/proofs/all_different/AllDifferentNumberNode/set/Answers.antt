use Rattle.std.proofs.Common.{ap, arith, length}
use Rattle.std.proofs.lemmas.List.{length-set}
use Rattle.diff_global.specs.Repeats.{repeats}
use Rattle.diff_global.proofs.RepeatLemmas.{old_repeats, repeats_change, violations_fit}
use Rattle.diff_global.proofs.all_different.AllDifferentNumberNode.set.Goals as goal

pub repeats_after-self-requires-clause-old : goal.repeats_after-self-requires-clause-old
repeats_after-self-requires-clause-old c =
    omega (arith, c.requires.settled.0, old_repeats c.args.self.now.tally c.args.change c.in_ok-elsewhere.elsewhere c.requires.change c.in_ok-elsewhere.ensures.elsewhere)

pub repeats_after-self-requires-clause-room : goal.repeats_after-self-requires-clause-room
repeats_after-self-requires-clause-room c = violations_fit c.args.self.now.tally c.args.self.now.repeats c.requires.settled.0 c.requires.settled.1

pub returns-clause-settled : goal.returns-clause-settled
returns-clause-settled c =
    let moved = repeats_change c.args.self.now.tally c.args.change c.in_ok-elsewhere.elsewhere c.requires.change c.in_ok-elsewhere.ensures.elsewhere in
    let new = ap repeats c.in_ok-elsewhere.ensures.ok in
    let long = ap length c.in_ok-elsewhere.ensures.ok in (
      omega (arith, moved, new, c.repeats_after-self.ensures, c.requires.settled.0),
      omega (arith, long, length-set c.args.self.now.tally c.args.change.place c.args.change.new, c.requires.settled.1),
    )
