use Rattle.std.proofs.Common.{◌≡◌, ◌∙◌, ap, sym, length, pos, arith}
use Rattle.std.proofs.lemmas.Int.{ints}
use Rattle.diff_load_seq.specs.Levels.{raised_between}
use Rattle.diff_load_seq.specs.Windows.{gain_of, first_holding, last_holding}
use Rattle.diff_load_seq.proofs.WindowLemmas.{nothing_raised}
use Rattle.diff_load_seq.proofs.windows.move_number.Goals as goal

pub returns-then-gain-eq0-clause-each : goal.returns-then-gain-eq0-clause-each
returns-then-gain-eq0-clause-each c =
    let windows = c.args.windows.now.each.items in
    let first = first_holding c.args.size c.args.change.place in
    let last = last_holding c.args.change.place (length windows) in
    let gain : gain_of c.args.values.now c.args.change ≡ pos 0 = omega (arith, ints, c.gain_of-gain.ensures, c.if-gain-eq0.true) in
    sym (ap (λ by. raised_between first last by windows) gain ∙ nothing_raised first last windows)
