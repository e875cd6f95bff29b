use Rattle.std.proofs.Common.{◌≡◌, ◌∙◌, ap, sym, length, pos, arith, rules, to_z, of_z}
use Rattle.std.specs.Int.{w128}
use Rattle.std.proofs.lemmas.Int.{ints, to_z-of_z}
use Rattle.std.proofs.lemmas.Result.{on_ok_weaker}
use Rattle.diff_load_seq.specs.Levels.{raised_between}
use Rattle.diff_load_seq.specs.LevelsOver.{shown}
use Rattle.diff_load_seq.specs.Windows.{gain_of, first_holding, last_holding}
use Rattle.diff_load_seq.proofs.OverLemmas.{length_shown}
use Rattle.diff_load_seq.proofs.WindowLemmas.{nothing_raised}
use Rattle.diff_load_seq.proofs.windows.move_number_over.Goals as goal

pub returns-then-gain-eq0-clause-shown : goal.returns-then-gain-eq0-clause-shown
returns-then-gain-eq0-clause-shown c =
    let windows = shown c.args.windows.now.each.items c.args.over.now in
    let first = first_holding c.args.size c.args.change.place in
    let last = last_holding c.args.change.place (length windows) in
    let gain : gain_of c.args.values.now c.args.change ≡ pos 0 = omega (arith, ints, c.gain_of-gain.ensures, c.if-gain-eq0.true) in
    sym (ap (λ by. raised_between first last by windows) gain ∙ nothing_raised first last windows)

pub returns-clause-shown : goal.returns-clause-shown
returns-clause-shown c =
    let windows = shown c.args.windows.now.each.items c.args.over.now in
    let ok = c.args.windows.now.each.ok in
    let len : c.len.result ≡ length (shown c.args.windows.now.each.items c.args.over.now) = omega (arith, c.len.ensures, ok.0, length_shown c.args.windows.now.each.items c.args.over.now) in
    on_ok_weaker c.raise_between.result (λ e. e
    ∙ ap (λ first. raised_between first c.windows_holding-holding.result.last (to_z w128 (of_z w128 c.gain_of-gain.result)) windows) c.windows_holding-holding.ensures.first
    ∙ ap (λ last. raised_between (first_holding c.args.size c.args.change.place) last (to_z w128 (of_z w128 c.gain_of-gain.result)) windows) (c.windows_holding-holding.ensures.last ∙ ap (last_holding c.args.change.place) len)
    ∙ ap (λ by. raised_between (first_holding c.args.size c.args.change.place) (last_holding c.args.change.place (length windows)) by windows) (to_z-of_z w128 c.gain_of-gain.result (search rules) ∙ c.gain_of-gain.ensures)) c.raise_between.ensures.shown
