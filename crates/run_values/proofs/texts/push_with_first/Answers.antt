use Rattle.std.proofs.Common.{ℕ, List, ◌++◌, map, ap, sym, ◌∙◌, append_assoc}
use Rattle.run_values.specs.Texts.{behind_commas}
use Rattle.run_values.proofs.CommaTexts.{separated_first}
use Rattle.run_values.proofs.texts.push_with_first.Goals as goal

pub returns-clause-ok : goal.returns-clause-ok
returns-clause-ok g c =
    let before = c.args.text.now.items in
    let first = g.T.Shown.shown c.args.first.now in
    let others = map g.T.Shown.shown c.args.others.now in
    c.in_ok-push_behind_commas.ensures.ok ∙ ap (λ (t : List ℕ). t ++ behind_commas others) c.in_ok-push_shown.ensures.ok
    ∙ append_assoc before first (behind_commas others) ∙ ap (λ (t : List ℕ). before ++ t) (sym (separated_first first others))
