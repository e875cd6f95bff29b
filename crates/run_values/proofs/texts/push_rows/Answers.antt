use Rattle.std.proofs.Common.{◌∙◌}
use Rattle.run_values.proofs.CommaTexts.{row_more}
use Rattle.run_values.proofs.texts.push_rows.Goals as goal

pub loop-row-preserved : goal.loop-row-preserved
loop-row-preserved g c =
    let more = row_more g.T.Shown.shown c.args.rows c.loop-row.row c.args.columns c.loop-row.remaining.now c.loop-row.text.items c.loop-row-test.true in
    rw (c.in_ok-push_row.ensures.ok, c.in_ok-push_comma.ensures.ok, c.split.ensures.front, c.split.ensures.behind) (more ∙ c.loop-row.invariant)
