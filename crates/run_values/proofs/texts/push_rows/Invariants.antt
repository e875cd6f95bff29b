use Rattle.std.proofs.Common.{◌≡◌, ◌-◌, ◌++◌, map}
use Rattle.comet_meaning.specs.Printing.{separated, in_brackets, rows_of}
use Rattle.run_values.proofs.CommaTexts.{pending}
use Rattle.run_values.proofs.texts.push_rows.Given as goal

-- what is written, and what is left, is the whole
abbrev pub invariant-loop-row : goal.invariant-loop-row
invariant-loop-row g l =
    l.text.items ++ pending l.row (map in_brackets (rows_of (l.rows - l.row) l.columns (map g.T.Shown.shown l.remaining)))
    ≡ l.initial.text.items ++ separated (map in_brackets (rows_of l.rows l.columns (map g.T.Shown.shown l.initial.remaining)))
