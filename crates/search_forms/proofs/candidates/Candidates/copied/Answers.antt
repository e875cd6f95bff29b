-- A copy of a row.
use Rattle.std.proofs.Common.{◌∙◌, sym, ap, Some, arith}
use Rattle.search_forms.proofs.CandidateLaws.{no_row, row_there}
use Rattle.search_forms.proofs.candidates.Candidates.copied.Goals as goal

pub returns-then-number-self-clause-same : goal.returns-then-number-self-clause-same
returns-then-number-self-clause-same c = sym (no_row c.args.self.now.width c.args.self.now.count c.args.number c.args.self.now.numbers.items (omega (arith, c.if-number-self.true)))

pub returns-clause-same : goal.returns-clause-same
returns-clause-same c =
    ap Some (c.in_ok-values.ensures.items ∙ c.get.ensures)
    ∙ sym (row_there c.args.self.now.width c.args.self.now.count c.args.number c.args.self.now.numbers.items (omega (arith, c.if-number-self.false)))
