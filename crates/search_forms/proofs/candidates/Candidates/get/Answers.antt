-- A row of the table, by its number.
use Rattle.std.proofs.Common.{◌≡◌, ◌∙◌, sym, ap, ℕ, ◌-◌, ◌+◌, ◌*◌, take, drop, arith}
use Rattle.search_forms.proofs.CandidateLaws.{no_row_or, row_of_number}
use Rattle.search_forms.proofs.candidates.Candidates.get.Goals as goal

pub returns-then-number-self : goal.returns-then-number-self
returns-then-number-self c = sym (no_row_or c.args.self.now.width c.args.self.now.count c.args.number c.args.self.now.numbers.items (omega (arith, c.if-number-self.true)))

pub returns : goal.returns
returns c =
    let start : ℕ = c.args.number * c.args.self.now.width in
    let wide : start + c.args.self.now.width - start ≡ c.args.self.now.width = omega arith in
    ap (λ n. take n (drop start c.deref.result.now)) wide
    ∙ ap (λ xs. take c.args.self.now.width (drop start xs)) c.deref.ensures.value
    ∙ sym (row_of_number c.args.self.now.width c.args.self.now.count c.args.number c.args.self.now.numbers.items (omega (arith, c.if-number-self.false)))
