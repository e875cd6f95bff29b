use Rattle.std.proofs.lemmas.Result.{err_from_is_err_and}
use Rattle.journal_text.specs.Reading.{digits_from}
use Rattle.journal_text.proofs.NumberLaws.{digit_fault}
use Rattle.journal_text.proofs.numbers.digits_of.Goals as goal

pub returns-in_err-number : goal.returns-in_err-number
returns-in_err-number c =
    let p = err_from_is_err_and c.from_residual.result c.from_residual.ensures.1 in
    rw (p.1, p.2) (digit_fault c.in_err-number.field-0.0 c.loop-byte.number c.args.word.now c.loop-byte.byte-index (digits_from 0 c.args.word.now) c.loop-byte-test.true c.in_err-number.ensures c.loop-byte.invariant)
