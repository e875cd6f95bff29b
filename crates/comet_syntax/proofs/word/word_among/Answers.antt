use Rattle.std.proofs.Common.{rules, ◌≡◌, false, None, IfNone}
use Rattle.comet_syntax.specs.Word.{has_spelling, row_for}
use Rattle.comet_syntax.proofs.Words.{spelled_in_no_row}
use Rattle.comet_syntax.proofs.word.word_among.Goals as goal

pub returns-in-None-clause-none : goal.returns-in-None-clause-none
returns-in-None-clause-none c =
    let missing : has_spelling (row_for c.args.rows.now c.args.bytes.now) c.args.bytes.now ≡ false = search rules in
    spelled_in_no_row c.args.rows.now c.args.bytes.now None c.requires.known missing

pub returns-in-Some-clause-none : goal.returns-in-Some-clause-none
returns-in-Some-clause-none c =
    let missing : IfNone c.word_in.result (has_spelling (row_for c.args.rows.now c.args.bytes.now) c.args.bytes.now ≡ false) = search rules in
    spelled_in_no_row c.args.rows.now c.args.bytes.now c.word_in.result c.requires.known missing
