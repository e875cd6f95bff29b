use Rattle.std.specs.Prelude.{◌≡◌, true, None}
use Rattle.std.specs.Result.{result_ok}
use Rattle.std.proofs.Common.{rules, arith, sym, ◌∙◌}
use Rattle.comet_words.specs.Values.{is_number}
use Rattle.comet_words.proofs.Numerals.{too_wide}
use Rattle.comet_words.proofs.value.number.Goals as goal

pub returns-in_err-number : goal.returns-in_err-number
returns-in_err-number c =
    let is : is_number c.args.value.now ≡ true = search rules in
    let none : result_ok c.parse.result ≡ None = sym c.ok.ensures.value ∙ c.in_err-number.was in
    c.from_residual.ensures
    ∙ sym (too_wide c.args.value.now c.args.least c.args.most c.parse.result c.parse.ensures.value.0 none is (omega arith))
