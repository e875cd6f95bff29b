use Rattle.std.specs.Prelude.{◌≡◌, ◌≤◌, Some, length, string_bytes}
use Rattle.std.proofs.Common.{arith, length-drop, length-take}
use Rattle.comet_words.specs.Options.{setting_named}
use Rattle.comet_words.proofs.Cutting.{lone_option}
use Rattle.comet_words.proofs.item.first_item.Goals as goal

pub returns-in_err-value-in-Some-clause-cut : goal.returns-in_err-value-in-Some-clause-cut
returns-in_err-value-in-Some-clause-cut c =
    let few : length c.args.words.now ≤ 1 = omega (arith, simp (length-take, length-drop) at c.in_err-value-in-Some.ensures.item.3) in
    let named : setting_named (string_bytes c.index-words-0.result) ≡ Some c.in-Some.setting = cc in
    rw c.from_residual-in_err-value-in-Some.ensures
    (lone_option c.args.words.now c.index-words-0.result c.in-Some.setting c.requires few c.index-words-0.is named)
