use Rattle.std.proofs.Common.{◌≡◌, ◌∙◌, ◌++◌, ◌∷◌, [], take, get_or, ap, sym, pos, to_z, of_z, w64, FitsSigned, rules}
use Rattle.std.proofs.lemmas.Int.{to_z-of_z}
use Rattle.std.proofs.lemmas.List.{take_all, take_more}
use Rattle.std.proofs.lemmas.Result.{err_from_is_err_and}
use Rattle.node_base.proofs.tally.Tally.of.Goals as goal

pub returns-in_err-tally : goal.returns-in_err-tally
returns-in_err-tally c = rw (err_from_is_err_and c.from_residual.result c.from_residual.ensures.1).1 tt

pub loop-number-init : goal.loop-number-init
loop-number-init c = c.in_ok-tally.ensures

pub returns-in_err-push : goal.returns-in_err-push
returns-in_err-push c = rw (err_from_is_err_and c.from_residual-in_err-push.result c.from_residual-in_err-push.ensures.1).1 tt

pub loop-number-preserved : goal.loop-number-preserved
loop-number-preserved c =
    let xs = c.args.numbers.now in
    let i = c.loop-number.number-index in
    let number = get_or xs i (pos 0) in
    let fits : FitsSigned w64 number = search rules in
    c.in_ok-push.ensures.ok
    ∙ ap (λ ys. ys ++ to_z w64 (of_z w64 number) ∷ []) c.loop-number.invariant
    ∙ ap (λ x. take i xs ++ x ∷ []) (to_z-of_z w64 number fits)
    ∙ sym (take_more xs i (pos 0) c.loop-number-test.true)

pub returns : goal.returns
returns c = c.loop-number.invariant ∙ take_all c.loop-number.number-index c.args.numbers.now c.loop-number-test.false
