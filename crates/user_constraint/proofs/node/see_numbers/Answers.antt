use Rattle.std.proofs.Common.{pos, rules, subst, get_or, w64, FitsSigned}
use Rattle.user_constraint.proofs.KeptLaws.{AreFit, fit_more, list_kept}
use Rattle.user_constraint.proofs.node.see_numbers.Goals as goal

pub loop-place-preserved : goal.loop-place-preserved
loop-place-preserved c =
    let is : FitsSigned w64 (get_or c.args.numbers.now c.loop-place.place (pos 0)) = search rules in
    fit_more c.args.numbers.now c.loop-place.place c.loop-place.invariant is

pub returns : goal.returns
returns c = list_kept c.args.numbers.now (subst (AreFit c.args.numbers.now) (search rules) c.loop-place.invariant) (search rules)
