use Rattle.std.proofs.Common.{rules, ◌≡◌, true, false, map}
use Rattle.std.specs.List.{list_any}
use Rattle.model_values.specs.declared.evaluation.Failing.{Failing}
use Rattle.term_model.specs.SameTerms.{same_term}
use Rattle.model_values.proofs.FailureLaws.{among_here, find_more}
use Rattle.model_values.proofs.least_failure.first_among.Goals as goal

pub returns-then-is_among : goal.returns-then-is_among
returns-then-is_among c = λ users env ts us are those.
    let one : list_any (same_term c.found-item.result.term.now) (map (λ (g : Failing). g.term.now) c.args.others.now) ≡ true = search rules in
    among_here users env c.args.failing.now c.args.others.now ts us are those c.loop-found.found-index c.found-item.result c.loop-found-test.true c.found-item.is c.loop-found.invariant one

pub loop-found-preserved : goal.loop-found-preserved
loop-found-preserved c =
    let one : list_any (same_term c.found-item.result.term.now) (map (λ (g : Failing). g.term.now) c.args.others.now) ≡ false = search rules in
    find_more (λ t. list_any (same_term t) (map (λ (g : Failing). g.term.now) c.args.others.now)) c.args.failing.now c.loop-found.found-index c.found-item.result c.loop-found-test.true c.found-item.is c.loop-found.invariant one
