use Rattle.std.proofs.Common.{rules, ◌≡◌, true, sym}
use Rattle.term_model.specs.SameTerms.{same_term}
use Rattle.model_values.proofs.FailureLaws.{any_here}
use Rattle.model_values.proofs.least_failure.is_among.Goals as goal

pub returns-then-same_term : goal.returns-then-same_term
returns-then-same_term c =
    let one : same_term c.args.term.now c.other-item.result.term.now ≡ true = search rules in
    sym (any_here (same_term c.args.term.now) c.args.others.now c.loop-other.other-index c.other-item.result c.loop-other-test.true c.other-item.is one)
