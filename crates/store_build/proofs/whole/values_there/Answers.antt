use Rattle.std.proofs.Common.{◌∙◌, ◌++◌, List, sym, ap}
use Rattle.cbl_base.specs.declared.input.Input.{Input}
use Rattle.store_build.specs.Building.{value_in, option_list}
use Rattle.store_build.proofs.WholeLemmas.{values-push}
use Rattle.store_build.proofs.whole.values_there.Goals as goal

pub loop-outcome-preserved : goal.loop-outcome-preserved
loop-outcome-preserved c = c.in_ok-push_value.ensures ∙ ap (λ (xs : List Input). xs ++ option_list (value_in c.in-Some.outcome)) c.loop-outcome.invariant ∙ sym (values-push c.loop-outcome.yielded c.in-Some.outcome)
