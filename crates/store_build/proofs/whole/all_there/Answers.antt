use Rattle.std.proofs.Common.{◌∙◌, ◌++◌, List, sym, ap}
use Rattle.store_build.specs.Building.{option_list}
use Rattle.store_build.proofs.WholeLemmas.{all-push}
use Rattle.store_build.proofs.whole.all_there.Goals as goal

pub loop-one-preserved : goal.loop-one-preserved
loop-one-preserved g c = c.in_ok-push_one.ensures ∙ ap (λ (xs : List g.row.T.Denot). xs ++ option_list c.in-Some.one) c.loop-one.invariant ∙ sym (all-push c.loop-one.yielded c.in-Some.one)
