use Rattle.std.specs.Prelude.{refl}
use Rattle.std.proofs.lemmas.Result.{IfOk-weaker}
use Rattle.build_expressions.proofs.levels.undo_no_links.Goals as goal

pub returns : goal.returns
returns c = IfOk-weaker c.put.result _ _ (λ _ e. (c.new.result, c.new.ensures.items, (e, refl))) c.put.ensures
