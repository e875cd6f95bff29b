use Rattle.std.specs.Prelude.{refl}
use Rattle.std.proofs.lemmas.Result.{IfOk-weaker}
use Rattle.build_simples.proofs.items.undo_no_items.Goals as goal

pub returns : goal.returns
returns c = IfOk-weaker c.put.result _ _ (λ _ e. (c.new-none.result, c.new-none.ensures.items, (e, refl))) c.put.ensures
