use Rattle.std.specs.Prelude.{refl}
use Rattle.std.proofs.lemmas.Result.{IfOk-weaker}
use Rattle.parse_stacks.proofs.Tops.{has_one, has_two, has_more}
use Rattle.build_expressions.proofs.levels.undo_branches.Goals as goal

pub take-then-requires : goal.take-then-requires
take-then-requires c = has_one _ c.requires.2

pub take-otherwise-requires : goal.take-otherwise-requires
take-otherwise-requires c = has_more c.args.stacks.now.expressions.items c.take-then.new.stack.items 0 c.take-then.ensures (has_two c.args.stacks.now.expressions.items c.requires.2 c.requires.3.2)

pub returns : goal.returns
returns c = IfOk-weaker c.put.result _ _ (λ _ e. (c.take-then.result, _, c.take-then.ensures, (c.take-otherwise.result, _, c.take-otherwise.ensures, (_, refl, (e, refl))))) c.put.ensures
