use Rattle.std.specs.Prelude.{refl}
use Rattle.std.proofs.lemmas.Result.{IfOk-weaker}
use Rattle.parse_stacks.proofs.Tops.{has_one, has_two, has_more, of_ok}
use Rattle.build_expressions.proofs.operands.undo_extreme.Goals as goal

pub take-place-requires : goal.take-place-requires
take-place-requires c = has_one _ c.requires.2

pub take-left-requires : goal.take-left-requires
take-left-requires c = has_one _ c.requires.3.2

pub take-right-requires : goal.take-right-requires
take-right-requires c = has_more c.args.stacks.now.expressions.items c.take-left.new.stack.items 0 c.take-left.ensures (has_two c.args.stacks.now.expressions.items c.requires.3.2 c.requires.3.3.2)

pub returns : goal.returns
returns c = IfOk-weaker c.put_made.result _ _ (λ _ e. (c.take-place.result, _, c.take-place.ensures, (c.take-left.result, _, c.take-left.ensures, (c.take-right.result, _, c.take-right.ensures, (e.0, (of_ok _ e.1 c.make_extreme-made.ensures), (e.2, refl)))))) c.put_made.ensures
