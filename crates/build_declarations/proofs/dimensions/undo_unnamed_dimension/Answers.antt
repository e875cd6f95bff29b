use Rattle.std.specs.Prelude.{refl}
use Rattle.std.proofs.lemmas.Result.{IfOk-weaker}
use Rattle.parse_stacks.proofs.Four.{has_four}
use Rattle.parse_stacks.proofs.Tops.{has_one, of_ok}
use Rattle.build_declarations.proofs.dimensions.undo_unnamed_dimension.Goals as goal

pub take-operand-requires : goal.take-operand-requires
take-operand-requires c = has_one _ c.requires.2

pub take_behind-behind-requires-clause-four : goal.take_behind-behind-requires-clause-four
take_behind-behind-requires-clause-four c = has_four c.args.stacks.now.links.items c.requires.3.2 c.requires.3.3.2 c.requires.3.3.3.3.3.2 c.requires.3.3.3.3.3.3.2

pub take_behind-behind-requires-clause-end : goal.take_behind-behind-requires-clause-end
take_behind-behind-requires-clause-end c = has_one _ c.requires.3.3.3.2

pub take_behind-behind-requires-clause-right : goal.take_behind-behind-requires-clause-right
take_behind-behind-requires-clause-right c = has_one _ c.requires.3.3.3.3.2

pub take_behind-behind-requires-clause-choice : goal.take_behind-behind-requires-clause-choice
take_behind-behind-requires-clause-choice c = has_one _ c.requires.3.3.3.3.3.3.3.2

pub returns : goal.returns
returns c = IfOk-weaker c.put_made.result _ _ (λ _ e. (_, _, c.take-operand.ensures, (c.take_behind-behind.result.product, _, c.take_behind-behind.ensures.links, (c.take_behind-behind.result.total, _, refl, (c.take_behind-behind.result.up_to, _, c.take_behind-behind.ensures.up_to, (c.take_behind-behind.result.compared, _, c.take_behind-behind.ensures.compared, (c.take_behind-behind.result.conjunction, _, refl, (c.take_behind-behind.result.disjunction, _, refl, (c.take_behind-behind.result.branches, _, c.take_behind-behind.ensures.branches, (e.0, (of_ok _ e.1 c.make_unnamed-dimension.ensures), (e.2, refl))))))))))) c.put_made.ensures
