use Rattle.std.specs.Prelude.{refl}
use Rattle.std.proofs.lemmas.Result.{IfOk-weaker}
use Rattle.parse_stacks.proofs.Four.{has_four}
use Rattle.parse_stacks.proofs.Tops.{has_one}
use Rattle.build_declarations.proofs.dimensions.undo_called_rest.Goals as goal

pub take-called-requires : goal.take-called-requires
take-called-requires c = has_one _ c.requires.2

pub take-suffixes-requires : goal.take-suffixes-requires
take-suffixes-requires c = has_one _ c.requires.3.2

pub take_behind-behind-requires-clause-four : goal.take_behind-behind-requires-clause-four
take_behind-behind-requires-clause-four c = has_four c.args.stacks.now.links.items c.requires.3.3.2 c.requires.3.3.3.2 c.requires.3.3.3.3.3.3.2 c.requires.3.3.3.3.3.3.3.2

pub take_behind-behind-requires-clause-end : goal.take_behind-behind-requires-clause-end
take_behind-behind-requires-clause-end c = has_one _ c.requires.3.3.3.3.2

pub take_behind-behind-requires-clause-right : goal.take_behind-behind-requires-clause-right
take_behind-behind-requires-clause-right c = has_one _ c.requires.3.3.3.3.3.2

pub take_behind-behind-requires-clause-choice : goal.take_behind-behind-requires-clause-choice
take_behind-behind-requires-clause-choice c = has_one _ c.requires.3.3.3.3.3.3.3.3.2

pub returns : goal.returns
returns c = IfOk-weaker c.put.result _ _ (λ _ e. (_, _, c.take-called.ensures, (_, _, c.take-suffixes.ensures, (c.take_behind-behind.result.product, _, c.take_behind-behind.ensures.links, (c.take_behind-behind.result.total, _, refl, (c.take_behind-behind.result.up_to, _, c.take_behind-behind.ensures.up_to, (c.take_behind-behind.result.compared, _, c.take_behind-behind.ensures.compared, (c.take_behind-behind.result.conjunction, _, refl, (c.take_behind-behind.result.disjunction, _, refl, (c.take_behind-behind.result.branches, _, c.take_behind-behind.ensures.branches, (_, refl, (e, refl)))))))))))) c.put.ensures
