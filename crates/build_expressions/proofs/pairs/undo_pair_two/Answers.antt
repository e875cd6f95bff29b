use Rattle.std.specs.Prelude.{refl}
use Rattle.std.proofs.lemmas.Result.{IfOk-weaker}
use Rattle.parse_stacks.proofs.Four.{has_four}
use Rattle.parse_stacks.proofs.Tops.{has_one, has_two, has_more}
use Rattle.build_expressions.proofs.pairs.undo_pair_two.Goals as goal

pub take-called-requires : goal.take-called-requires
take-called-requires c = has_one _ c.requires.2

pub take-inner-requires : goal.take-inner-requires
take-inner-requires c = has_one _ c.requires.3.2

pub take_behind-behind-requires-clause-four : goal.take_behind-behind-requires-clause-four
take_behind-behind-requires-clause-four c = has_four c.args.stacks.now.links.items c.requires.3.3.2 c.requires.3.3.3.2 c.requires.3.3.3.3.3.3.2 c.requires.3.3.3.3.3.3.3.2

pub take_behind-behind-requires-clause-end : goal.take_behind-behind-requires-clause-end
take_behind-behind-requires-clause-end c = has_one _ c.requires.3.3.3.3.2

pub take_behind-behind-requires-clause-right : goal.take_behind-behind-requires-clause-right
take_behind-behind-requires-clause-right c = has_one _ c.requires.3.3.3.3.3.2

pub take_behind-behind-requires-clause-choice : goal.take_behind-behind-requires-clause-choice
take_behind-behind-requires-clause-choice c = has_one _ c.requires.3.3.3.3.3.3.3.3.2

pub take-right-requires : goal.take-right-requires
take-right-requires c = has_one _ c.requires.3.3.3.3.3.3.3.3.3.2

pub take-suffixes-requires : goal.take-suffixes-requires
take-suffixes-requires c = has_more c.args.stacks.now.suffixes.items c.take-inner.new.stack.items 0 c.take-inner.ensures (has_two c.args.stacks.now.suffixes.items c.requires.3.2 c.requires.3.3.3.3.3.3.3.3.3.3.2)

pub returns : goal.returns
returns c = IfOk-weaker c.put.result _ _ (λ _ e. (_, _, c.take-called.ensures, (_, _, c.take-inner.ensures, (c.take_behind-behind.result.product, _, c.take_behind-behind.ensures.links, (c.take_behind-behind.result.total, _, refl, (c.take_behind-behind.result.up_to, _, c.take_behind-behind.ensures.up_to, (c.take_behind-behind.result.compared, _, c.take_behind-behind.ensures.compared, (c.take_behind-behind.result.conjunction, _, refl, (c.take_behind-behind.result.disjunction, _, refl, (c.take_behind-behind.result.branches, _, c.take_behind-behind.ensures.branches, (_, _, c.take-right.ensures, (_, _, c.take-suffixes.ensures, (_, refl, (e, refl)))))))))))))) c.put.ensures
