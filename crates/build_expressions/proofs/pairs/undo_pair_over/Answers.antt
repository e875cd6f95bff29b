use Rattle.std.specs.Prelude.{◌≡◌, IfOk, refl}
use Rattle.std.proofs.Common.{ap, subst}
use Rattle.std.proofs.lemmas.Result.{IfOk-weaker}
use Rattle.comet_syntax.specs.Written.Expressions.{written}
use Rattle.parse_stacks.specs.declared.tails.PairRest.TheVariants as rests
use Rattle.parse_stacks.specs.Raised.{linked}
use Rattle.parse_stacks.proofs.Tops.{has_one, has_two, has_more}
use Rattle.build_expressions.proofs.pairs.undo_pair_over.Goals as goal

pub take-domain-requires : goal.take-domain-requires
take-domain-requires c = has_one _ c.requires.2

pub take-operand-requires : goal.take-operand-requires
take-operand-requires c = has_more c.args.stacks.now.expressions.items c.take-domain.new.stack.items 0 c.take-domain.ensures (has_two c.args.stacks.now.expressions.items c.requires.2 c.requires.3.3.3.2)

pub take-product-requires : goal.take-product-requires
take-product-requires c = has_one _ c.requires.3.3.3.3.2

pub take-more-requires : goal.take-more-requires
take-more-requires c = has_one _ c.requires.3.2

pub take-condition-requires : goal.take-condition-requires
take-condition-requires c = has_one _ c.requires.3.3.2

pub returns : goal.returns
returns c =
    let body : written c.in_ok-body.body ≡ linked (written c.take-operand.result) c.take-product.result =
    subst (λ r. IfOk r (λ e. written e ≡ linked (written c.take-operand.result) c.take-product.result)) c.in_ok-body.ensures.0 c.link.ensures in
    let made = ap (λ d. rests.Over d c.take-more.result c.take-condition.result c.in_ok-body.body) c.in_ok-body.ensures.1 in
    IfOk-weaker c.put.result _ _ (λ _ e. (_, _, c.take-domain.ensures, (_, _, c.take-more.ensures, (_, _, c.take-condition.ensures, (_, _, c.take-operand.ensures, (_, _, c.take-product.ensures, (_, (c.in_ok-body.body, made, body), (e, refl)))))))) c.put.ensures
