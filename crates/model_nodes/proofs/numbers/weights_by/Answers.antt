use Rattle.std.proofs.Common.{◌≡◌, ◌∙◌, ◌++◌, ◌<◌, ap, get_or, length, map, arith}
use Rattle.graph_values.specs.Members.{members_before}
use Rattle.term_model.specs.Posting.{totals_by}
use Rattle.term_model.specs.declared.model.Member.{Member}
use Rattle.model_nodes.proofs.WeightLists.{weights_more}
use Rattle.model_nodes.proofs.numbers.weights_by.Goals as goal

pub loop-total-preserved : goal.loop-total-preserved
loop-total-preserved c =
    let k = c.loop-total.total-index in
    let total = c.total-item.result in
    let lt : k < length (totals_by c.args.model.now c.args.side) = omega (arith, c.loop-total-test.true, ap length c.totals_by-totals.ensures) in
    weights_more c.args.model.now c.requires c.args.side k total c.loop-total.weights.items c.push_weights.new.numbers.items lt (c.total-item.is ∙ ap (λ ts. get_or ts k total) c.totals_by-totals.ensures) c.loop-total.invariant
    (c.in_ok-push_weights.ensures ∙ ap (λ ms. c.loop-total.weights.items ++ map (λ (m : Member). m.weight) ms) c.deref.ensures.value)

pub returns : goal.returns
returns c =
    let all : c.loop-total.total-index ≡ length (totals_by c.args.model.now c.args.side) = omega (arith, c.loop-total-test.false, ap length c.totals_by-totals.ensures) in
    c.loop-total.invariant ∙ ap (λ n. map (λ (m : Member). m.weight) (members_before c.args.model.now c.args.side n)) all
