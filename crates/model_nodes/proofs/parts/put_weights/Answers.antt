use Rattle.std.proofs.Common.{◌≡◌, ◌∙◌, ◌-◌, ◌<◌, ◌≤◌, FitsSigned, ap, get_or, length, pos, rules, w64, ℤ, arith}
use Rattle.std.proofs.lemmas.Int.{to_z-of_z}
use Rattle.std.proofs.lemmas.List.{length-map}
use Rattle.cbl_base.specs.declared.input.Input.TheVariants.{Int}
use Rattle.graph_values.specs.Graphs.{count_of}
use Rattle.graph_values.specs.Members.{members_by}
use Rattle.graph_values.specs.WholeGraphs.{first_system, weight_at}
use Rattle.node_kinds.specs.ConstantRule.{rule_of_constant}
use Rattle.term_model.specs.declared.model.Member.{Member}
use Rattle.term_model.specs.declared.posting.Side.TheVariants.{Objectives}
use Rattle.model_nodes.proofs.PartFits.{fits_weight}
use Rattle.model_nodes.proofs.PartSteps.{weight_there}
use Rattle.model_nodes.proofs.parts.put_weights.Goals as goal

pub put-requires : goal.put-requires
put-requires g c κs within =
    let M = g.about.model in
    let k = c.loop-weight.weight-index in
    let id = length c.loop-weight.making.lists.items in
    let x : ℤ = get_or c.args.weights.now k (pos 0) in
    let fits : FitsSigned w64 x = search rules in
    let lt : k < length c.args.weights.now = c.loop-weight-test.true in
    let long = ap length c.requires.1.0 ∙ length-map (members_by M Objectives) (λ (m : Member). m.weight) in
    let le : count_of M ≤ id = omega (arith, c.loop-weight.invariant.count) in
    let low : id < first_system M = omega (arith, c.loop-weight.invariant.count, lt, long) in
    let place : id - count_of M ≡ k = omega (arith, c.loop-weight.invariant.count) in (
      within,
      (
        c.loop-weight.invariant.made,
        fits_weight g.about id x (g.N.NodeRule.rule c.of_constant-node.result) c.new.result.items (record { line = 0; col = 0 }) le low
            (ap (weight_at M) place ∙ weight_there M k (pos 0) c.args.weights.now c.requires.1.0 lt) (c.of_constant-node.ensures ∙ ap (λ y. rule_of_constant (Int y)) (to_z-of_z w64 x fits)) c.new.ensures.items,
      ),
    )

pub loop-weight-preserved : goal.loop-weight-preserved
loop-weight-preserved g c = record {
  made = c.in_ok-put.ensures.made;
  count = omega (arith, c.in_ok-put.ensures.count, c.loop-weight.invariant.count);
}
