use Rattle.std.proofs.Common.{◌<◌, ◌≤◌, ◌∙◌, ap, arith, length, refl}
use Rattle.term_count.specs.Numbering.{listed}
use Rattle.term_graph.proofs.GraphLaws.{kept_old, kept_put, stopped_put}
use Rattle.term_graph.proofs.adding.keep.Goals as goal

pub returns-then-place-len-clause-kept : goal.returns-then-place-len-clause-kept
returns-then-place-len-clause-kept c =
    let lt : c.in_ok-place.place < length c.args.graph.now.nodes.items = omega (arith, c.if-place-len.true, c.len.ensures) in
    λ ts fits. kept_old _ _ _ _ _ _ _ _ _ fits c.in_ok-place.ensures.codes c.in_ok-place.ensures.place _ lt refl

pub returns-clause-kept : goal.returns-clause-kept
returns-clause-kept c =
    let past : length c.args.graph.now.nodes.items ≤ c.in_ok-place.place = omega (arith, c.if-place-len.false, c.len.ensures) in
    kept_put _ _ (listed c.put.new.graph.codes.keys) _ c.put.new.graph.nodes.items c.args.term.now c.args.code.items c.args.inputs.items c.in_ok-place.place c.in_ok-node.node
    (ap listed c.put.ensures.codes ∙ c.in_ok-place.ensures.codes) c.in_ok-place.ensures.place past c.put.result
    c.in_ok-node.ensures.head c.in_ok-node.ensures.place (ap (λ v. v.items) c.in_ok-node.ensures.inputs) c.put.ensures.nodes c.put.new.graph.few c.put.ensures.id

pub returns-clause-stop : goal.returns-clause-stop
returns-clause-stop c =
    let past : length c.args.graph.now.nodes.items ≤ c.in_ok-place.place = omega (arith, c.if-place-len.false, c.len.ensures) in
    stopped_put _ _ (listed c.put.new.graph.codes.keys) _ c.put.new.graph.nodes.items c.args.term.now c.args.code.items c.args.inputs.items c.in_ok-place.place c.in_ok-node.node
    (ap listed c.put.ensures.codes ∙ c.in_ok-place.ensures.codes) c.in_ok-place.ensures.place past c.put.result c.put.ensures.full
