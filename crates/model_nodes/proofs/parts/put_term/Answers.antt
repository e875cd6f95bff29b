use Rattle.std.proofs.Common.{◌∙◌, ◌-◌, ap, length, map, arith}
use Rattle.graph_values.specs.Members.{cells_of}
use Rattle.store_turns.specs.Meaning.{ids_of}
use Rattle.term_graph.specs.Ids.{id_among}
use Rattle.term_model.specs.Subterms.{arguments_of, distinct_subterms}
use Rattle.term_model.specs.declared.term.Term.TheViews.{out-Term}
use Rattle.model_nodes.proofs.HeadLemmas.{left_more, subterm_here}
use Rattle.model_nodes.proofs.OkAnswers.{ok_anyway}
use Rattle.model_nodes.proofs.PartFits.{fits_term}
use Rattle.model_nodes.proofs.parts.put_term.Goals as goal

pub head_node-requires : goal.head_node-requires
head_node-requires g c =
    let M = g.about.model in
    let t = subterm_here M c.args.graph.now c.args.id c.requires.1.0 c.requires.1.1.0 c.requires.1.1.1.0 in
    c.requires.1.1.1.1.1.1.0 (c.args.id.0 - cells_of M) t.0 c.head.result.now (omega arith) t.1 (c.head.ensures (distinct_subterms M) t.0 c.requires.1.1.0 t.2)

pub put-requires : goal.put-requires
put-requires g c κs within =
    let M = g.about.model in
    let t = subterm_here M c.args.graph.now c.args.id c.requires.1.0 c.requires.1.1.0 c.requires.1.1.1.0 in (
      within,
      (
        c.requires.1.1.1.1.1.1.1.0,
        fits_term g.about (length c.args.making.now.lists.items) (c.args.id.0 - cells_of M) t.0 c.head.result.now (g.N.NodeRule.rule c.in_ok-node.node) c.in_ok-inputs.inputs.items c.place.result
            (omega (arith, c.requires.1.1.1.1.1.1.1.1, c.requires.1.0.0, c.requires.1.1.1.0)) t.1 (c.head.ensures (distinct_subterms M) t.0 c.requires.1.1.0 t.2) (c.in_ok-node.ensures.node g.about.users c.requires.1.1.1.1.1.0)
            (ap ids_of c.in_ok-inputs.ensures.items ∙ c.inputs.ensures.inputs (distinct_subterms M) t.0 c.requires.1.1.0 t.2 ∙ ap (λ n. map (id_among n (distinct_subterms M)) (arguments_of (out-Term t.0))) c.requires.1.1.1.0)
            (c.place.ensures (distinct_subterms M) t.0 c.requires.1.1.0 t.2),
      ),
    )

pub returns-clause-waiting : goal.returns-clause-waiting
returns-clause-waiting g c = ok_anyway c.put.result _ (c.head_node.ensures.waiting g.about.users c.requires.1.1.1.1.1.0)

pub returns-clause-left : goal.returns-clause-left
returns-clause-left g c =
    let M = g.about.model in
    let t = subterm_here M c.args.graph.now c.args.id c.requires.1.0 c.requires.1.1.0 c.requires.1.1.1.0 in
    ok_anyway c.put.result _
    (left_more M c.requires.1.1.1.1.0 (c.args.id.0 - cells_of M) t.0 c.head.result.now c.args.waiting.now.items c.head_node.new.waiting.items t.1 (c.head.ensures (distinct_subterms M) t.0 c.requires.1.1.0 t.2) c.head_node.ensures.others c.requires.1.1.1.1.1.1.0)
