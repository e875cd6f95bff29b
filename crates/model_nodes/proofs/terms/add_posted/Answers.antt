use Rattle.std.proofs.Common.{◌≡◌, ◌∙◌, None, Some, sym}
use Rattle.std.proofs.lemmas.Result.{IfOk-weaker, on_ok_weaker}
use Rattle.model_nodes.proofs.PostedTerms.{id_posted, graph_none, graph_posted}
use Rattle.model_nodes.proofs.terms.add_posted.Goals as goal

pub add_term-requires : goal.add_term-requires
add_term-requires c = c.requires c.args.posted c.in-Some.term.now (sym c.in-Some.ensures)

pub returns-in-Some-clause-graph : goal.returns-in-Some-clause-graph
returns-in-Some-clause-graph c =
    on_ok_weaker c.add_term.result (graph_posted c.args.model.now c.args.posted c.in-Some.term.now (sym c.in-Some.ensures) c.args.graph.now c.add_term.new.graph) c.add_term.ensures.graph

pub returns-in-Some-clause-id : goal.returns-in-Some-clause-id
returns-in-Some-clause-id c =
    IfOk-weaker c.add_term.result _ _ (id_posted c.args.model.now c.args.posted c.in-Some.term.now (sym c.in-Some.ensures) c.args.graph.now) c.add_term.ensures.id

pub returns-in-None-clause-graph : goal.returns-in-None-clause-graph
returns-in-None-clause-graph c = graph_none c.args.model.now c.args.posted (sym c.in-None.ensures) c.args.graph.now

pub returns-in-None-clause-id : goal.returns-in-None-clause-id
returns-in-None-clause-id c = λ so_far t are is. absurd (let none : None ≡ Some t = c.in-None.ensures ∙ is in cc)
