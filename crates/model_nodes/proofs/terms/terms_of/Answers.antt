use Rattle.std.proofs.Common.{◌≡◌, ◌<◌, [], ◌∷◌, ◌++◌, length, get_or, take, ap, ◌∙◌, ℕ, rules, subst, sym, arith}
use Rattle.term_graph.specs.Ids.{id_among}
use Rattle.term_model.specs.Subterms.{once, subterms_posted}
use Rattle.term_model.specs.declared.model.Posted.{Posted}
use Rattle.store_build.proofs.ListLemmas.{at_place}
use Rattle.model_nodes.specs.PostedIds.{ArePostedIds, HasPostedCells}
use Rattle.model_nodes.proofs.PostedTerms.{ids_none}
use Rattle.model_nodes.proofs.PostedTurns.{graph_all, graph_turn, ids_all, ids_turn}
use Rattle.model_nodes.proofs.terms.terms_of.Goals as goal

pub loop-turn-init : goal.loop-turn-init
loop-turn-init c = record {
  cells = c.new-graph.ensures.cells;
  graph = c.new-graph.ensures.graph;
  ids = subst (λ js. ArePostedIds c.args.model.now c.args.cells [] js) (sym c.new-ids.ensures.items) (ids_none c.args.model.now c.args.cells);
}

pub add_posted-requires : goal.add_posted-requires
add_posted-requires c = subst (λ (n : ℕ). HasPostedCells c.args.model.now n) (sym c.loop-turn.invariant.cells) c.requires.cells

pub loop-turn-preserved : goal.loop-turn-preserved
loop-turn-preserved c =
    let M = c.args.model.now in
    let k = c.loop-turn.turn in
    let p : Posted = c.index.result.now in
    let is : p ≡ get_or M.posted.items k p = search rules in
    let lt : k < length M.posted.items = omega (arith, c.loop-turn-test.true, c.len-turn-end.ensures) in
    let at = at_place M.posted.items k p lt is in
    record {
      cells = c.add_posted.ensures.cells ∙ c.loop-turn.invariant.cells;
      graph = graph_turn M k p at c.loop-turn.graph c.add_posted.new.graph c.in_ok-id.ensures.graph c.loop-turn.invariant.graph;
      ids = ids_turn M k p at c.args.cells c.loop-turn.ids.items c.push.new.self.items c.in_ok-id.id c.in_ok-push.ensures.items
          (λ t e. c.in_ok-id.ensures.id (take k M.posted.items) t c.loop-turn.invariant.graph e ∙ ap (λ n. id_among n (once (subterms_posted M (take k M.posted.items ++ p ∷ []))) t) c.loop-turn.invariant.cells)
          c.loop-turn.invariant.ids;
    }

pub returns-clause-graph : goal.returns-clause-graph
returns-clause-graph c = graph_all c.args.model.now c.loop-turn.turn c.loop-turn.graph (omega (arith, c.loop-turn-test.false, c.len-turn-end.ensures)) c.loop-turn.invariant.graph

pub returns-clause-ids : goal.returns-clause-ids
returns-clause-ids c = ids_all c.args.model.now c.loop-turn.turn c.args.cells c.loop-turn.ids.items (omega (arith, c.loop-turn-test.false, c.len-turn-end.ensures)) c.loop-turn.invariant.ids
