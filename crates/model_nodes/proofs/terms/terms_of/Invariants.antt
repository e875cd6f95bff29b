use Rattle.std.proofs.Common.{◌≡◌, take}
use Rattle.term_graph.specs.Graphs.{IsGraphOf}
use Rattle.term_model.specs.Subterms.{once, subterms_posted}
use Rattle.model_nodes.specs.PostedIds.{ArePostedIds}
use Rattle.model_nodes.proofs.terms.terms_of.Given as goal

abbrev pub invariant-loop-turn : goal.invariant-loop-turn
invariant-loop-turn l = record {
  cells : l.graph.cells ≡ l.cells;
  graph : IsGraphOf l.graph (once (subterms_posted l.model (take l.turn l.model.posted.items)));
  ids : ArePostedIds l.model l.cells (take l.turn l.model.posted.items) l.ids.items;
}
