use Rattle.comet_meaning.proofs.GoingTerms.{goes_node}
use Rattle.run_steps.proofs.Exits.{act_does}
use Rattle.term_nodes.proofs.nodes.node_of.Goals as goal

pub returns : goal.returns
returns c = record { did = λ s. act_does _ _ _ _ (c.node.ensures.did s) ((goes_node _ _ _).from _).printed }
