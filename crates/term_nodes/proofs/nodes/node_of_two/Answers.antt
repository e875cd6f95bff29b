use Rattle.comet_meaning.proofs.GoingTerms.{goes_node}
use Rattle.run_steps.proofs.Exits.{memory_exit}
use Rattle.term_nodes.proofs.nodes.node_of_two.Goals as goal

pub returns-in_err-push : goal.returns-in_err-push
returns-in_err-push c = record { did = λ s. memory_exit _ _ s _ c.from_residual.ensures.1 ((goes_node _ _ _).from s).printed }

pub returns-in_err-push-2 : goal.returns-in_err-push-2
returns-in_err-push-2 c = record { did = λ s. memory_exit _ _ s _ c.from_residual-in_err-push-2.ensures.1 ((goes_node _ _ _).from s).printed }

pub returns : goal.returns
returns c = record { did = λ s. rw (c.in_ok-push-2.ensures.items, c.in_ok-push.ensures.items, c.new-terms.ensures.items) at (c.node_of.ensures.did s) }
