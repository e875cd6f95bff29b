use Rattle.comet_meaning.proofs.GoingOn.{goes_then, goes_give}
use Rattle.comet_meaning.proofs.GoingTerms.{goes_node}
use Rattle.run_steps.proofs.AggregateLaws.{memory_ends}
use Rattle.run_steps.proofs.Exits.{exit}
use Rattle.term_forms.proofs.bodies.keyed_of.Goals as goal

pub returns-in_err-keys : goal.returns-in_err-keys
returns-in_err-keys c = record { did = λ s. exit _ _ s _ _ c.from_residual.ensures.1 (memory_ends _ _ _ c.in_err-keys.ensures.memory ((goes_then (goes_node _ _ _) (λ t. goes_give)).from s).printed) }

pub returns : goal.returns
returns c = record { did = λ s. rw (rw c.deref.ensures.value at c.in_ok-keys.ensures.keys) at (c.operation_of.ensures.did s) }
