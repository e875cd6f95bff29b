use Rattle.std.proofs.Common.{◌∙◌, sym, map}
use Rattle.comet_meaning.proofs.GoingOn.{goes_then, goes_give}
use Rattle.comet_meaning.proofs.GoingTerms.{goes_node}
use Rattle.run_steps.proofs.AggregateLaws.{memory_ends}
use Rattle.run_steps.proofs.Exits.{exit}
use Rattle.form_parts.proofs.BodyLaws.{terms_seen}
use Rattle.term_forms.proofs.bodies.operation_of.Goals as goal

pub returns-in_err-terms : goal.returns-in_err-terms
returns-in_err-terms c = record { did = λ s. exit _ _ s _ _ c.from_residual.ensures.1 (memory_ends _ _ _ c.in_err-terms.ensures.memory ((goes_then (goes_node _ _ _) (λ t. goes_give)).from s).printed) }

pub returns : goal.returns
returns c = record { did = λ s. c.as_in_term.ensures.did s _ (rw (c.in_ok-terms.ensures.terms ∙ terms_seen c.args.bodies.items) at (c.node_of.ensures.did s)) }
