use Rattle.std.proofs.Common.{◌∙◌}
use Rattle.comet_meaning.proofs.GoingTerms.{goes_node}
use Rattle.run_steps.proofs.AggregateLaws.{memory_ends}
use Rattle.run_steps.proofs.Exits.{exit}
use Rattle.form_parts.proofs.BodyLaws.{terms_seen}
use Rattle.constraint_forms.proofs.operator_nodes.join.Goals as goal

pub returns-in_err-terms : goal.returns-in_err-terms
returns-in_err-terms c = record { did = λ s. exit _ _ s _ _ c.from_residual.ensures.1 (memory_ends _ _ _ c.in_err-terms.ensures.memory ((goes_node _ _ _).from s).printed) }

pub returns : goal.returns
returns c = record { did = λ s. rw (c.in_ok-terms.ensures.terms ∙ terms_seen c.args.bodies.items) at (rw c.joining.ensures at (c.node_of.ensures.did s)) }
