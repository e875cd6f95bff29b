use Rattle.comet_meaning.specs.TermForms.{chain_term}
use Rattle.comet_meaning.proofs.GoingTerms.{goes_links_term}
use Rattle.comet_meaning.proofs.GoingStatements.{goes_level}
use Rattle.run_steps.proofs.Exits.{after, call_exit}
use Rattle.term_forms.proofs.operators.chain_term.Goals as goal

pub returns-in_err-term : goal.returns-in_err-term
unfolding chain_term
returns-in_err-term g c = record { did = call_exit _ _ _ _ _ _ c.from_residual.ensures.1 c.in_err-term.ensures.did (λ t. goes_links_term _ (goes_level _ _) _ t) }

pub returns : goal.returns
unfolding chain_term
returns g c = record { did = after _ _ _ _ c.in_ok-term.ensures.did c.links_term.ensures.did }
