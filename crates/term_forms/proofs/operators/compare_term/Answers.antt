use Rattle.comet_meaning.specs.TermForms.{compare_term}
use Rattle.comet_meaning.proofs.GoingOn.{goes_then}
use Rattle.comet_meaning.proofs.GoingParts.{goes_one_term}
use Rattle.comet_meaning.proofs.GoingStatements.{goes_level}
use Rattle.comet_meaning.proofs.GoingTerms.{goes_node}
use Rattle.run_steps.proofs.Exits.{after, call_exit}
use Rattle.term_forms.proofs.operators.compare_term.Goals as goal

pub returns-in_err-left : goal.returns-in_err-left
unfolding compare_term
returns-in_err-left g c = record { did = call_exit _ _ _ _ _ _ c.from_residual.ensures.1 c.in_err-left.ensures.did (λ t. goes_then (goes_one_term _ (goes_level _ _) _) (λ u. goes_node _ _ _)) }

pub returns : goal.returns
unfolding compare_term
returns g c = record { did = after _ _ _ _ c.in_ok-left.ensures.did (c.compare_with.ensures.did _ _ c.single_term-right.ensures.did) }
