use Rattle.checked_tree.specs.Actions.{variable_of}
use Rattle.comet_meaning.specs.Variables.{single_form}
use Rattle.comet_meaning.proofs.GoingOn.{goes_then}
use Rattle.comet_meaning.proofs.GoingStatements.{goes_level}
use Rattle.comet_meaning.proofs.GoingVariables.{goes_beginning}
use Rattle.std.proofs.lemmas.Result.{err_from_is_err_and}
use Rattle.run_steps.proofs.Goes.{goes_added_variable}
use Rattle.run_steps.proofs.Stops.{ended_then}
use Rattle.declaration_forms.proofs.declarations.declare_single.Goals as goal

pub returns-in_err-domain : goal.returns-in_err-domain
unfolding single_form
returns-in_err-domain g c = let p = err_from_is_err_and c.from_residual.result c.from_residual.ensures.1 in record { did = rw (p.1, p.2) (ended_then _ _ _ _ (λ d. goes_then (goes_beginning _ (goes_level _ _) _ _) (λ b. goes_added_variable c.args.at (variable_of c.args.variable.now) d b)) c.in_err-domain.ensures.did) }

pub returns : goal.returns
unfolding single_form
returns g c = record { did = rw c.in_ok-domain.ensures.did (c.begin_variable.ensures.did _ (rw c.variable_kind-kind.ensures at c.beginning_of-beginning.ensures.did)) }
