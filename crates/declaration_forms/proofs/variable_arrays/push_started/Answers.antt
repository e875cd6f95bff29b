use Rattle.std.proofs.Common.{refl}
use Rattle.checked_tree.specs.Actions.{variable_of}
use Rattle.comet_meaning.specs.Variables.{next_cell}
use Rattle.comet_meaning.proofs.GoingOn.{goes_then, goes_charge}
use Rattle.comet_meaning.proofs.GoingStatements.{goes_level}
use Rattle.comet_meaning.proofs.GoingVariables.{goes_beginning}
use Rattle.std.proofs.lemmas.Result.{err_from_is_err_and}
use Rattle.run_steps.proofs.Goes.{goes_added_cell}
use Rattle.run_steps.proofs.Stops.{stopped_then}
use Rattle.declaration_forms.proofs.variable_arrays.push_started.Goals as goal

pub returns-in_err-charge : goal.returns-in_err-charge
unfolding next_cell
returns-in_err-charge g c = let p = err_from_is_err_and c.from_residual.result c.from_residual.ensures.1 in record { did = rw (p.1, p.2) (stopped_then _ _ _ _ (goes_charge _ _) refl (λ _. goes_then (goes_beginning _ (goes_level _ _) _ _) (λ b. goes_added_cell c.args.at (variable_of c.args.variable.now) c.args.decl c.args.indices.now c.args.cells.items b)) (c.in_err-charge.ensures.did _)) }

pub returns : goal.returns
unfolding next_cell
returns g c = record { did = rw (c.in_ok-charge.ensures.did (g.O.Outside.told c.args.out.now)) (c.push_variable.ensures.did _ (rw c.variable_kind-kind.ensures at c.beginning_of-beginning.ensures.did)) }
