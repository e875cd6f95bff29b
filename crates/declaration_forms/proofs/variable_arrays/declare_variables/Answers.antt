use Rattle.std.proofs.Common.{refl, ap, subst, List, map, option_map}
use Rattle.checked_tree.specs.Actions.{start_of, variable_of}
use Rattle.comet_meaning.specs.Outcome.{Outcome, then_do}
use Rattle.comet_meaning.specs.Program.{level}
use Rattle.comet_meaning.specs.Variables.{cells_form, declared, several_form, variable_kind}
use Rattle.comet_meaning.proofs.GoingOn.{goes_then, goes_unless}
use Rattle.comet_meaning.proofs.GoingStatements.{goes_level}
use Rattle.comet_meaning.proofs.GoingVariables.{goes_domain, goes_variable_cells}
use Rattle.run_values.specs.Views.{bounds_seen}
use Rattle.run_steps.specs.OfRunState.Views.{state_seen}
use Rattle.std.proofs.lemmas.Result.{err_from_is_err_and}
use Rattle.run_effects.specs.declared.cells.Extent.{Extent}
use Rattle.run_steps.specs.Does.{Does}
use Rattle.run_effects.specs.Extents.{extent_seen}
use Rattle.run_steps.specs.Operands.{made_variables}
use Rattle.run_steps.proofs.Goes.{goes_made_variables}
use Rattle.run_steps.proofs.Stops.{ended_then, stopped_then}
use Rattle.declaration_forms.proofs.variable_arrays.declare_variables.Goals as goal

pub returns-in_err-extents : goal.returns-in_err-extents
unfolding several_form
returns-in_err-extents g c = let p = err_from_is_err_and c.from_residual.result c.from_residual.ensures.1 in record { did = rw (p.1, p.2) (ended_then _ _ _ _ (λ ds. goes_then (goes_unless _ _ _) (λ _. goes_then (goes_domain _ (goes_level _ _) _) (λ d. goes_then (goes_variable_cells _ (goes_level _ _) _ _ _ ds _) (λ xs. goes_made_variables _ ds xs)))) (rw c.deref.ensures.value at c.in_err-extents.ensures.did)) }

pub returns-in_err-count : goal.returns-in_err-count
unfolding several_form
returns-in_err-count g c = let p = err_from_is_err_and c.from_residual-in_err-count.result c.from_residual-in_err-count.ensures.1 in record { did = rw (p.1, p.2, (rw c.deref.ensures.value at c.in_ok-extents.ensures.did), ← c.as_slice-sides.ensures.value) (stopped_then _ _ _ _ (goes_unless _ _ _) refl (λ _. goes_then (goes_domain _ (goes_level _ _) _) (λ d. goes_then (goes_variable_cells _ (goes_level _ _) _ _ _ _ _) (λ xs. goes_made_variables c.args.variable.now.slot (map extent_seen c.as_slice-sides.result.now) xs))) (c.in_err-count.ensures.did _)) }

pub returns-in_err-domain : goal.returns-in_err-domain
unfolding several_form
returns-in_err-domain g c = let p = err_from_is_err_and c.from_residual-in_err-domain.result c.from_residual-in_err-domain.ensures.1 in record { did = rw (p.1, p.2, (rw c.deref.ensures.value at c.in_ok-extents.ensures.did), ← c.as_slice-sides.ensures.value, c.in_ok-count.ensures.did (state_seen c.extents_of.new.s (g.O.Outside.told c.extents_of.new.out))) (ended_then _ _ _ _ (λ d. goes_then (goes_variable_cells _ (goes_level _ _) _ _ _ _ _) (λ xs. goes_made_variables c.args.variable.now.slot (map extent_seen c.as_slice-sides.result.now) xs)) c.in_err-domain.ensures.did) }

pub returns : goal.returns
unfolding several_form
returns g c =
    let acts : List Extent → Outcome (Unit {0}) = λ xs. then_do (cells_form (level (g.W.Within.code c.args.inside.now) (g.W.Within.depth c.args.inside.now)) c.args.at (variable_of c.args.variable.now) (declared (variable_kind c.args.variable.now.kind) (bounds_seen c.in_ok-domain.domain)) (map extent_seen xs) (option_map start_of c.args.variable.now.start) (state_seen c.domain_of.new.s (g.O.Outside.told c.domain_of.new.out))) (made_variables c.args.variable.now.slot (map extent_seen xs)) in
    record { did = rw ((rw c.deref.ensures.value at c.in_ok-extents.ensures.did), (rw c.as_slice-sides.ensures.value at (c.in_ok-count.ensures.did (state_seen c.extents_of.new.s (g.O.Outside.told c.extents_of.new.out)))), c.in_ok-domain.ensures.did) (subst (Does _ _ _) (ap acts c.as_slice-sides.ensures.value) (c.make_variables.ensures.did (g.O.Outside.told c.cells_of-variables.new.out) _ (rw c.declared-decl.ensures at c.cells_of-variables.ensures.did))) }
