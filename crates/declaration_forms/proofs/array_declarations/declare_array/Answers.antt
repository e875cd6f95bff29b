use Rattle.std.proofs.Common.{refl}
use Rattle.comet_meaning.proofs.GoingOn.{goes_then, goes_new_array, goes_put, goes_unless}
use Rattle.comet_meaning.proofs.GoingStatements.{goes_level}
use Rattle.comet_meaning.proofs.GoingDeclarations.{goes_numbers}
use Rattle.run_steps.specs.OfRunState.Views.{state_seen}
use Rattle.std.proofs.lemmas.Result.{err_from_is_err_and}
use Rattle.comet_meaning.specs.Declarations.{array_form}
use Rattle.run_steps.proofs.Stops.{ended_then, stopped_then}
use Rattle.declaration_forms.proofs.array_declarations.declare_array.Goals as goal

pub returns-in_err-extents : goal.returns-in_err-extents
unfolding array_form
returns-in_err-extents g c = let p = err_from_is_err_and c.from_residual.result c.from_residual.ensures.1 in record { did = rw (p.1, p.2) (ended_then _ _ _ _ (λ ds. goes_then (goes_unless _ _ _) (λ _. goes_then (goes_numbers _ (goes_level _ _) _ ds _) (λ xs. goes_then (goes_new_array _) (λ a. goes_put _ a)))) c.in_err-extents.ensures.did) }

pub returns-in_err-count : goal.returns-in_err-count
unfolding array_form
returns-in_err-count g c = let p = err_from_is_err_and c.from_residual-in_err-count.result c.from_residual-in_err-count.ensures.1 in record { did = rw (p.1, p.2, c.in_ok-extents.ensures.did, ← c.as_slice-sides.ensures.value) (stopped_then _ _ _ _ (goes_unless _ _ _) refl (λ _. goes_then (goes_numbers _ (goes_level _ _) _ _ _) (λ xs. goes_then (goes_new_array _) (λ a. goes_put _ a))) (c.in_err-count.ensures.did _)) }

pub returns : goal.returns
unfolding array_form
returns g c = record { did = rw (c.in_ok-extents.ensures.did, ← c.as_slice-sides.ensures.value, c.in_ok-count.ensures.did (state_seen c.extents_of.new.s (g.O.Outside.told c.extents_of.new.out))) (c.make_array.ensures.did _ _ c.first_numbers-numbers.ensures.did) }
