use Rattle.std.proofs.Common.{refl}
use Rattle.comet_meaning.proofs.GoingOn.{goes_then, goes_give, goes_charge}
use Rattle.comet_meaning.proofs.GoingStatements.{goes_level}
use Rattle.comet_meaning.proofs.GoingDeclarations.{goes_start_number}
use Rattle.std.proofs.lemmas.Result.{err_from_is_err_and}
use Rattle.comet_meaning.specs.Declarations.{next_cell}
use Rattle.run_steps.proofs.Stops.{stopped_then}
use Rattle.declaration_forms.proofs.array_declarations.push_cell.Goals as goal

pub returns-in_err-charge : goal.returns-in_err-charge
unfolding next_cell
returns-in_err-charge g c = let p = err_from_is_err_and c.from_residual.result c.from_residual.ensures.1 in record { did = λ is. rw (p.1, p.2) (stopped_then _ _ _ _ (goes_charge _ _) refl (λ _. goes_then (goes_start_number _ (goes_level _ _) _) (λ z. goes_give)) (c.in_err-charge.ensures.did _)) }

pub returns : goal.returns
unfolding next_cell
returns g c = record { did = λ is. rw (c.in_ok-charge.ensures.did (g.O.Outside.told c.args.out.now)) (c.push_number.ensures.did _ _ c.start_number.ensures.did) }
