use Rattle.comet_meaning.proofs.GoingOn.{goes_then}
use Rattle.comet_meaning.proofs.GoingParts.{goes_number}
use Rattle.comet_meaning.proofs.GoingStatements.{goes_level}
use Rattle.run_steps.proofs.Exits.{after, call_exit}
use Rattle.run_steps.proofs.Goes.{goes_index_written}
use Rattle.comet_meaning.specs.Writes.{index_target}
use Rattle.write_forms.proofs.targets.target_of_index.Goals as goal

pub returns-in_err-array : goal.returns-in_err-array
unfolding index_target
returns-in_err-array g c = record { did = call_exit _ _ _ _ _ _ c.from_residual.ensures.1 c.in_err-array.ensures.did (λ v. goes_then (goes_number _ (goes_level _ _) _) (λ z. goes_index_written _ v z)) }

pub returns : goal.returns
unfolding index_target
returns g c = record { did = after _ _ _ _ c.in_ok-array.ensures.did (c.target_in_array.ensures.did _ _ c.number_of-index.ensures.did) }
