use Rattle.std.proofs.lemmas.Result.{err_from_is_err_and}
use Rattle.layer_plan.proofs.components.Components.new.Goals as goal

pub returns-in_err-vec-clause-sound : goal.returns-in_err-vec-clause-sound
returns-in_err-vec-clause-sound c = rw (err_from_is_err_and c.from_residual.result c.from_residual.ensures.1).1 tt

pub returns-in_err-vec-clause-empty : goal.returns-in_err-vec-clause-empty
returns-in_err-vec-clause-empty c = rw (err_from_is_err_and c.from_residual.result c.from_residual.ensures.1).1 tt

pub returns-in_err-lengths-clause-sound : goal.returns-in_err-lengths-clause-sound
returns-in_err-lengths-clause-sound c = rw (err_from_is_err_and c.from_residual-in_err-lengths.result c.from_residual-in_err-lengths.ensures.1).1 tt

pub returns-in_err-lengths-clause-empty : goal.returns-in_err-lengths-clause-empty
returns-in_err-lengths-clause-empty c = rw (err_from_is_err_and c.from_residual-in_err-lengths.result c.from_residual-in_err-lengths.ensures.1).1 tt

pub returns-in_err-vec-2-clause-sound : goal.returns-in_err-vec-2-clause-sound
returns-in_err-vec-2-clause-sound c = rw (err_from_is_err_and c.from_residual-in_err-vec-2.result c.from_residual-in_err-vec-2.ensures.1).1 tt

pub returns-in_err-vec-2-clause-empty : goal.returns-in_err-vec-2-clause-empty
returns-in_err-vec-2-clause-empty c = rw (err_from_is_err_and c.from_residual-in_err-vec-2.result c.from_residual-in_err-vec-2.ensures.1).1 tt
