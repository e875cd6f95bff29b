use Rattle.std.proofs.Common.{refl}
use Rattle.run_outside.specs.Told.{beside, told_of}
use Rattle.run_outside.proofs.beside.restore_beside.Goals as goal

pub returns-clause-did : goal.returns-clause-did
returns-clause-did g c = λ printed users s. c.restore.ensures.did (beside (told_of printed c.args.solvers.now users) s) refl
