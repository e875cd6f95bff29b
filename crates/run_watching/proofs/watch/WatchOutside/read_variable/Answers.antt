use Rattle.std.proofs.Common.{refl}
use Rattle.std.specs.Prelude.{[]}
use Rattle.run_outside.specs.Told.{beside, told_of}
use Rattle.run_watching.proofs.watch.WatchOutside.read_variable.Goals as goal

pub returns-clause-did : goal.returns-clause-did
returns-clause-did g c = λ s. c.read.ensures.did (beside (told_of [] c.args.self.now.solvers.now []) s) refl
