use Rattle.std.proofs.Common.{refl, sym}
use Rattle.comet_meaning.specs.Program.{run}
use Rattle.comet_meaning.proofs.laws.one_end.Goals as goal

pub returns : goal.returns
returns c = λ p s. (run p s, refl, λ n e. sym e)
