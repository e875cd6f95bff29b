use Rattle.std.specs.Prelude.{length}
use Rattle.comet_words.proofs.words.+ask.Given as goal

abbrev pub decreases-ask : goal.decreases-ask
decreases-ask l = length l.words.now
