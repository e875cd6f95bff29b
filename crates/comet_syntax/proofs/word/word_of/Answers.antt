use Rattle.std.proofs.Common.{refl}
use Rattle.comet_syntax.proofs.Words.{of_every_word}
use Rattle.comet_syntax.proofs.word.word_of.Goals as goal

pub word_among-requires-clause-known : goal.word_among-requires-clause-known
word_among-requires-clause-known c = of_every_word _ refl
