use Rattle.comet_words.specs.Asked.{asked}
use Rattle.comet.proofs.OneOutput.{one_asked}
use Rattle.comet.proofs.laws.one_output.Goals as goal

pub returns : goal.returns
returns c = λ users words held cause other printed others r s. one_asked users (asked words) held cause other printed others r s
