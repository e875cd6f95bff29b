use Rattle.diff_global.proofs.RepeatLemmas.{violations_fit, violations_as}
use Rattle.diff_global.proofs.all_different.AllDifferentNumberNode.value.Goals as goal

pub overflow_cast-result : goal.overflow_cast-result
overflow_cast-result c = record { sfits = violations_fit c.args.self.now.tally _ c.requires.0 c.requires.1 }

pub returns : goal.returns
returns c = violations_as c.args.self.now.tally _ c.requires.0 c.requires.1
