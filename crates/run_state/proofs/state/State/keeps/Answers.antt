-- What is seen is there.
use Rattle.std.proofs.Common.{◌∙◌}
use Rattle.run_state.proofs.OtherValues.{seen_there}
use Rattle.run_state.proofs.state.State.keeps.Goals as goal

pub returns : goal.returns
returns c = λ printed. c.is_some.ensures ∙ seen_there _ c.kept.result _ (c.kept.ensures printed)
