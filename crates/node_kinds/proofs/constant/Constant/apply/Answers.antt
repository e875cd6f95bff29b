use Rattle.std.proofs.Common.{sym}
use Rattle.node_kinds.proofs.NoInputs.{no_changes}
use Rattle.node_kinds.proofs.constant.Constant.apply.Goals as goal

pub returns : goal.returns
returns c = record { held = sym (no_changes c.args._changes.now c.requires.changes) }
