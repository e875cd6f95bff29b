use Rattle.std.proofs.Common.{sym}
use Rattle.model_nodes.proofs.HeadLemmas.{not_user}
use Rattle.model_nodes.proofs.heads.user_in.Goals as goal

pub returns-in_default : goal.returns-in_default
returns-in_default c = sym (not_user c.args.op.now c.in_default.not-User)
