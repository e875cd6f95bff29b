use Rattle.run_solvers.proofs.BuiltLaws.{not_user}
use Rattle.run_solvers.proofs.built.is_user.Goals as goal

pub returns-in_default : goal.returns-in_default
returns-in_default c = not_user c.args.op.now c.in_default.not-User
