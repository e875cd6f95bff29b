use Rattle.solver_store.proofs.HeldTerms.{arguments_held}
use Rattle.solver_store.proofs.KnownMembers.{all_known}
use Rattle.solver_store.proofs.ids.shares_of.Goals as goal

pub new-requires-clause-known : goal.new-requires-clause-known
new-requires-clause-known c = all_known c.args.model.now c.requires.formed

pub new-requires-clause-closed : goal.new-requires-clause-closed
new-requires-clause-closed c = λ t op args place e known. arguments_held c.args.model.now c.requires.formed t op args place e known
