use Rattle.solver_store.specs.Closed.{setting_of}
use Rattle.solver_store.specs.KeptRules.{waiting_rules}
use Rattle.solver_store.proofs.closed.close.Given as goal

abbrev pub ghost-build : goal.ghost-build
ghost-build g a = setting_of a.model.now a.assignment.now (waiting_rules g.N.NodeRule.rule a.users.items)
