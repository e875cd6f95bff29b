use Rattle.model_store.specs.Settings.{users_in}
use Rattle.model_nodes.proofs.storing.build.Given as goal

abbrev pub ghost-nodes_of : goal.ghost-nodes_of
ghost-nodes_of g a = record { users = users_in g.setting; model = a.model.now }

abbrev pub ghost-build : goal.ghost-build
ghost-build g a = g.setting
