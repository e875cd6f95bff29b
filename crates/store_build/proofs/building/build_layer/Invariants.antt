use Rattle.store_build.proofs.building.build_layer.Given as goal

abbrev pub ghost-gather : goal.ghost-gather
ghost-gather g a = g.aim

abbrev pub ghost-keep_nodes : goal.ghost-keep_nodes
ghost-keep_nodes g a = g.aim
