use Rattle.store_build.proofs.build.build_over.Given as goal

abbrev pub ghost-build_layers : goal.ghost-build_layers
ghost-build_layers g a = g.aim
