-- What was tried is finished.
use Rattle.run_solvers.proofs.FoundSolvers.{finished, kept_from, others_of}
use Rattle.run_solvers.proofs.held.Held.define.Goals as goal

pub try_define-made-requires-clause-whole : goal.try_define-made-requires-clause-whole
try_define-made-requires-clause-whole g c = c.requires.kept.0

pub finish-requires : goal.finish-requires
finish-requires g c =
    let old = c.args.self.now in
    kept_from {N = g.row.N.Denot} c.try_define-made.result c.try_define-made.new.self old.solver.model c.args.variable.index c.try_define-made.ensures.whole c.try_define-made.ensures.sets (others_of old.solver.model c.args.variable.index c.requires.kept.1)

pub returns : goal.returns
returns g c =
    let old = c.args.self.now in
    finished old _ _ c.try_define-made.result c.finish.result _
    (record {
      meant = c.try_define-made.ensures.meant;
      kept = kept_from {N = g.row.N.Denot} c.try_define-made.result c.try_define-made.new.self old.solver.model c.args.variable.index c.try_define-made.ensures.whole c.try_define-made.ensures.sets (others_of old.solver.model c.args.variable.index c.requires.kept.1);
      number = c.try_define-made.ensures.number;
    })
    c.finish.ensures.same c.finish.ensures.kept c.finish.ensures.number c.finish.ensures.unchanged
