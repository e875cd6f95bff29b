use Rattle.std.proofs.Common.{sym}
use Rattle.cbl_base.specs.Inputs.{set_kind}
use Rattle.cbl_base.specs.declared.input.Input.TheVariants.{Set}
use Rattle.solver_models.proofs.ReadLaws.{set_readable}
use Rattle.ls_solver.proofs.ClosedLaws.{read_kind, read_value}
use Rattle.ls_solver.proofs.solver.Solver.set_value.Goals as goal

pub set-requires-clause-kind : goal.set-requires-clause-kind
set-requires-clause-kind g c =
    let own = (set_readable c.args.self.now c.args.x (sym c.in-None.ensures)).0 in
    read_kind g.N.NodeRule.rule g.N.NodeRule.held g.N.NodeRule.ready c.args.self.now c.kept.result.now c.kept.ensures c.args.x own set_kind (c.requires.kind own)

pub returns-in-None-clause-value : goal.returns-in-None-clause-value
returns-in-None-clause-value g c =
    let own = (set_readable c.args.self.now c.args.x (sym c.in-None.ensures)).0 in
    read_value g.N.NodeRule.rule g.N.NodeRule.held g.N.NodeRule.ready c.args.self.now c.kept.result.now c.kept.ensures c.args.x own (Set c.set.result.now) c.set.ensures
