use Rattle.model_nodes.proofs.CellSteps.{defined_other}
use Rattle.model_nodes.proofs.cells.define.Goals as goal

pub returns-in_default-clause-defined : goal.returns-in_default-clause-defined
returns-in_default-clause-defined c = defined_other c.args.definitions.now c.args.id c.args.lists.now.items c.args.posted c.in_default.not-Define
