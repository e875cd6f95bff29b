use Rattle.node_kinds.proofs.operation_kind.OperationKindNumberNode.probe.Goals as goal

pub returns-in-Count : goal.returns-in-Count
returns-in-Count c = rw c.in-Count.is c.probe-in-Count.ensures

pub returns-in-Element2 : goal.returns-in-Element2
returns-in-Element2 c = rw c.in-Element2.is c.probe-in-Element2.ensures
