use Rattle.node_kinds.proofs.operation_kind.OperationKindNumberNode.value.Goals as goal

pub returns-in-Count : goal.returns-in-Count
returns-in-Count c = rw c.in-Count.is c.value-in-Count.ensures
