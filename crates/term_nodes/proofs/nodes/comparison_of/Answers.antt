use Rattle.term_nodes.proofs.nodes.comparison_of.Goals as goal

pub returns-in-Equal : goal.returns-in-Equal
returns-in-Equal c = record { did = λ s. rw c.in-Equal.is (c.node_of_two.ensures.did s) }

pub returns-in-NotEqual : goal.returns-in-NotEqual
returns-in-NotEqual c = record { did = λ s. rw c.in-NotEqual.is (c.node_of_two-in-NotEqual.ensures.did s) }

pub returns-in-Less : goal.returns-in-Less
returns-in-Less c = record { did = λ s. rw c.in-Less.is (c.node_of_two-in-Less.ensures.did s) }

pub returns-in-LessEqual : goal.returns-in-LessEqual
returns-in-LessEqual c = record { did = λ s. rw c.in-LessEqual.is (c.node_of_two-in-LessEqual.ensures.did s) }

pub returns-in-Greater : goal.returns-in-Greater
returns-in-Greater c = record { did = λ s. rw c.in-Greater.is (c.node_of_two-in-Greater.ensures.did s) }

pub returns-in-GreaterEqual : goal.returns-in-GreaterEqual
returns-in-GreaterEqual c = record { did = λ s. rw c.in-GreaterEqual.is (c.node_of_two-in-GreaterEqual.ensures.did s) }
