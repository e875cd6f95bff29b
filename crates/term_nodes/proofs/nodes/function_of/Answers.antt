use Rattle.term_nodes.proofs.nodes.function_of.Goals as goal

pub returns-in-Abs : goal.returns-in-Abs
returns-in-Abs c = record { did = λ s. rw c.in-Abs.is (c.node_of.ensures.did s) }

pub returns-in-Min : goal.returns-in-Min
returns-in-Min c = record { did = λ s. rw c.in-Min.is (c.node_of-in-Min.ensures.did s) }

pub returns-in-Max : goal.returns-in-Max
returns-in-Max c = record { did = λ s. rw c.in-Max.is (c.node_of-in-Max.ensures.did s) }

pub returns-in-Card : goal.returns-in-Card
returns-in-Card c = record { did = λ s. rw c.in-Card.is (c.node_of-in-Card.ensures.did s) }

pub returns-in-Member : goal.returns-in-Member
returns-in-Member c = record { did = λ s. rw c.in-Member.is (c.node_of-in-Member.ensures.did s) }

pub returns-in-Union : goal.returns-in-Union
returns-in-Union c = record { did = λ s. rw c.in-Union.is (c.node_of-in-Union.ensures.did s) }

pub returns-in-Inter : goal.returns-in-Inter
returns-in-Inter c = record { did = λ s. rw c.in-Inter.is (c.node_of-in-Inter.ensures.did s) }

pub returns-in-Minus : goal.returns-in-Minus
returns-in-Minus c = record { did = λ s. rw c.in-Minus.is (c.node_of-in-Minus.ensures.did s) }
