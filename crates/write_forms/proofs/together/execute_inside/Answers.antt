use Rattle.write_forms.proofs.together.execute_inside.Goals as goal

pub returns-then-outermost : goal.returns-then-outermost
returns-then-outermost g c = record { did = rw c.if-outermost.true (c.behind_block.ensures.did _ (c.commit_part-committed.ensures.did _ c.execute-flow.ensures.did)) }

pub returns-else-outermost : goal.returns-else-outermost
returns-else-outermost g c = record { did = rw c.if-outermost.false c.execute-flow.ensures.did }
