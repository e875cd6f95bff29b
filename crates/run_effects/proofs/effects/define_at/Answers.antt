use Rattle.run_effects.proofs.effects.define_at.Goals as goal

pub returns-in-Moved : goal.returns-in-Moved
returns-in-Moved g c = record { did = λ s. rw c.in-Moved.is (c.define.ensures.did s); printed = c.define.ensures.printed }
