use Rattle.statement_forms.proofs.loops.perform_step.Goals as goal

pub returns-in-Some : goal.returns-in-Some
returns-in-Some g c = record { did = rw c.in-Some.is c.perform.ensures.did }
