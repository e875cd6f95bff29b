use Rattle.declaration_forms.proofs.variable_arrays.push_cell.Goals as goal

pub returns-in-None : goal.returns-in-None
returns-in-None g c = record { did = rw c.in-None.is c.push_started.ensures.did }

pub returns-in-Some : goal.returns-in-Some
returns-in-Some g c = record { did = rw (c.in-Some.is, ← c.deref.ensures.value) c.push_listed.ensures.did }
