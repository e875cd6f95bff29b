use Rattle.declaration_forms.proofs.variable_arrays.started_cells.Goals as goal

pub returns : goal.returns
returns g c = record { did = c.make_all.ensures.did }
