use Rattle.declaration_forms.proofs.declarations.begin_number.Goals as goal

pub returns : goal.returns
returns g c = record { did = c.as_free.ensures.did _ _ c.number_of-number.ensures.did }
