use Rattle.declaration_forms.proofs.variable_arrays.numbers_of_list.Goals as goal

pub returns : goal.returns
returns g c = record { did = c.take_numbers.ensures.did _ c.value_of-value.ensures.did }
