use Rattle.comet_meaning.specs.Declarations.{listed_form}
use Rattle.declaration_forms.proofs.array_declarations.listed_numbers.Goals as goal

pub returns : goal.returns
unfolding listed_form
returns g c = record { did = c.take_list.ensures.did _ c.value_of-list.ensures.did }
