use Rattle.comet_meaning.specs.Declarations.{numbers_form, started_cells}
use Rattle.declaration_forms.proofs.array_declarations.first_numbers.Goals as goal

pub returns-in-None : goal.returns-in-None
unfolding numbers_form started_cells
returns-in-None g c = record { did = rw c.in-None.is c.fill_all.ensures.did }

pub returns-in-List : goal.returns-in-List
unfolding numbers_form started_cells
returns-in-List g c = record { did = rw (c.in-Some.is, ← c.deref-start.ensures, c.in-List.is, ← c.requires.known) c.listed_numbers.ensures.did }

pub returns-in-Each : goal.returns-in-Each
unfolding numbers_form started_cells
returns-in-Each g c = record { did = rw (c.in-Some.is, ← c.deref-start.ensures, c.in-Each.is) c.fill_all-in-Each.ensures.did }

pub returns-in-Define : goal.returns-in-Define
unfolding numbers_form started_cells
returns-in-Define g c = record { did = rw (c.in-Some.is, ← c.deref-start.ensures, c.in-Define.is) c.fill_all-in-Define.ensures.did }
