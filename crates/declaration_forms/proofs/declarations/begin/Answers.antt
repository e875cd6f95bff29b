use Rattle.comet_meaning.specs.Variables.{started_form}
use Rattle.declaration_forms.proofs.declarations.begin.Goals as goal

pub returns-in-Define : goal.returns-in-Define
unfolding started_form
returns-in-Define g c = record { did = rw c.in-Define.is (c.as_defined.ensures.did _ _ c.single_term.ensures.did) }

pub returns-in-Each : goal.returns-in-Each
unfolding started_form
returns-in-Each g c = record { did = rw c.in-Each.is c.begin_number.ensures.did }

pub returns-in-List : goal.returns-in-List
unfolding started_form
returns-in-List g c = record { did = rw c.in-List.is c.begin_number-in-List.ensures.did }
