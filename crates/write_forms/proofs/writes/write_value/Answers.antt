use Rattle.comet_meaning.specs.Writes.{write_form}
use Rattle.write_forms.proofs.writes.write_value.Goals as goal

pub returns-in-Set : goal.returns-in-Set
unfolding write_form
returns-in-Set g c = record { did = rw c.in-Set.is c.assign.ensures.did }

pub returns-in-Assign : goal.returns-in-Assign
unfolding write_form
returns-in-Assign g c = record { did = rw c.in-Assign.is c.assign-in-Assign.ensures.did }

pub returns-in-Add : goal.returns-in-Add
unfolding write_form
returns-in-Add g c = record { did = rw c.in-Add.is c.add_value.ensures.did }

pub returns-in-Define : goal.returns-in-Define
unfolding write_form
returns-in-Define g c = record { did = rw c.in-Define.is c.define_value.ensures.did }

pub returns-in-Subtract : goal.returns-in-Subtract
unfolding write_form
returns-in-Subtract g c = record { did = rw c.in-Subtract.is c.subtract_value.ensures.did }
