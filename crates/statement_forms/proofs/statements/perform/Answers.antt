use Rattle.checked_tree.specs.Actions.{deed_of}
use Rattle.comet_meaning.specs.Statements.{alone_form, deed_form}
use Rattle.statement_forms.proofs.statements.perform.Goals as goal

pub returns-in-Declare : goal.returns-in-Declare
unfolding deed_form deed_of
returns-in-Declare g c = record { did = rw c.in-Declare.is c.declare.ensures.did }

pub returns-in-DeclareArray : goal.returns-in-DeclareArray
unfolding deed_form deed_of
returns-in-DeclareArray g c = record { did = rw (c.in-DeclareArray.is, ← c.deref.ensures.value) c.declare_array.ensures.did }

pub returns-in-DeclareVariable : goal.returns-in-DeclareVariable
unfolding deed_form deed_of
returns-in-DeclareVariable g c = record { did = rw (c.in-DeclareVariable.is, ← c.deref-in-DeclareVariable.ensures) c.declare_variable.ensures.did }

pub returns-in-Make : goal.returns-in-Make
unfolding deed_form deed_of
returns-in-Make g c = record { did = rw (c.in-Make.is, ← c.deref-in-Make.ensures.value) c.declare_object.ensures.did }

pub returns-in-Write : goal.returns-in-Write
unfolding deed_form deed_of
returns-in-Write g c = record { did = rw (c.in-Write.is, ← c.deref-in-Write.ensures, ← c.deref-in-Write-2.ensures) c.write_value.ensures.did }

pub returns-in-Swap : goal.returns-in-Swap
unfolding deed_form deed_of
returns-in-Swap g c = record { did = rw (c.in-Swap.is, ← c.deref-in-Swap.ensures, ← c.deref-in-Swap-2.ensures) c.swap_values.ensures.did }

pub returns-in-Step : goal.returns-in-Step
unfolding deed_form deed_of
returns-in-Step g c = record { did = rw c.in-Step.is c.step_target.ensures.did }

pub returns-in-Do : goal.returns-in-Do
unfolding deed_form deed_of alone_form
returns-in-Do g c = record { did = rw c.in-Do.is (c.as_done.ensures.did _ _ c.value_of.ensures.did) }

pub returns-in-Print : goal.returns-in-Print
unfolding deed_form deed_of
returns-in-Print g c = record { did = rw (c.in-Print.is, ← c.deref-in-Print.ensures.value) c.print_all.ensures.did }

pub returns-in-Choose : goal.returns-in-Choose
unfolding deed_form deed_of
returns-in-Choose g c = record { did = rw c.in-Choose.is c.call_move.ensures.did }
