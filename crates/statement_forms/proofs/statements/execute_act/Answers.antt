use Rattle.std.proofs.Common.{refl}
use Rattle.comet_meaning.proofs.Rows.{tasks_row}
use Rattle.comet_meaning.specs.Statements.{meaning_of_form}
use Rattle.run_steps.proofs.Trees.{act_action, act_block, act_for, act_for_all, act_if, act_if_else, act_neighbor, act_parall, act_select, act_select_by, act_whenever, act_while, act_with}
use Rattle.statement_forms.proofs.statements.execute_act.Goals as goal

pub returns-in-Action : goal.returns-in-Action
unfolding meaning_of_form
returns-in-Action g c = record { did = rw (c.in-Action.is, act_action _) c.execute_action.ensures.did }

pub returns-in-Block : goal.returns-in-Block
unfolding meaning_of_form
returns-in-Block g c = record { did = rw (c.in-Block.is, act_block _, tasks_row, ← c.deref.ensures.value) c.execute_all.ensures.did }

pub returns-in-If : goal.returns-in-If
unfolding meaning_of_form
returns-in-If g c = record { did = rw (c.in-If.is, act_if _ _, ← c.deref-in-If.ensures) c.execute_if.ensures.did }

pub returns-in-IfElse : goal.returns-in-IfElse
unfolding meaning_of_form
returns-in-IfElse g c = record { did = rw (c.in-IfElse.is, act_if_else _ _ _, ← c.deref-in-IfElse.ensures, ← c.deref-in-IfElse-2.ensures) c.execute_if_else.ensures.did }

pub returns-in-While : goal.returns-in-While
unfolding meaning_of_form
returns-in-While g c = record { did = rw (c.in-While.is, act_while _ _, ← c.deref-in-While.ensures) c.execute_while.ensures.did }

pub returns-in-For : goal.returns-in-For
unfolding meaning_of_form
returns-in-For g c = record { did = rw (c.in-For.is, act_for _ _, ← c.deref-head.ensures, ← c.deref-in-For.ensures) c.execute_for.ensures.did }

pub returns-in-ForAll : goal.returns-in-ForAll
unfolding meaning_of_form
returns-in-ForAll g c = record { did = rw (c.in-ForAll.is, act_for_all _ _, ← c.deref-choice.ensures, ← c.deref-in-ForAll.ensures.value, ← c.deref-in-ForAll-2.ensures) c.execute_for_all.ensures.did }

pub returns-in-Select : goal.returns-in-Select
unfolding meaning_of_form
returns-in-Select g c = record { did = rw (c.in-Select.is, act_select _ _, ← c.deref-choice-in-Select.ensures, ← c.deref-in-Select.ensures.value, ← c.deref-in-Select-2.ensures) c.execute_select.ensures.did }

pub returns-in-SelectBy : goal.returns-in-SelectBy
unfolding meaning_of_form
returns-in-SelectBy g c = record { did = rw (c.in-SelectBy.is, act_select_by _ _ _ _, ← c.deref-choice-in-SelectBy.ensures, ← c.deref-in-SelectBy.ensures.value, ← c.deref-in-SelectBy-2.ensures, ← c.deref-in-SelectBy-3.ensures) c.execute_select_by.ensures.did }

pub returns-in-Neighbor : goal.returns-in-Neighbor
unfolding meaning_of_form
returns-in-Neighbor g c = record { did = rw (c.in-Neighbor.is, act_neighbor _ _ _) c.execute_neighbor.ensures.did }

pub returns-in-Whenever : goal.returns-in-Whenever
unfolding meaning_of_form
returns-in-Whenever g c = record { did = rw (c.in-Whenever.is, act_whenever _ _ _, ← c.deref-in-Whenever.ensures) c.execute_whenever.ensures.did }

pub returns-in-With : goal.returns-in-With
unfolding meaning_of_form
returns-in-With g c = record { did = rw (c.in-With.is, act_with _ _ _, ← c.deref-in-With.ensures) c.execute_together.ensures.did }

pub returns-in-Parall : goal.returns-in-Parall
unfolding meaning_of_form
returns-in-Parall g c = record { did = rw (c.in-Parall.is, act_parall _ _ _) refl }
