use Rattle.comet_meaning.specs.Expressions.{value_of_form}
use Rattle.comet_meaning.proofs.GoingOn.{goes_look}
use Rattle.run_steps.proofs.Exits.{act_does}
use Rattle.run_steps.proofs.Shapes.{form_name, form_chain, form_list, form_set, form_aggregate, form_builtin, form_call, form_method}
use Rattle.expression_forms.proofs.expressions.evaluate_form.Goals as goal

pub returns-in-Name : goal.returns-in-Name
unfolding value_of_form
returns-in-Name g c = record { did = rw (c.in-Name.is, form_name _) (act_does _ _ _ _ (c.look.ensures.did _) ((goes_look _).from _).printed) }

pub returns-in-Chain : goal.returns-in-Chain
unfolding value_of_form
returns-in-Chain g c = record { did = rw (c.in-Chain.is, form_chain _ _) (rw (c.deref-in-Chain.ensures, c.deref-in-Chain-2.ensures.value) at c.evaluate_chain.ensures.did) }

pub returns-in-List : goal.returns-in-List
unfolding value_of_form
returns-in-List g c = record { did = rw (c.in-List.is, form_list _) (rw (c.deref-in-List.ensures.value) at c.evaluate_list.ensures.did) }

pub returns-in-Set : goal.returns-in-Set
unfolding value_of_form
returns-in-Set g c = record { did = rw (c.in-Set.is, form_set _) (rw (c.deref-in-Set.ensures.value) at c.evaluate_set.ensures.did) }

pub returns-in-Aggregate : goal.returns-in-Aggregate
unfolding value_of_form
returns-in-Aggregate g c = record { did = rw (c.in-Aggregate.is, form_aggregate _ _ _ _) (rw (c.deref-in-Aggregate.ensures.value, c.deref-in-Aggregate-2.ensures) at c.evaluate_aggregate.ensures.did) }

pub returns-in-Builtin : goal.returns-in-Builtin
unfolding value_of_form
returns-in-Builtin g c = record { did = rw (c.in-Builtin.is, form_builtin _ _) (rw (c.deref-in-Builtin.ensures.value) at c.evaluate_builtin.ensures.did) }

pub returns-in-Call : goal.returns-in-Call
unfolding value_of_form
returns-in-Call g c = record { did = rw (c.in-Call.is, form_call _ _) (rw (c.deref-in-Call.ensures.value) at c.evaluate_call.ensures.did) }

pub returns-in-Method : goal.returns-in-Method
unfolding value_of_form
returns-in-Method g c = record { did = rw (c.in-Method.is, form_method _ _ _) (rw (c.deref-in-Method.ensures, c.deref-in-Method-2.ensures.value) at c.evaluate_method.ensures.did) }
