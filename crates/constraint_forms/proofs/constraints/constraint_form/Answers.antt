use Rattle.std.proofs.Common.{sym, ap}
use Rattle.comet_meaning.specs.Outcome.{Went}
use Rattle.comet_meaning.specs.ConstraintForms.{constraint_form}
use Rattle.run_steps.specs.OfRunState.Views.{state_seen}
use Rattle.run_steps.proofs.Shapes.{form_name, form_parentheses, form_unary, form_chain, form_compare, form_index, form_cell, form_list, form_set, form_aggregate, form_builtin, form_call, form_method}
use Rattle.constraint_forms.proofs.constraints.constraint_form.Goals as goal

pub returns-in-Parentheses : goal.returns-in-Parentheses
unfolding constraint_form
returns-in-Parentheses g c = record { did = rw (c.in-Parentheses.is, form_parentheses _) (rw c.deref.ensures at c.define.ensures.did) }

pub returns-in-Unary : goal.returns-in-Unary
unfolding constraint_form
returns-in-Unary g c = record { did = rw (c.in-Unary.is, form_unary _ _) (c.as_in_term.ensures.did _ _ (rw c.deref-in-Unary.ensures at c.negation_term.ensures.did)) }

pub returns-in-Chain : goal.returns-in-Chain
unfolding constraint_form
returns-in-Chain g c = record { did = rw (c.in-Chain.is, form_chain _ _) (c.as_in_term-in-Chain.ensures.did _ _ (rw (c.deref-in-Chain.ensures, c.deref-in-Chain-2.ensures.value) at c.combination_term.ensures.did)) }

pub returns-in-Compare : goal.returns-in-Compare
unfolding constraint_form
returns-in-Compare g c = record { did = rw (c.in-Compare.is, form_compare _ _ _) (c.as_in_term-in-Compare.ensures.did _ _ (rw (c.deref-in-Compare.ensures, c.deref-in-Compare-2.ensures) at c.relation_term.ensures.did)) }

pub returns-in-Aggregate : goal.returns-in-Aggregate
unfolding constraint_form
returns-in-Aggregate g c = record { did = rw (c.in-Aggregate.is, form_aggregate _ _ _ _) (c.as_in_term-in-Aggregate.ensures.did _ _ (rw (c.deref-in-Aggregate.ensures.value, c.deref-in-Aggregate-2.ensures) at c.joining_term.ensures.did)) }

pub returns-in-Builtin : goal.returns-in-Builtin
unfolding constraint_form
returns-in-Builtin g c = record { did = rw (c.in-Builtin.is, form_builtin _ _) (rw c.deref-in-Builtin.ensures.value at c.function_form.ensures.did) }

pub returns-in-Index : goal.returns-in-Index
unfolding constraint_form
returns-in-Index g c = record { did = rw (c.in-Index.is, form_index _ _) (ap (λ t. Went t (state_seen c.args.s.now (g.O.Outside.told c.args.out.now))) (sym c.zero-in-Index.ensures)) }

pub returns-in-Cell : goal.returns-in-Cell
unfolding constraint_form
returns-in-Cell g c = record { did = rw (c.in-Cell.is, form_cell _ _ _) (ap (λ t. Went t (state_seen c.args.s.now (g.O.Outside.told c.args.out.now))) (sym c.zero-in-Cell.ensures)) }

pub returns-in-List : goal.returns-in-List
unfolding constraint_form
returns-in-List g c = record { did = rw (c.in-List.is, form_list _) (ap (λ t. Went t (state_seen c.args.s.now (g.O.Outside.told c.args.out.now))) (sym c.zero-in-List.ensures)) }

pub returns-in-Set : goal.returns-in-Set
unfolding constraint_form
returns-in-Set g c = record { did = rw (c.in-Set.is, form_set _) (ap (λ t. Went t (state_seen c.args.s.now (g.O.Outside.told c.args.out.now))) (sym c.zero-in-Set.ensures)) }

pub returns-in-Call : goal.returns-in-Call
unfolding constraint_form
returns-in-Call g c = record { did = rw (c.in-Call.is, form_call _ _) (ap (λ t. Went t (state_seen c.args.s.now (g.O.Outside.told c.args.out.now))) (sym c.zero-in-Call.ensures)) }

pub returns-in-Method : goal.returns-in-Method
unfolding constraint_form
returns-in-Method g c = record { did = rw (c.in-Method.is, form_method _ _ _) (ap (λ t. Went t (state_seen c.args.s.now (g.O.Outside.told c.args.out.now))) (sym c.zero-in-Method.ensures)) }

pub returns-in-Name : goal.returns-in-Name
unfolding constraint_form
returns-in-Name g c = record { did = rw (c.in-Name.is, form_name _) (ap (λ t. Went t (state_seen c.args.s.now (g.O.Outside.told c.args.out.now))) (sym c.zero-in-Name.ensures)) }
