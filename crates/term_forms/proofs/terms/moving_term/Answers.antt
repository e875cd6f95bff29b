use Rattle.std.proofs.Common.{sym, ap}
use Rattle.comet_meaning.specs.Outcome.{Went}
use Rattle.comet_meaning.specs.TermForms.{moving_term}
use Rattle.run_steps.specs.OfRunState.Views.{state_seen}
use Rattle.run_steps.proofs.Shapes.{form_name, form_parentheses, form_unary, form_chain, form_compare, form_index, form_cell, form_list, form_set, form_aggregate, form_builtin, form_call, form_method}
use Rattle.term_forms.proofs.terms.moving_term.Goals as goal

pub returns-in-Name : goal.returns-in-Name
unfolding moving_term
returns-in-Name g c = record { did = rw (c.in-Name.is, form_name _) (c.name_term.ensures.did _) }

pub returns-in-Parentheses : goal.returns-in-Parentheses
unfolding moving_term
returns-in-Parentheses g c = record { did = rw (c.in-Parentheses.is, form_parentheses _) (rw c.deref.ensures at c.define.ensures.did) }

pub returns-in-Unary : goal.returns-in-Unary
unfolding moving_term
returns-in-Unary g c = record { did = rw (c.in-Unary.is, form_unary _ _) (c.as_in_term.ensures.did _ _ (rw c.deref-in-Unary.ensures at c.unary_term.ensures.did)) }

pub returns-in-Chain : goal.returns-in-Chain
unfolding moving_term
returns-in-Chain g c = record { did = rw (c.in-Chain.is, form_chain _ _) (c.as_in_term-in-Chain.ensures.did _ _ (rw (c.deref-in-Chain.ensures, c.deref-in-Chain-2.ensures.value) at c.chain_term.ensures.did)) }

pub returns-in-Compare : goal.returns-in-Compare
unfolding moving_term
returns-in-Compare g c = record { did = rw (c.in-Compare.is, form_compare _ _ _) (c.as_in_term-in-Compare.ensures.did _ _ (rw (c.deref-in-Compare.ensures, c.deref-in-Compare-2.ensures) at c.compare_term.ensures.did)) }

pub returns-in-Index : goal.returns-in-Index
unfolding moving_term
returns-in-Index g c = record { did = rw (c.in-Index.is, form_index _ _) (c.as_in_term-in-Index.ensures.did _ _ (rw (c.deref-in-Index.ensures, c.deref-in-Index-2.ensures) at c.index_term.ensures.did)) }

pub returns-in-Cell : goal.returns-in-Cell
unfolding moving_term
returns-in-Cell g c = record { did = rw (c.in-Cell.is, form_cell _ _ _) (c.as_in_term-in-Cell.ensures.did _ _ (rw (c.deref-in-Cell.ensures, c.deref-in-Cell-2.ensures, c.deref-in-Cell-3.ensures) at c.cell_term.ensures.did)) }

pub returns-in-List : goal.returns-in-List
unfolding moving_term
returns-in-List g c = record { did = rw (c.in-List.is, form_list _) (rw c.deref-in-List.ensures.value at c.list_term.ensures.did) }

pub returns-in-Aggregate : goal.returns-in-Aggregate
unfolding moving_term
returns-in-Aggregate g c = record { did = rw (c.in-Aggregate.is, form_aggregate _ _ _ _) (rw (c.deref-in-Aggregate.ensures.value, c.deref-in-Aggregate-2.ensures) at c.aggregate_term.ensures.did) }

pub returns-in-Builtin : goal.returns-in-Builtin
unfolding moving_term
returns-in-Builtin g c = record { did = rw (c.in-Builtin.is, form_builtin _ _) (c.as_in_term-in-Builtin.ensures.did _ _ (rw c.deref-in-Builtin.ensures.value at c.builtin_term.ensures.did)) }

pub returns-in-Set : goal.returns-in-Set
unfolding moving_term
returns-in-Set g c = record { did = rw (c.in-Set.is, form_set _) (ap (λ t. Went t (state_seen c.args.s.now (g.O.Outside.told c.args.out.now))) (sym c.zero-in-Set.ensures)) }

pub returns-in-Call : goal.returns-in-Call
unfolding moving_term
returns-in-Call g c = record { did = rw (c.in-Call.is, form_call _ _) (ap (λ t. Went t (state_seen c.args.s.now (g.O.Outside.told c.args.out.now))) (sym c.zero-in-Call.ensures)) }

pub returns-in-Method : goal.returns-in-Method
unfolding moving_term
returns-in-Method g c = record { did = rw (c.in-Method.is, form_method _ _ _) (ap (λ t. Went t (state_seen c.args.s.now (g.O.Outside.told c.args.out.now))) (sym c.zero-in-Method.ensures)) }
