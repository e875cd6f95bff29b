use Rattle.std.proofs.Common.{refl, sym, ◌∙◌}
use Rattle.run_steps.proofs.Shapes.{form_builtin, form_index, form_cell, form_list, form_set, form_call, form_method, form_name, form_parentheses, form_unary, form_chain, form_compare, form_aggregate}
use Rattle.expression_forms.proofs.UserPostLaws.{name_in_call}
use Rattle.expression_forms.proofs.user_posting.user_name.Goals as goal

pub returns-in-Index : goal.returns-in-Index
returns-in-Index c = rw (c.in-Index.is, form_index _ _) refl

pub returns-in-Cell : goal.returns-in-Cell
returns-in-Cell c = rw (c.in-Cell.is, form_cell _ _ _) refl

pub returns-in-List : goal.returns-in-List
returns-in-List c = rw (c.in-List.is, form_list _) refl

pub returns-in-Set : goal.returns-in-Set
returns-in-Set c = rw (c.in-Set.is, form_set _) refl

pub returns-in-Call : goal.returns-in-Call
returns-in-Call c = rw (c.in-Call.is, form_call _ _) refl

pub returns-in-Method : goal.returns-in-Method
returns-in-Method c = rw (c.in-Method.is, form_method _ _ _) refl

pub returns-in-Name : goal.returns-in-Name
returns-in-Name c = rw (c.in-Name.is, form_name _) refl

pub returns-in-Parentheses : goal.returns-in-Parentheses
returns-in-Parentheses c = rw (c.in-Parentheses.is, form_parentheses _) refl

pub returns-in-Unary : goal.returns-in-Unary
returns-in-Unary c = rw (c.in-Unary.is, form_unary _ _) refl

pub returns-in-Chain : goal.returns-in-Chain
returns-in-Chain c = rw (c.in-Chain.is, form_chain _ _) refl

pub returns-in-Compare : goal.returns-in-Compare
returns-in-Compare c = rw (c.in-Compare.is, form_compare _ _ _) refl

pub returns-in-Aggregate : goal.returns-in-Aggregate
returns-in-Aggregate c = rw (c.in-Aggregate.is, form_aggregate _ _ _ _) refl

pub returns-in-Builtin : goal.returns-in-Builtin
returns-in-Builtin c = rw (c.in-Builtin.is, form_builtin _ _) ((rw c.deref.ensures.value at c.name_in.ensures) ∙ sym (name_in_call c.args.constraint.now.start c.args.constraint.now.place c.args.constraint.now.kind c.args.constraint.now.moving _ _))
