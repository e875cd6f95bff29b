use Rattle.std.proofs.Common.{◌∙◌, None, Some, sym, ap, subst, slice_get}
use Rattle.std.proofs.lemmas.Result.{IfOk-weaker}
use Rattle.cbl_operations.specs.RuleOf.{rule_of}
use Rattle.node_kinds.specs.OpNodes.{users_of}
use Rattle.model_nodes.specs.Waiting.{AreWaiting}
use Rattle.model_nodes.proofs.HeadLemmas.{no_user, other_place, same_rule, taken, user_is}
use Rattle.model_nodes.proofs.heads.operation_node.Goals as goal

pub take_user-requires : goal.take_user-requires
take_user-requires g c = c.requires c.in-Some.number (sym c.user_in.ensures ∙ c.in-Some.is)

pub returns-in-Some-clause-node : goal.returns-in-Some-clause-node
returns-in-Some-clause-node g c = λ users are.
    are c.in-Some.number c.take_user.result c.take_user.ensures.node ∙ ap (rule_of users) (sym (user_is c.args.op.now c.in-Some.number (sym c.user_in.ensures ∙ c.in-Some.is)))

pub returns-in-Some-clause-waiting : goal.returns-in-Some-clause-waiting
returns-in-Some-clause-waiting g c = λ users are.
    subst (λ ws. AreWaiting g.N.NodeRule.rule users ws) (sym c.take_user.ensures.waiting) (taken g.N.NodeRule.rule users c.args.waiting.now.items c.in-Some.number are)

pub returns-in-Some-clause-others : goal.returns-in-Some-clause-others
returns-in-Some-clause-others g c = λ n apart.
    ap (λ ws. slice_get ws n) c.take_user.ensures.waiting ∙ other_place c.args.waiting.now.items c.in-Some.number n None (λ same. apart (sym c.user_in.ensures ∙ c.in-Some.is ∙ ap (λ k. Some k) same))

pub of_operation-requires : goal.of_operation-requires
of_operation-requires g c = no_user c.args.op.now (sym c.user_in.ensures ∙ c.in-None.is)

pub returns-in-None-clause-node : goal.returns-in-None-clause-node
returns-in-None-clause-node g c =
    IfOk-weaker c.of_operation.result _ _ (λ node own users are. own ∙ same_rule (users_of None) users c.args.op.now (sym c.user_in.ensures ∙ c.in-None.is)) c.of_operation.ensures
