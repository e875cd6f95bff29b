use Rattle.std.proofs.Common.{◌∙◌, FitsSigned, ap, rules, subst, sym, w64}
use Rattle.std.proofs.lemmas.Int.{to_z-of_z}
use Rattle.std.proofs.lemmas.Result.{IfOk-weaker}
use Rattle.cbl_base.specs.declared.input.Input.TheVariants.{Int, Set}
use Rattle.node_kinds.specs.ConstantRule.{rule_of_constant}
use Rattle.model_nodes.specs.HeadRules.{rule_of_head}
use Rattle.model_nodes.specs.Waiting.{IsTakenFor, IsThereFor}
use Rattle.model_nodes.proofs.heads.head_node.Goals as goal

pub returns-in-Const-clause-node : goal.returns-in-Const-clause-node
returns-in-Const-clause-node g c = λ users are.
    let fits : FitsSigned w64 c.in-Const.number = search rules in
    c.of_constant.ensures ∙ ap (λ x. rule_of_constant (Int x)) (to_z-of_z w64 c.in-Const.number fits) ∙ sym (ap (rule_of_head users) c.in-Const.is)

pub returns-in_ok-copy-in-ConstSet-clause-node : goal.returns-in_ok-copy-in-ConstSet-clause-node
returns-in_ok-copy-in-ConstSet-clause-node g c = λ users are.
    c.of_constant-in-ConstSet.ensures ∙ ap (λ s. rule_of_constant (Set s)) c.in_ok-copy-in-ConstSet.ensures ∙ sym (ap (rule_of_head users) c.in-ConstSet.is)

pub operation_node-requires : goal.operation_node-requires
operation_node-requires g c = subst (λ h. IsThereFor c.args.waiting.now.items h) c.in-Op.is c.requires

pub returns-in-Op-clause-node : goal.returns-in-Op-clause-node
returns-in-Op-clause-node g c =
    IfOk-weaker c.operation_node.result _ _ (λ node own users are. own users are ∙ sym (ap (rule_of_head users) c.in-Op.is)) c.operation_node.ensures.node

pub returns-in-Op-clause-others : goal.returns-in-Op-clause-others
returns-in-Op-clause-others g c =
    subst (λ h. IsTakenFor h c.args.waiting.now.items c.operation_node.new.waiting.items) (sym c.in-Op.is) c.operation_node.ensures.others
