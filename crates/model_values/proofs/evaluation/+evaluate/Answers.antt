use Rattle.std.proofs.Common.{rules, ◌<◌, ◌≡◌, ◌∙◌, ◌≤◌, ◌++◌, Ok, Err, Some, None, ℕ, IsSome, List, map, take, length, subst, sym, ap, refl}
use Rattle.std.specs.Prelude.{filter}
use Rattle.std.proofs.lemmas.List.{take_all}
use Rattle.cbl_base.specs.Inputs.{kinds_of}
use Rattle.operation_values.specs.OfCblOperations.RuleOf.{rule_of}
use Rattle.model_values.specs.Failing.{AreFailing}
use Rattle.model_values.specs.Failures.{failure_by, failure_in, fails}
use Rattle.model_values.specs.Outcomes.{AreKinds, env_of, gathered, listed, outcome_of}
use Rattle.model_values.specs.declared.evaluation.Failing.{Failing}
use Rattle.term_model.specs.Depth.{depth_of}
use Rattle.term_model.specs.Kinds.{all_kinds, kind_of_term, kinds_in}
use Rattle.term_model.specs.Subterms.{joined_terms, subterms}
use Rattle.term_model.specs.Users.{user_rules}
use Rattle.term_model.specs.declared.term.Term.{Term}
use Rattle.term_model.proofs.Layers.{args_of_term, depth_below}
use Rattle.model_values.proofs.FailureLaws.{failing_more, node_fails, node_has_value}
use Rattle.model_values.proofs.Layers.{gathered_more, inputs_of_term, kind_of_node_value, kinds_one_more, node_fault, node_none, node_value}
use Rattle.model_values.proofs.evaluation.+evaluate.Goals as goal

pub evaluate-requires : goal.evaluate-requires
evaluate-requires g t c κs within =
    let kinds = kinds_in c.args.setting.now.model.now.vars.items in
    let all = args_of_term kinds c.args.term.now c.in-Node.op c.in-Node.args c.in-Node.place c.deref-arg-items.result.now c.in-Node.is c.deref-arg-items.ensures.value c.requires.well_kinded in
    let fact : IsSome (kind_of_term kinds c.arg-item.result) = subst (λ u. IsSome (kind_of_term kinds u)) (sym c.arg-item.is) (all c.loop-arg.arg-index c.arg-item.result c.loop-arg-test.true) in
    let below : depth_of c.arg-item.result < depth_of c.args.term.now = depth_below c.args.term.now c.in-Node.op c.in-Node.args c.in-Node.place c.deref-arg-items.result.now c.loop-arg.arg-index c.arg-item.result c.in-Node.is c.deref-arg-items.ensures.value c.loop-arg-test.true c.arg-item.is in
    (search (rules, below), (within, (c.requires.kinds, fact)))

pub loop-arg-preserved : goal.loop-arg-preserved
loop-arg-preserved g t c =
    let kinds = kinds_in c.args.setting.now.model.now.vars.items in
    let users = user_rules (g.U.UserValues.viol_of c.args.setting.now.users.now) (g.U.UserValues.viol_at c.args.setting.now.users.now) in
    let env = env_of c.args.setting.now.cells.now in
    let items = c.deref-arg-items.result.now in (
      gathered_more (outcome_of users env) items c.loop-arg.arg-index c.arg-item.result (listed c.loop-arg.so_far) (listed c.in_ok-so_far-in-Node.so_far) c.in_ok-outcome-in-Node.outcome
          c.loop-arg-test.true c.arg-item.is c.loop-arg.invariant.0 c.in_ok-outcome-in-Node.ensures.outcome c.in_ok-so_far-in-Node.ensures,
      kinds_one_more (kind_of_term kinds) items c.loop-arg.arg-index c.arg-item.result (listed c.loop-arg.so_far) (listed c.in_ok-so_far-in-Node.so_far) c.in_ok-outcome-in-Node.outcome
          c.loop-arg-test.true c.arg-item.is c.loop-arg.invariant.1 c.in_ok-outcome-in-Node.ensures.kind c.in_ok-so_far-in-Node.ensures,
      λ before are. subst (AreFailing users env c.evaluate.new.failing.items) (failing_more users env subterms items c.loop-arg.arg-index c.arg-item.result before c.loop-arg-test.true c.arg-item.is)
          (c.in_ok-outcome-in-Node.ensures.failing (before ++ filter (fails users env) (joined_terms (map subterms (take c.loop-arg.arg-index items)))) (c.loop-arg.invariant.2 before are)),
    )

-- the loop has gone through all arguments
all_of : (items : List Term) (i : ℕ) → length items ≤ i → take i items ≡ items
all_of items i le = take_all i items le

pub value_of-requires : goal.value_of-requires
value_of-requires g t c =
    let kinds = kinds_in c.args.setting.now.model.now.vars.items in
    let whole = all_of c.deref-arg-items.result.now c.loop-arg.arg-index c.loop-arg-test.false in
    let are : AreKinds (listed c.loop-arg.so_far) (all_kinds (map (kind_of_term kinds) c.deref-arg-items.result.now)) = subst (λ ts. AreKinds (listed c.loop-arg.so_far) (all_kinds (map (kind_of_term kinds) ts))) whole c.loop-arg.invariant.1 in
    let are' : all_kinds (map (kind_of_term kinds) c.deref-arg-items.result.now) ≡ Some (kinds_of c.in-Some.inputs.items) = subst (λ r. AreKinds (listed r) (all_kinds (map (kind_of_term kinds) c.deref-arg-items.result.now))) c.in-Some.is are in
    let takes = inputs_of_term (g.U.UserValues.viol_of c.args.setting.now.users.now) (g.U.UserValues.viol_at c.args.setting.now.users.now) kinds c.args.term.now c.in-Node.op c.in-Node.args c.in-Node.place c.deref-arg-items.result.now c.in-Some.inputs.items c.in-Node.is c.deref-arg-items.ensures.value c.requires.well_kinded are' in
    rw c.deref.ensures.value takes

pub returns-in-Ok-clause-outcome : goal.returns-in-Ok-clause-outcome
returns-in-Ok-clause-outcome g t c =
    let users = user_rules (g.U.UserValues.viol_of c.args.setting.now.users.now) (g.U.UserValues.viol_at c.args.setting.now.users.now) in
    let env = env_of c.args.setting.now.cells.now in
    let whole = all_of c.deref-arg-items.result.now c.loop-arg.arg-index c.loop-arg-test.false in
    let is : listed c.loop-arg.so_far ≡ gathered (map (outcome_of users env) c.deref-arg-items.result.now) = c.loop-arg.invariant.0 ∙ ap (λ ts. gathered (map (outcome_of users env) ts)) whole in
    let value : (rule_of users c.in-Node.op).value c.in-Some.inputs.items ≡ Ok c.in-Ok.value = ap (rule_of users c.in-Node.op).value (sym c.deref.ensures.value) ∙ sym c.in_ok-value-in-Some.ensures ∙ c.in-Ok.is in
    node_value users env c.args.term.now c.in-Node.op c.in-Node.args c.in-Node.place c.deref-arg-items.result.now (listed c.loop-arg.so_far) c.in-Node.is c.deref-arg-items.ensures.value is c.in-Some.inputs.items c.in-Ok.value (ap listed c.in-Some.is) value

pub returns-in-Ok-clause-kind : goal.returns-in-Ok-clause-kind
returns-in-Ok-clause-kind g t c =
    let kinds = kinds_in c.args.setting.now.model.now.vars.items in
    let users = user_rules (g.U.UserValues.viol_of c.args.setting.now.users.now) (g.U.UserValues.viol_at c.args.setting.now.users.now) in
    let whole = all_of c.deref-arg-items.result.now c.loop-arg.arg-index c.loop-arg-test.false in
    let are : AreKinds (listed c.loop-arg.so_far) (all_kinds (map (kind_of_term kinds) c.deref-arg-items.result.now)) = subst (λ ts. AreKinds (listed c.loop-arg.so_far) (all_kinds (map (kind_of_term kinds) ts))) whole c.loop-arg.invariant.1 in
    let are' : all_kinds (map (kind_of_term kinds) c.deref-arg-items.result.now) ≡ Some (kinds_of c.in-Some.inputs.items) = subst (λ r. AreKinds (listed r) (all_kinds (map (kind_of_term kinds) c.deref-arg-items.result.now))) c.in-Some.is are in
    let value : (rule_of users c.in-Node.op).value c.in-Some.inputs.items ≡ Ok c.in-Ok.value = ap (rule_of users c.in-Node.op).value (sym c.deref.ensures.value) ∙ sym c.in_ok-value-in-Some.ensures ∙ c.in-Ok.is in
    kind_of_node_value users kinds c.args.term.now c.in-Node.op c.in-Node.args c.in-Node.place c.deref-arg-items.result.now c.in-Some.inputs.items c.in-Ok.value c.in-Node.is c.deref-arg-items.ensures.value c.requires.well_kinded are' value

pub returns-in-Ok-clause-failing : goal.returns-in-Ok-clause-failing
returns-in-Ok-clause-failing g t c = λ before before_are.
    let users = user_rules (g.U.UserValues.viol_of c.args.setting.now.users.now) (g.U.UserValues.viol_at c.args.setting.now.users.now) in
    let env = env_of c.args.setting.now.cells.now in
    let items = c.deref-arg-items.result.now in
    let whole = all_of items c.loop-arg.arg-index c.loop-arg-test.false in
    let is : listed c.loop-arg.so_far ≡ gathered (map (outcome_of users env) items) = c.loop-arg.invariant.0 ∙ ap (λ ts. gathered (map (outcome_of users env) ts)) whole in
    let value : (rule_of users c.in-Node.op).value c.in-Some.inputs.items ≡ Ok c.in-Ok.value = ap (rule_of users c.in-Node.op).value (sym c.deref.ensures.value) ∙ sym c.in_ok-value-in-Some.ensures ∙ c.in-Ok.is in
    let none : failure_by users c.in-Node.op c.in-Node.place (listed c.loop-arg.so_far) ≡ None = ap (λ r. failure_by users c.in-Node.op c.in-Node.place (listed r)) c.in-Some.is ∙ ap (failure_in c.in-Node.place) value in
    let are : AreFailing users env c.loop-arg.failing.items (before ++ filter (fails users env) (joined_terms (map subterms items))) = subst (λ ts. AreFailing users env c.loop-arg.failing.items (before ++ filter (fails users env) (joined_terms (map subterms ts)))) whole (c.loop-arg.invariant.2 before before_are) in
    node_has_value users env c.args.term.now c.in-Node.op c.in-Node.args c.in-Node.place items (listed c.loop-arg.so_far) c.loop-arg.failing.items before c.in-Node.is c.deref-arg-items.ensures.value is none are

pub returns-clause-outcome : goal.returns-clause-outcome
returns-clause-outcome g t c =
    let users = user_rules (g.U.UserValues.viol_of c.args.setting.now.users.now) (g.U.UserValues.viol_at c.args.setting.now.users.now) in
    let env = env_of c.args.setting.now.cells.now in
    let whole = all_of c.deref-arg-items.result.now c.loop-arg.arg-index c.loop-arg-test.false in
    let is : listed c.loop-arg.so_far ≡ gathered (map (outcome_of users env) c.deref-arg-items.result.now) = c.loop-arg.invariant.0 ∙ ap (λ ts. gathered (map (outcome_of users env) ts)) whole in
    node_none users env c.args.term.now c.in-Node.op c.in-Node.args c.in-Node.place c.deref-arg-items.result.now (listed c.loop-arg.so_far) c.in-Node.is c.deref-arg-items.ensures.value is (ap listed c.in-None.is)

pub returns-clause-failing : goal.returns-clause-failing
returns-clause-failing g t c = λ before before_are.
    let users = user_rules (g.U.UserValues.viol_of c.args.setting.now.users.now) (g.U.UserValues.viol_at c.args.setting.now.users.now) in
    let env = env_of c.args.setting.now.cells.now in
    let items = c.deref-arg-items.result.now in
    let whole = all_of items c.loop-arg.arg-index c.loop-arg-test.false in
    let is : listed c.loop-arg.so_far ≡ gathered (map (outcome_of users env) items) = c.loop-arg.invariant.0 ∙ ap (λ ts. gathered (map (outcome_of users env) ts)) whole in
    let none : failure_by users c.in-Node.op c.in-Node.place (listed c.loop-arg.so_far) ≡ None = ap (λ r. failure_by users c.in-Node.op c.in-Node.place (listed r)) c.in-None.is in
    let are : AreFailing users env c.loop-arg.failing.items (before ++ filter (fails users env) (joined_terms (map subterms items))) = subst (λ ts. AreFailing users env c.loop-arg.failing.items (before ++ filter (fails users env) (joined_terms (map subterms ts)))) whole (c.loop-arg.invariant.2 before before_are) in
    node_has_value users env c.args.term.now c.in-Node.op c.in-Node.args c.in-Node.place items (listed c.loop-arg.so_far) c.loop-arg.failing.items before c.in-Node.is c.deref-arg-items.ensures.value is none are

pub returns-in-Some-clause-outcome : goal.returns-in-Some-clause-outcome
returns-in-Some-clause-outcome g t c =
    let users = user_rules (g.U.UserValues.viol_of c.args.setting.now.users.now) (g.U.UserValues.viol_at c.args.setting.now.users.now) in
    let env = env_of c.args.setting.now.cells.now in
    let whole = all_of c.deref-arg-items.result.now c.loop-arg.arg-index c.loop-arg-test.false in
    let is : listed c.loop-arg.so_far ≡ gathered (map (outcome_of users env) c.deref-arg-items.result.now) = c.loop-arg.invariant.0 ∙ ap (λ ts. gathered (map (outcome_of users env) ts)) whole in
    let fault : (rule_of users c.in-Node.op).value c.in-Some.inputs.items ≡ Err c.in-Err.fault = ap (rule_of users c.in-Node.op).value (sym c.deref.ensures.value) ∙ sym c.in_ok-value-in-Some.ensures ∙ c.in-Err.is in
    node_fault users env c.args.term.now c.in-Node.op c.in-Node.args c.in-Node.place c.deref-arg-items.result.now (listed c.loop-arg.so_far) c.in-Node.is c.deref-arg-items.ensures.value is c.in-Some.inputs.items c.in-Err.fault (ap listed c.in-Some.is) fault

pub returns-in-Some-clause-failing : goal.returns-in-Some-clause-failing
returns-in-Some-clause-failing g t c = λ before before_are.
    let users = user_rules (g.U.UserValues.viol_of c.args.setting.now.users.now) (g.U.UserValues.viol_at c.args.setting.now.users.now) in
    let env = env_of c.args.setting.now.cells.now in
    let items = c.deref-arg-items.result.now in
    let whole = all_of items c.loop-arg.arg-index c.loop-arg-test.false in
    let is : listed c.loop-arg.so_far ≡ gathered (map (outcome_of users env) items) = c.loop-arg.invariant.0 ∙ ap (λ ts. gathered (map (outcome_of users env) ts)) whole in
    let fault : (rule_of users c.in-Node.op).value c.in-Some.inputs.items ≡ Err c.in-Err.fault = ap (rule_of users c.in-Node.op).value (sym c.deref.ensures.value) ∙ sym c.in_ok-value-in-Some.ensures ∙ c.in-Err.is in
    let found : Failing = record { term = c.args.term; failure = record { place = c.in-Node.place; fault = c.in-Err.fault } } in
    let some : failure_by users c.in-Node.op c.in-Node.place (listed c.loop-arg.so_far) ≡ Some found.failure = ap (λ r. failure_by users c.in-Node.op c.in-Node.place (listed r)) c.in-Some.is ∙ ap (failure_in c.in-Node.place) fault in
    let are : AreFailing users env c.loop-arg.failing.items (before ++ filter (fails users env) (joined_terms (map subterms items))) = subst (λ ts. AreFailing users env c.loop-arg.failing.items (before ++ filter (fails users env) (joined_terms (map subterms ts)))) whole (c.loop-arg.invariant.2 before before_are) in
    node_fails users env c.args.term.now c.in-Node.op c.in-Node.args c.in-Node.place items (listed c.loop-arg.so_far) c.loop-arg.failing.items c.push.new.self.items before found c.in-Node.is c.deref-arg-items.ensures.value is some refl c.in_ok-push-in-Err.ensures.items are
