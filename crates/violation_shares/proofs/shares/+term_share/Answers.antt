use Rattle.std.proofs.Common.{rules, ◌<◌, ◌≡◌, ◌∙◌, Some, None, ℕ, ◌≤◌, IsSome, IfOk, List, map, take, length, subst, sym, ap}
use Rattle.std.proofs.lemmas.List.{take_all}
use Rattle.cbl_base.specs.Inputs.{kinds_of}
use Rattle.model_values.specs.Dependence.{marked}
use Rattle.term_model.specs.Depth.{depth_of}
use Rattle.term_model.specs.Kinds.{kinds_in, kind_of_term, all_kinds}
use Rattle.model_values.specs.Outcomes.{AreKinds, listed, gathered, env_of}
use Rattle.term_model.specs.Users.{user_rules}
use Rattle.violation_shares.specs.VariableViolations.{arguments_of, leaf_share, node_share, one_depends, seen_arguments, share_of}
use Rattle.violation_shares.specs.declared.shares.Share.{Share}
use Rattle.term_model.specs.declared.term.Term.{Term}
use Rattle.term_model.proofs.Layers.{args_of_term, depth_below}
use Rattle.model_values.proofs.Layers.{inputs_of_term, kind_of_outcome, gathered_more, kinds_one_more}
use Rattle.violation_shares.proofs.ShareLaws.{arguments_more, kind_of_share, share_of_layer}
use Rattle.violation_shares.proofs.shares.+term_share.Goals as goal

pub term_share-requires : goal.term_share-requires
term_share-requires g t c κs within =
    let kinds = kinds_in c.args.setting.now.model.now.vars.items in
    let all = args_of_term kinds c.args.term.now c.in-Node.op c.in-Node.args c.in-Node.place c.deref-arg-items.result.now c.in-Node.is c.deref-arg-items.ensures.value c.requires.well_kinded in
    let fact : IsSome (kind_of_term kinds c.arg-item.result) = subst (λ u. IsSome (kind_of_term kinds u)) (sym c.arg-item.is) (all c.loop-arg.arg-index c.arg-item.result c.loop-arg-test.true) in
    let below : depth_of c.arg-item.result < depth_of c.args.term.now = depth_below c.args.term.now c.in-Node.op c.in-Node.args c.in-Node.place c.deref-arg-items.result.now c.loop-arg.arg-index c.arg-item.result c.in-Node.is c.deref-arg-items.ensures.value c.loop-arg-test.true c.arg-item.is in
    (search (rules, below), (within, (c.requires.kinds, fact)))

pub loop-arg-preserved : goal.loop-arg-preserved
loop-arg-preserved g t c =
    let setting = c.args.setting.now in
    let kinds = kinds_in setting.model.now.vars.items in
    let users = user_rules (g.U.UserValues.viol_of setting.users.now) (g.U.UserValues.viol_at setting.users.now) in
    let env = env_of setting.cells.now in
    let depends = marked c.args.marks.now in (
      gathered_more (λ u. (share_of users env depends u).outcome) c.deref-arg-items.result.now c.loop-arg.arg-index c.arg-item.result
          (listed c.loop-arg.so_far) (listed c.in_ok-so_far-in-Node.so_far) c.in_ok-share-in-Node.share.outcome
          c.loop-arg-test.true c.arg-item.is c.loop-arg.invariant.0 (ap (λ (s : Share). s.outcome) c.in_ok-share-in-Node.ensures.share) c.in_ok-so_far-in-Node.ensures,
      kinds_one_more (kind_of_term kinds) c.deref-arg-items.result.now c.loop-arg.arg-index c.arg-item.result
          (listed c.loop-arg.so_far) (listed c.in_ok-so_far-in-Node.so_far) c.in_ok-share-in-Node.share.outcome
          c.loop-arg-test.true c.arg-item.is c.loop-arg.invariant.1 c.in_ok-share-in-Node.ensures.kind c.in_ok-so_far-in-Node.ensures,
      arguments_more users env depends c.deref-arg-items.result.now c.loop-arg.arg-index c.arg-item.result
          (seen_arguments c.loop-arg.held) (seen_arguments c.in_ok-held-in-Node.held) c.in_ok-share-in-Node.share
          c.loop-arg-test.true c.arg-item.is c.loop-arg.invariant.2 c.in_ok-share-in-Node.ensures.share c.in_ok-held-in-Node.ensures,
    )

-- the loop has gone through all arguments
all_of : (items : List Term) (i : ℕ) → length items ≤ i → take i items ≡ items
all_of items i le = take_all i items le

pub node_share-requires : goal.node_share-requires
node_share-requires g t c =
    let kinds = kinds_in c.args.setting.now.model.now.vars.items in
    let whole = all_of c.deref-arg-items.result.now c.loop-arg.arg-index c.loop-arg-test.false in
    let are : AreKinds (listed c.loop-arg.so_far) (all_kinds (map (kind_of_term kinds) c.deref-arg-items.result.now)) = subst (λ ts. AreKinds (listed c.loop-arg.so_far) (all_kinds (map (kind_of_term kinds) ts))) whole c.loop-arg.invariant.1 in
    let are' : all_kinds (map (kind_of_term kinds) c.deref-arg-items.result.now) ≡ Some (kinds_of c.in-Some.inputs.items) = subst (λ r. AreKinds (listed r) (all_kinds (map (kind_of_term kinds) c.deref-arg-items.result.now))) c.in-Some.is are in
    let takes = inputs_of_term (g.U.UserValues.viol_of c.args.setting.now.users.now) (g.U.UserValues.viol_at c.args.setting.now.users.now) kinds c.args.term.now c.in-Node.op c.in-Node.args c.in-Node.place c.deref-arg-items.result.now c.in-Some.inputs.items c.in-Node.is c.deref-arg-items.ensures.value c.requires.well_kinded are' in
    record { takes = rw c.deref.ensures.value takes }

pub returns-in-Some-clause-share : goal.returns-in-Some-clause-share
returns-in-Some-clause-share g t c =
    let setting = c.args.setting.now in
    let users = user_rules (g.U.UserValues.viol_of setting.users.now) (g.U.UserValues.viol_at setting.users.now) in
    let env = env_of setting.cells.now in
    let depends = marked c.args.marks.now in
    let items = c.deref-arg-items.result.now in
    let whole = all_of items c.loop-arg.arg-index c.loop-arg-test.false in
    let values : listed c.loop-arg.so_far ≡ gathered (map (λ u. (share_of users env depends u).outcome) items) = c.loop-arg.invariant.0 ∙ ap (λ ts. gathered (map (λ u. (share_of users env depends u).outcome) ts)) whole in
    let held : seen_arguments c.loop-arg.held ≡ arguments_of (map (share_of users env depends) items) = c.loop-arg.invariant.2 ∙ ap (λ ts. arguments_of (map (share_of users env depends) ts)) whole in
    let layer = share_of_layer users env depends c.args.term.now c.in-Node.op c.in-Node.args c.in-Node.place items (listed c.loop-arg.so_far) (seen_arguments c.loop-arg.held) c.in-Node.is c.deref-arg-items.ensures.value values held in
    let layer' : node_share users c.in-Node.op (Some c.deref.result.now) (seen_arguments c.loop-arg.held) ≡ share_of users env depends c.args.term.now = rw c.deref.ensures.value (subst (λ r. node_share users c.in-Node.op (listed r) (seen_arguments c.loop-arg.held) ≡ share_of users env depends c.args.term.now) c.in-Some.is layer) in
    subst (λ s. IfOk c.node_share.result (λ p. p ≡ s)) layer' c.node_share.ensures

pub returns-in-Some-clause-kind : goal.returns-in-Some-clause-kind
returns-in-Some-clause-kind g t c =
    let setting = c.args.setting.now in
    let kinds = kinds_in setting.model.now.vars.items in
    let viol_of = g.U.UserValues.viol_of setting.users.now in
    let viol_at = g.U.UserValues.viol_at setting.users.now in
    let users = user_rules viol_of viol_at in
    let whole = all_of c.deref-arg-items.result.now c.loop-arg.arg-index c.loop-arg-test.false in
    let are : AreKinds (listed c.loop-arg.so_far) (all_kinds (map (kind_of_term kinds) c.deref-arg-items.result.now)) = subst (λ ts. AreKinds (listed c.loop-arg.so_far) (all_kinds (map (kind_of_term kinds) ts))) whole c.loop-arg.invariant.1 in
    let are' : all_kinds (map (kind_of_term kinds) c.deref-arg-items.result.now) ≡ Some (kinds_of c.deref.result.now) = rw c.deref.ensures.value (subst (λ r. AreKinds (listed r) (all_kinds (map (kind_of_term kinds) c.deref-arg-items.result.now))) c.in-Some.is are) in
    let share : Share = node_share users c.in-Node.op (Some c.deref.result.now) (seen_arguments c.loop-arg.held) in
    kind_of_share share (kind_of_term kinds c.args.term.now) c.node_share.result c.node_share.ensures
    (kind_of_outcome users kinds c.args.term.now c.in-Node.op c.in-Node.args c.in-Node.place c.deref-arg-items.result.now c.deref.result.now c.in-Node.is c.deref-arg-items.ensures.value c.requires.well_kinded are')

pub returns-clause-share : goal.returns-clause-share
returns-clause-share g t c =
    let setting = c.args.setting.now in
    let users = user_rules (g.U.UserValues.viol_of setting.users.now) (g.U.UserValues.viol_at setting.users.now) in
    let env = env_of setting.cells.now in
    let depends = marked c.args.marks.now in
    let items = c.deref-arg-items.result.now in
    let whole = all_of items c.loop-arg.arg-index c.loop-arg-test.false in
    let values : listed c.loop-arg.so_far ≡ gathered (map (λ u. (share_of users env depends u).outcome) items) = c.loop-arg.invariant.0 ∙ ap (λ ts. gathered (map (λ u. (share_of users env depends u).outcome) ts)) whole in
    let held : seen_arguments c.loop-arg.held ≡ arguments_of (map (share_of users env depends) items) = c.loop-arg.invariant.2 ∙ ap (λ ts. arguments_of (map (share_of users env depends) ts)) whole in
    let layer = share_of_layer users env depends c.args.term.now c.in-Node.op c.in-Node.args c.in-Node.place items (listed c.loop-arg.so_far) (seen_arguments c.loop-arg.held) c.in-Node.is c.deref-arg-items.ensures.value values held in
    let layer' : leaf_share None (one_depends c.loop-arg.held.depends.items) ≡ share_of users env depends c.args.term.now = subst (λ r. node_share users c.in-Node.op (listed r) (seen_arguments c.loop-arg.held) ≡ share_of users env depends c.args.term.now) c.in-None.is layer in
    c.leaf_share-in-None.ensures ∙ ap (leaf_share None) (c.one_depends.ensures ∙ ap one_depends c.deref-in-None.ensures.value) ∙ layer'
