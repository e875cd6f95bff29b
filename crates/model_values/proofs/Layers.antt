-- One layer of a term: what it comes to from what its arguments do, and that its operation takes these.
use Rattle.std.proofs.Common.{◌≡◌, ℕ, ℤ, List, Option, Some, None, Ok, Err, Vec, Global, IsSome, IsTrue, ◌+◌, ◌<◌, take, length, get_or, map, sym, ap, ◌∙◌, subst}
use Rattle.std.specs.Prelude.{IfSome}
use Rattle.cbl_base.specs.Inputs.{InputKind, kind_of, kinds_of}
use Rattle.cbl_base.specs.NumberRule.{NumberRule}
use Rattle.cbl_base.specs.declared.faults.RunFault.{RunFault}
use Rattle.cbl_base.specs.declared.input.Input.{Input}
use Rattle.cbl_base.specs.declared.place.Place.{Place}
use Rattle.operation_values.specs.OfCblOperations.RuleOf.{rule_of}
use Rattle.operation_values.specs.OfCblOperations.declared.op.Op.{Op}
use Rattle.model_values.specs.Outcomes.{AreKinds, Outcome, gather, gathered, operated, outcome_of, outcome_step, value_in}
use Rattle.term_model.specs.Kinds.{all_kinds, gather_kind, kind_of_term, node_kind}
use Rattle.term_model.specs.Users.{user_rules}
use Rattle.term_model.specs.declared.term.Term.{Term}
use Rattle.term_model.specs.declared.term.Term.TheOpen.{Term-F}
use Rattle.term_model.specs.declared.term.Term.TheViews.{Node}
use Rattle.term_model.specs.declared.term.Term.TheVariants.{rolls-Node}
use Rattle.term_model.specs.declared.term.Term.TheFolds.{fold-roll-Term}
use Rattle.term_model.proofs.Kinded.{takes_args}
use Rattle.term_model.proofs.Layers.{kind_of_layer, one_more}
use Rattle.model_values.proofs.Kinded.{kind_of_operated, kinds_gather}

-- what the arguments of a well kinded term come to has kinds that the operation takes
pub inputs_of_term : (viol_of : ℕ → List ℤ → ℤ) (viol_at : ℕ → List ℤ → ℕ → ℤ) (kinds : ℕ → Option InputKind) (t : Term) (op : Op) (args : Vec Term Global) (place : Place) (items : List Term) (inputs : List Input) →
    t ≡ Node op args place → items ≡ args.items → IsSome (kind_of_term kinds t) → all_kinds (map (kind_of_term kinds) items) ≡ Some (kinds_of inputs) → IsTrue ((rule_of (user_rules viol_of viol_at) op).takes (kinds_of inputs))
inputs_of_term viol_of viol_at kinds t op args place items inputs e same h are =
    let are' : all_kinds (map (kind_of_term kinds) args.items) ≡ Some (kinds_of inputs) = ap (λ ts. all_kinds (map (kind_of_term kinds) ts)) (sym same) ∙ are in
    takes_args viol_of viol_at op (kinds_of inputs) (subst (λ k. IsSome (node_kind op k)) are' (subst IsSome (kind_of_layer kinds t op args place e) h))

pub kind_of_outcome : (users : ℕ → NumberRule) (kinds : ℕ → Option InputKind) (t : Term) (op : Op) (args : Vec Term Global) (place : Place) (items : List Term) (inputs : List Input) →
    t ≡ Node op args place → items ≡ args.items → IsSome (kind_of_term kinds t) → all_kinds (map (kind_of_term kinds) items) ≡ Some (kinds_of inputs) →
    IfSome (value_in ((rule_of users op).value inputs)) (λ x. kind_of_term kinds t ≡ Some (kind_of x))
kind_of_outcome users kinds t op args place items inputs e same h are =
    let layer = kind_of_layer kinds t op args place e in
    let are' : all_kinds (map (kind_of_term kinds) args.items) ≡ Some (kinds_of inputs) = ap (λ ts. all_kinds (map (kind_of_term kinds) ts)) (sym same) ∙ are in
    subst (λ k. IfSome (value_in ((rule_of users op).value inputs)) (λ x. k ≡ Some (kind_of x))) (sym layer)
    (kind_of_operated users op inputs (all_kinds (map (kind_of_term kinds) args.items)) are' (subst IsSome layer h))

-- ---- the arguments one after another
pub gathered_more : (f : Term → Outcome) (items : List Term) (i : ℕ) (item : Term) (so_far after : Option (List Input)) (outcome : Outcome) →
    i < length items → item ≡ get_or items i item → so_far ≡ gathered (map f (take i items)) → outcome ≡ f item → after ≡ gather so_far outcome → after ≡ gathered (map f (take (i + 1) items))
gathered_more f items i item so_far after outcome lt is e h next =
    next ∙ ap (λ r. gather r outcome) e ∙ ap (gather (gathered (map f (take i items)))) h ∙ sym (one_more gather (Some _) f items i item lt is)

pub kinds_one_more : (kind : Term → Option InputKind) (items : List Term) (i : ℕ) (item : Term) (so_far after : Option (List Input)) (outcome : Outcome) →
    i < length items → item ≡ get_or items i item → AreKinds so_far (all_kinds (map kind (take i items))) → IfSome outcome (λ x. kind item ≡ Some (kind_of x)) → after ≡ gather so_far outcome →
    AreKinds after (all_kinds (map kind (take (i + 1) items)))
kinds_one_more kind items i item so_far after outcome lt is are h next =
    subst (λ r. AreKinds r (all_kinds (map kind (take (i + 1) items)))) (sym next)
    (subst (AreKinds (gather so_far outcome)) (sym (one_more gather_kind (Some _) kind items i item lt is))
    (kinds_gather so_far outcome (all_kinds (map kind (take i items))) (kind item) are h))

-- ---- what a node comes to
pub outcome_of_layer : (users : ℕ → NumberRule) (env : ℕ → Outcome) (t : Term) (op : Op) (args : Vec Term Global) (place : Place) (items : List Term) (inputs : Option (List Input)) →
    t ≡ Node op args place → items ≡ args.items → inputs ≡ gathered (map (outcome_of users env) items) → operated users op inputs ≡ outcome_of users env t
outcome_of_layer users env t op args place items inputs e same h =
    ap (operated users op) (h ∙ ap (λ ts. gathered (map (outcome_of users env) ts)) same)
    ∙ sym (ap (outcome_of users env) (e ∙ sym (rolls-Node op args place)) ∙ fold-roll-Term Outcome (outcome_step users env) (Term-F.Node op args place))

module _ (users : ℕ → NumberRule) (env : ℕ → Outcome) (t : Term) (op : Op) (args : Vec Term Global) (place : Place) (items : List Term) (values : Option (List Input)) (e : t ≡ Node op args place) (same : items ≡ args.items)
    (is : values ≡ gathered (map (outcome_of users env) items)) where
  pub node_value : (xs : List Input) (value : Input) → values ≡ Some xs → (rule_of users op).value xs ≡ Ok value → Some value ≡ outcome_of users env t
  node_value xs value some ok = sym (ap (operated users op) some ∙ ap value_in ok) ∙ outcome_of_layer users env t op args place items values e same is

  pub node_fault : (xs : List Input) (fault : RunFault) → values ≡ Some xs → (rule_of users op).value xs ≡ Err fault → None ≡ outcome_of users env t
  node_fault xs fault some err = sym (ap (operated users op) some ∙ ap value_in err) ∙ outcome_of_layer users env t op args place items values e same is

  pub node_none : values ≡ None → None ≡ outcome_of users env t
  node_none none = sym (ap (operated users op) none) ∙ outcome_of_layer users env t op args place items values e same is

pub kind_of_node_value : (users : ℕ → NumberRule) (kinds : ℕ → Option InputKind) (t : Term) (op : Op) (args : Vec Term Global) (place : Place) (items : List Term) (inputs : List Input) (value : Input) →
    t ≡ Node op args place → items ≡ args.items → IsSome (kind_of_term kinds t) → all_kinds (map (kind_of_term kinds) items) ≡ Some (kinds_of inputs) → (rule_of users op).value inputs ≡ Ok value → kind_of_term kinds t ≡ Some (kind_of value)
kind_of_node_value users kinds t op args place items inputs value e same h are ok =
    subst (λ r. IfSome (value_in r) (λ x. kind_of_term kinds t ≡ Some (kind_of x))) ok (kind_of_outcome users kinds t op args place items inputs e same h are)
