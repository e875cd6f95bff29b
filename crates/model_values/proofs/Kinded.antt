-- The kind of a value that an operation gives, and those of several values.
use Rattle.std.proofs.Common.{◌≡◌, ℕ, List, [], ◌∷◌, ◌++◌, Option, Some, None, Result, Ok, Err, IsSome, refl, sym, ap, ◌∙◌, subst}
use Rattle.std.specs.Prelude.{IfSome}
use Rattle.cbl_base.specs.Inputs.{InputKind, kind_of, kinds_of}
use Rattle.cbl_base.specs.NumberRule.{NumberRule}
use Rattle.cbl_base.specs.declared.input.Input.{Input}
use Rattle.cbl_base.specs.declared.faults.RunFault.{RunFault}
use Rattle.operation_values.specs.OfCblOperations.RuleOf.{rule_of, value_kind}
use Rattle.operation_values.specs.OfCblOperations.declared.op.Op.{Op}
use Rattle.operation_values.proofs.OfCblOperations.KindLaws.{kind_of_values}
use Rattle.model_values.specs.Outcomes.{AreKinds, Outcome, gather, value_in}
use Rattle.term_model.specs.Kinds.{gather_kind, node_kind}
use Rattle.term_model.proofs.Kinded.{kind_of_node}

kind_in : (kind : InputKind) (value : Result Input RunFault) → ((x : Input) → value ≡ Ok x → kind_of x ≡ kind) → IfSome (value_in value) (λ x. Some kind ≡ Some (kind_of x))
kind_in kind (Ok x) is = ap Some (sym (is x refl))
kind_in kind (Err fault) is = tt

pub kind_of_operated : (users : ℕ → NumberRule) (op : Op) (inputs : List Input) (kinds : Option (List InputKind)) → kinds ≡ Some (kinds_of inputs) → IsSome (node_kind op kinds) →
    IfSome (value_in ((rule_of users op).value inputs)) (λ x. node_kind op kinds ≡ Some (kind_of x))
kind_of_operated users op inputs kinds e h =
    let some : IsSome (node_kind op (Some (kinds_of inputs))) = subst (λ k. IsSome (node_kind op k)) e h in
    let kind : node_kind op kinds ≡ Some (value_kind op) = ap (node_kind op) e ∙ kind_of_node op (kinds_of inputs) some in
    subst (λ k. IfSome (value_in ((rule_of users op).value inputs)) (λ x. k ≡ Some (kind_of x))) (sym kind)
    (kind_in (value_kind op) ((rule_of users op).value inputs) (kind_of_values users op inputs))

-- one more value, and its kind
kinds_more : (xs : List Input) (x : Input) → kinds_of (xs ++ x ∷ []) ≡ kinds_of xs ++ kind_of x ∷ []
kinds_more [] x = refl
kinds_more (y ∷ xs) x = ap (λ t. kind_of y ∷ t) (kinds_more xs x)

pub kinds_gather : (so_far : Option (List Input)) (outcome : Outcome) (kinds : Option (List InputKind)) (kind : Option InputKind) → AreKinds so_far kinds → IfSome outcome (λ x. kind ≡ Some (kind_of x)) → AreKinds (gather so_far outcome) (gather_kind kinds kind)
kinds_gather (Some xs) (Some x) kinds kind e h =
    subst (λ k. gather_kind k kind ≡ Some (kinds_of (xs ++ x ∷ []))) (sym e)
    (subst (λ k. gather_kind (Some (kinds_of xs)) k ≡ Some (kinds_of (xs ++ x ∷ []))) (sym h) (ap Some (sym (kinds_more xs x))))
kinds_gather (Some xs) None kinds kind e h = tt
kinds_gather None outcome kinds kind e h = tt
