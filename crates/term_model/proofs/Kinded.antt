-- What the kind of a node says of its arguments, and of its value.
use Rattle.std.proofs.Common.{◌≡◌, ℕ, ℤ, Bool, true, false, List, [], ◌∷◌, Option, Some, None, IsTrue, IsSome, All, fold, map, is_some, refl, sym, ap, ◌∙◌, true≢false, ◌&&◌}
use Rattle.std.specs.Prelude.{if◌then◌else◌}
use Rattle.std.proofs.lemmas.List.Elements.{All-nil, All-cons}
use Rattle.cbl_base.specs.Inputs.{InputKind}
use Rattle.cbl_operations.specs.RuleOf.{rule_of, value_kind}
use Rattle.cbl_operations.specs.declared.op.Op.{Op}
use Rattle.cbl_operations.specs.declared.op.Op.TheVariants.{Unary, Binary, Nary, Keyed, Element, Element2, TwoSets, Card, Member, Constraint, User}
use Rattle.term_model.specs.Kinds.{gather_kind, all_kinds, node_kind, has_fields}
use Rattle.term_model.specs.Users.{user_rules, no_users}
use Rattle.term_model.specs.declared.term.Term.{Term}

not_none : {X : Type 0} (o : Option X) → o ≡ None → IsSome o → ⊥
not_none o e h = true≢false (sym h ∙ ap is_some e)

pub none_stays : (ks : List (Option InputKind)) → fold gather_kind None ks ≡ None
none_stays [] = refl
none_stays (Some k ∷ ks) = none_stays ks
none_stays (None ∷ ks) = none_stays ks

first_some : (so_far : Option (List InputKind)) (k : Option InputKind) (ks : List (Option InputKind)) → IsSome (fold gather_kind (gather_kind so_far k) ks) → IsSome k
first_some so_far (Some k) ks h = refl
first_some (Some so_far) None ks h = absurd (not_none _ (none_stays ks) h)
first_some None None ks h = absurd (not_none _ (none_stays ks) h)

all_some : (so_far : Option (List InputKind)) (kind : Term → Option InputKind) (ts : List Term) → IsSome (fold gather_kind so_far (map kind ts)) → All (λ t. IsSome (kind t)) ts
all_some so_far kind [] h = All-nil (λ t. IsSome (kind t))
all_some so_far kind (t ∷ ts) h =
    All-cons (λ u. IsSome (kind u)) t ts (first_some so_far (kind t) (map kind ts) h) (all_some (gather_kind so_far (kind t)) kind ts h)

some_kinds : (op : Op) (kinds : Option (List InputKind)) → IsSome (node_kind op kinds) → IsSome kinds
some_kinds op (Some kinds) h = refl
some_kinds op None h = h

-- the arguments of a node that has a kind have kinds
pub args_kinded : (op : Op) (kind : Term → Option InputKind) (ts : List Term) → IsSome (node_kind op (all_kinds (map kind ts))) → All (λ t. IsSome (kind t)) ts
args_kinded op kind ts h = all_some (Some []) kind ts (some_kinds op (all_kinds (map kind ts)) h)

-- a user's constraint takes the same whatever its violations
takes_same : (viol_of : ℕ → List ℤ → ℤ) (viol_at : ℕ → List ℤ → ℕ → ℤ) (op : Op) (kinds : List InputKind) → (rule_of (user_rules viol_of viol_at) op).takes kinds ≡ (rule_of no_users op).takes kinds
takes_same viol_of viol_at (Unary op) kinds = refl
takes_same viol_of viol_at (Binary op) kinds = refl
takes_same viol_of viol_at (Nary op) kinds = refl
takes_same viol_of viol_at (Keyed op keys) kinds = refl
takes_same viol_of viol_at (Element low len) kinds = refl
takes_same viol_of viol_at (Element2 low1 len1 low2 len2) kinds = refl
takes_same viol_of viol_at (TwoSets op) kinds = refl
takes_same viol_of viol_at Card kinds = refl
takes_same viol_of viol_at Member kinds = refl
takes_same viol_of viol_at (Constraint c) kinds = refl
takes_same viol_of viol_at (User number) kinds = refl

both : (a b : Bool) (kind : InputKind) → IsSome (if a && b then Some kind else None) → (IsTrue a) × ((if a && b then Some kind else None) ≡ Some kind)
both true true kind h = (refl, refl)
both true false kind h = absurd (true≢false (sym h))
both false b kind h = absurd (true≢false (sym h))

-- a node that has a kind takes arguments of these kinds, and its kind is that of its values
pub takes_args : (viol_of : ℕ → List ℤ → ℤ) (viol_at : ℕ → List ℤ → ℕ → ℤ) (op : Op) (kinds : List InputKind) → IsSome (node_kind op (Some kinds)) → IsTrue ((rule_of (user_rules viol_of viol_at) op).takes kinds)
takes_args viol_of viol_at op kinds h =
    takes_same viol_of viol_at op kinds ∙ (both ((rule_of no_users op).takes kinds) (has_fields op) (value_kind op) h).0

pub kind_of_node : (op : Op) (kinds : List InputKind) → IsSome (node_kind op (Some kinds)) → node_kind op (Some kinds) ≡ Some (value_kind op)
kind_of_node op kinds h = (both ((rule_of no_users op).takes kinds) (has_fields op) (value_kind op) h).1
