-- What a term and its plain twin share: depth, variables, kind, users' constraints, value, and what is equal to them.
use Rattle.std.proofs.Common.{◌≡◌, refl, sym, subst, ap, ◌∙◌, Vec, Global, ℕ, suc, Bool, ◌&&◌, List, [], ◌∷◌, ◌++◌, map, Option}
use Rattle.std.specs.List.{list_all}
use Rattle.cbl_base.specs.declared.ids.VarId.{VarId}
use Rattle.cbl_base.specs.Inputs.{InputKind}
use Rattle.cbl_base.specs.NumberRule.{NumberRule}
use Rattle.term_model.specs.Definitions.{joined, vars_of, vars_step}
use Rattle.term_model.specs.Depth.{greatest, depth_of, depth_step}
use Rattle.term_model.specs.Kinds.{all_kinds, node_kind, kind_of_term, kind_step}
use Rattle.term_model.specs.Naming.{users_of, users_step, user_number}
use Rattle.term_model.specs.SameOperations.{same_operation}
use Rattle.term_model.specs.SameTerms.{all_pass, is_node, same_layer, same_term}
use Rattle.term_model.specs.declared.term.Term.{Term}
use Rattle.term_model.specs.declared.term.Term.TheOpen.{Term-F}
use Rattle.term_model.specs.declared.term.Term.TheViews.{roll-Term, out-Term, out-roll-Term}
use Rattle.term_model.specs.declared.term.Term.TheFolds.{fold-roll-Term, ind-Term, map-Term}
use Rattle.model_values.specs.Outcomes.{Outcome, gathered, operated, outcome_of, outcome_step}
use Rattle.model_view.specs.Vectors.{vec_of}
use Rattle.model_view.specs.Building.{node}
use Rattle.model_view.specs.Variables.{all_variables, pass_step}
use Rattle.model_view.specs.Plain.{plain_term, plain_step}
use Rattle.model_view.proofs.PlainTerms.{same_fold, items_of_vec, length_map}

pub same_depth : (t : Term) → depth_of (plain_term t) ≡ depth_of t
same_depth = same_fold depth_step (record { node = λ op args others place e. ap (λ ns. suc (greatest ns)) e })

pub same_vars : (t : Term) → vars_of (plain_term t) ≡ vars_of t
same_vars = same_fold vars_step (record { node = λ op args others place e. ap joined e })

pub same_kind : (kinds : ℕ → Option InputKind) (t : Term) → kind_of_term kinds (plain_term t) ≡ kind_of_term kinds t
same_kind kinds = same_fold (kind_step kinds) (record { node = λ op args others place e. ap (λ ks. node_kind op (all_kinds ks)) e })

pub same_users : (t : Term) → users_of (plain_term t) ≡ users_of t
same_users = same_fold users_step (record { node = λ op args others place e. ap (λ us. joined us ++ user_number op) e })

pub same_passing : (p : VarId → Bool) (t : Term) → all_variables p (plain_term t) ≡ all_variables p t
same_passing p = same_fold (pass_step p) (record { node = λ op args others place e. ap (list_all (λ b. b)) e })

pub same_outcome : (users : ℕ → NumberRule) (env : ℕ → Outcome) (t : Term) → outcome_of users env (plain_term t) ≡ outcome_of users env t
same_outcome users env = same_fold (outcome_step users env) (record { node = λ op args others place e. ap (λ os. operated users op (gathered os)) e })

pub plain_again : (t : Term) → plain_term (plain_term t) ≡ plain_term t
plain_again = same_fold plain_step (record { node = λ op args others place e. ap (λ ts. node op ts place) e })

-- equality looks at the arguments alone

pub same_left : (t u : Term) → same_term (plain_term t) u ≡ same_term t u
same_left t u = ap (λ (f : Term → Bool). f u) (same_fold (λ y v. same_layer y (out-Term v)) (record { node = λ op args others place e. ap (λ tests v. is_node (out-Term v) op tests) e }) t)

pub roll_out : (t : Term) → roll-Term (out-Term t) ≡ t
roll_out = ind-Term (λ t. roll-Term (out-Term t) ≡ t) (λ x y is. ap roll-Term (out-roll-Term x))

abbrev pub plain_layer : Term-F Term → Term-F Term
plain_layer (Term-F.Const x) = Term-F.Const x
plain_layer (Term-F.ConstSet s) = Term-F.ConstSet s
plain_layer (Term-F.Var v) = Term-F.Var v
plain_layer (Term-F.Node op args place) = Term-F.Node op (vec_of (map plain_term args.items)) place

pub plain_roll : (y : Term-F Term) → plain_term (roll-Term y) ≡ roll-Term (plain_layer y)
plain_roll (Term-F.Const x) = fold-roll-Term Term plain_step (Term-F.Const x)
plain_roll (Term-F.ConstSet s) = fold-roll-Term Term plain_step (Term-F.ConstSet s)
plain_roll (Term-F.Var v) = fold-roll-Term Term plain_step (Term-F.Var v)
plain_roll (Term-F.Node op args place) = fold-roll-Term Term plain_step (Term-F.Node op args place)

pub plain_out : (t : Term) → out-Term (plain_term t) ≡ plain_layer (out-Term t)
plain_out t = ap (λ u. out-Term (plain_term u)) (sym (roll_out t)) ∙ ap out-Term (plain_roll (out-Term t)) ∙ out-roll-Term (plain_layer (out-Term t))

-- the arguments of a plain twin are the twins of the arguments
pub args_of_vec : (args : Vec Term Global) → (vec_of (map plain_term args.items)).items ≡ map plain_term args.items
args_of_vec args = items_of_vec args (map plain_term args.items) (length_map plain_term args.items)

abbrev IsSameRight : Term → Type 0
IsSameRight t = (u : Term) → same_term t (plain_term u) ≡ same_term t u

abbrev Known : Type 0
Known = (t : Term) × IsSameRight t

all_pass_plain : (es : List Known) (us : List Term) → all_pass (map same_term (map (λ e. e.0) es)) (map plain_term us) ≡ all_pass (map same_term (map (λ e. e.0) es)) us
all_pass_plain [] [] = refl
all_pass_plain [] (u ∷ us) = refl
all_pass_plain (e ∷ es) [] = refl
all_pass_plain (e ∷ es) (u ∷ us) =
    ap (λ b. b && all_pass (map same_term (map (λ x. x.0) es)) (map plain_term us)) (e.1 u) ∙ ap (λ b. same_term e.0 u && b) (all_pass_plain es us)

right_layer : (y : Term-F Known) (z : Term-F Term) → same_layer (map-Term Term (Term → Bool) same_term (map-Term Known Term (λ e. e.0) y)) (plain_layer z) ≡ same_layer (map-Term Term (Term → Bool) same_term (map-Term Known Term (λ e. e.0) y)) z
right_layer (Term-F.Const x) (Term-F.Const w) = refl
right_layer (Term-F.Const x) (Term-F.ConstSet w) = refl
right_layer (Term-F.Const x) (Term-F.Var w) = refl
right_layer (Term-F.Const x) (Term-F.Node op args place) = refl
right_layer (Term-F.ConstSet x) (Term-F.Const w) = refl
right_layer (Term-F.ConstSet x) (Term-F.ConstSet w) = refl
right_layer (Term-F.ConstSet x) (Term-F.Var w) = refl
right_layer (Term-F.ConstSet x) (Term-F.Node op args place) = refl
right_layer (Term-F.Var x) (Term-F.Const w) = refl
right_layer (Term-F.Var x) (Term-F.ConstSet w) = refl
right_layer (Term-F.Var x) (Term-F.Var w) = refl
right_layer (Term-F.Var x) (Term-F.Node op args place) = refl
right_layer (Term-F.Node op args place) (Term-F.Const w) = refl
right_layer (Term-F.Node op args place) (Term-F.ConstSet w) = refl
right_layer (Term-F.Node op args place) (Term-F.Var w) = refl
right_layer (Term-F.Node op args place) (Term-F.Node other us at) =
    ap (λ b. same_operation other op && b)
    (ap (all_pass (map same_term (map (λ (e : Known). e.0) args.items))) (args_of_vec us) ∙ all_pass_plain args.items us.items)

same_roll : (y : Term-F Term) (u : Term) → same_term (roll-Term y) u ≡ same_layer (map-Term Term (Term → Bool) same_term y) (out-Term u)
same_roll y u = ap (λ (f : Term → Bool). f u) (fold-roll-Term (Term → Bool) (λ x v. same_layer x (out-Term v)) y)

pub same_right : (t u : Term) → same_term t (plain_term u) ≡ same_term t u
same_right = ind-Term IsSameRight (λ x y is. subst (λ z. IsSameRight (roll-Term z)) is (rolled y)) where
  rolled : (y : Term-F Known) → IsSameRight (roll-Term (map-Term Known Term (λ e. e.0) y))
  rolled y u =
      let z : Term-F Term = map-Term Known Term (λ e. e.0) y in
      same_roll z (plain_term u)
      ∙ ap (same_layer (map-Term Term (Term → Bool) same_term z)) (plain_out u)
      ∙ right_layer y (out-Term u)
      ∙ sym (same_roll z u)

pub same_both : (t u : Term) → same_term (plain_term t) (plain_term u) ≡ same_term t u
same_both t u = same_left t (plain_term u) ∙ same_right t u
