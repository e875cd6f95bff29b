-- Built terms: constants and variables, terms in a row, and an operation of them.
use Rattle.std.proofs.Common.{◌≡◌, ℕ, suc, ◌+◌, ◌<◌, ◌≤◌, ℤ, Vec, Global, List, [], ◌∷◌, ◌++◌, map, refl, sym, ap, ◌∙◌, subst, arith, append-nil, append_assoc}
use Rattle.std.specs.Prelude.{max}
use Rattle.cbl_base.specs.declared.ids.VarId.{VarId}
use Rattle.cbl_base.specs.declared.limits.TheConstants.{MAX_TERM_DEPTH}
use Rattle.cbl_base.specs.declared.place.Place.{Place}
use Rattle.cbl_operations.specs.declared.op.Op.{Op}
use Rattle.cbl_operations.specs.declared.op.Op.TheVariants.{User}
use Rattle.model_view.specs.Building.{constant, constant_set, variable, node}
use Rattle.model_view.specs.Plain.{plain_step, plain_term}
use Rattle.model_view.proofs.PlainSubterms.{map_append}
use Rattle.term_model.specs.Definitions.{joined}
use Rattle.term_model.specs.Depth.{depth_of, depth_step, greatest}
use Rattle.term_model.specs.Naming.{user_number, users_of, users_step}
use Rattle.term_model.specs.declared.term.Term.{Term}
use Rattle.term_model.specs.declared.term.Term.TheOpen.{Term-F}
use Rattle.term_model.specs.declared.term.Term.TheFolds.{fold-roll-Term}
use Rattle.term_model.specs.declared.term.Term.TheVariants.{Const, ConstSet, Var, Node, rolls-Const, rolls-ConstSet, rolls-Var, rolls-Node}
use Rattle.run_solvers.specs.Building.{AreBuilt, IsBuilt}

-- ---- leaves
pub constant_built : (z : ℤ) → IsBuilt (Const z) 0
constant_built z = subst (λ (t : Term). IsBuilt t 0) (rolls-Const z) (record { depth_ = sym (fold-roll-Term ℕ depth_step (Term-F.Const z)); within = omega arith; users = fold-roll-Term (List ℕ) users_step (Term-F.Const z) })

pub constant_seen : (z : ℤ) → plain_term (Const z) ≡ constant z
constant_seen z = ap plain_term (sym (rolls-Const z)) ∙ fold-roll-Term Term plain_step (Term-F.Const z)

pub set_built : (s : List ℤ) → IsBuilt (ConstSet s) 0
set_built s = subst (λ (t : Term). IsBuilt t 0) (rolls-ConstSet s) (record { depth_ = sym (fold-roll-Term ℕ depth_step (Term-F.ConstSet s)); within = omega arith; users = fold-roll-Term (List ℕ) users_step (Term-F.ConstSet s) })

pub set_seen : (s : List ℤ) → plain_term (ConstSet s) ≡ constant_set s
set_seen s = ap plain_term (sym (rolls-ConstSet s)) ∙ fold-roll-Term Term plain_step (Term-F.ConstSet s)

pub variable_built : (x : VarId) → IsBuilt (Var x) 0
variable_built x = subst (λ (t : Term). IsBuilt t 0) (rolls-Var x) (record { depth_ = sym (fold-roll-Term ℕ depth_step (Term-F.Var x)); within = omega arith; users = fold-roll-Term (List ℕ) users_step (Term-F.Var x) })

pub variable_seen : (x : VarId) → plain_term (Var x) ≡ variable x
variable_seen x = ap plain_term (sym (rolls-Var x)) ∙ fold-roll-Term Term plain_step (Term-F.Var x)

-- what is no user's constraint
pub not_user : (op : Op) → ((n : ℕ) → op ≡ User n → ⊥) → user_number op ≡ []
not_user (User n) h = absurd (h n refl)
not_user op h = refl

-- ---- terms in a row
pub greatest_more : (ns : List ℕ) (n : ℕ) → greatest (ns ++ n ∷ []) ≡ max (greatest ns) n
greatest_more [] n = grind arith
greatest_more (m ∷ ns) n = let more = greatest_more ns n in grind (arith, more)

joined_more : (xss : List (List ℕ)) (xs : List ℕ) → joined (xss ++ xs ∷ []) ≡ joined xss ++ xs
joined_more [] xs = append-nil xs
joined_more (ys ∷ xss) xs = ap (λ zs. ys ++ zs) (joined_more xss xs) ∙ sym (append_assoc ys (joined xss) xs)

max_within : (m n most : ℕ) → m ≤ most → n ≤ most → max m n ≤ most
max_within m n most a b = grind (arith, a, b)

pub none_built : AreBuilt [] 0 []
none_built = record { seen = refl; depth = refl; within = omega arith; users = refl }

pub more_built : (ts : List Term) (deepest : ℕ) (plain : List Term) (t : Term) (depth : ℕ) → AreBuilt ts deepest plain → IsBuilt t depth → AreBuilt (ts ++ t ∷ []) (max deepest depth) (plain ++ plain_term t ∷ [])
more_built ts deepest plain t depth are is = record {
  seen = map_append plain_term ts (t ∷ []) ∙ ap (λ us. us ++ plain_term t ∷ []) are.seen;
  depth =
      ap (λ n. max n depth) are.depth ∙ ap (max (greatest (map depth_of ts))) is.depth_
      ∙ sym (ap greatest (map_append depth_of ts (t ∷ [])) ∙ greatest_more (map depth_of ts) (depth_of t));
  within = max_within deepest depth MAX_TERM_DEPTH are.within is.within;
  users =
      ap joined (map_append users_of ts (t ∷ [])) ∙ joined_more (map users_of ts) (users_of t)
      ∙ ap (λ us. us ++ users_of t) are.users ∙ is.users;
}

-- ---- an operation of them
module _ (op : Op) (args : Vec Term Global) (at : Place) (deepest : ℕ) (plain : List Term) (are : AreBuilt args.items deepest plain) where
  pub node_seen : plain_term (Node op args at) ≡ node op plain at
  node_seen = ap plain_term (sym (rolls-Node op args at)) ∙ fold-roll-Term Term plain_step (Term-F.Node op args at) ∙ ap (λ ts. node op ts at) are.seen

  pub node_depth : depth_of (Node op args at) ≡ suc deepest
  node_depth = ap depth_of (sym (rolls-Node op args at)) ∙ fold-roll-Term ℕ depth_step (Term-F.Node op args at) ∙ ap suc (sym are.depth)

  node_users : user_number op ≡ [] → users_of (Node op args at) ≡ []
  node_users none = ap users_of (sym (rolls-Node op args at)) ∙ fold-roll-Term (List ℕ) users_step (Term-F.Node op args at) ∙ ap (λ us. us ++ user_number op) are.users ∙ none

  pub node_built : user_number op ≡ [] → deepest < MAX_TERM_DEPTH → IsBuilt (Node op args at) (deepest + 1)
  node_built none lt = record {
    depth_ = (let one : deepest + 1 ≡ suc deepest = omega arith in one) ∙ sym node_depth;
    within = omega (arith, lt);
    users = node_users none;
  }
