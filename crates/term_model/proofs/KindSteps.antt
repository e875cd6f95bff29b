-- The kinds and the depths of a node's arguments, one after another, and what they say of the node.
use Rattle.std.proofs.Common.{◌≡◌, ℕ, zero, suc, ◌+◌, ◌<◌, ◌≤◌, List, [], ◌∷◌, ◌++◌, Option, Some, None, Result, Ok, Err, IfOk, Vec, Global, length, fold, get_or, take, map, refl, sym, ap, ◌∙◌, subst, arith, ◌&&◌}
use Rattle.std.specs.List.{list_all}
use Rattle.std.specs.Option.{option_map}
use Rattle.std.proofs.lemmas.List.{map_more, take_all}
use Rattle.cbl_base.specs.Inputs.{InputKind, all_numbers}
use Rattle.cbl_base.specs.declared.ids.VarId.{VarId}
use Rattle.cbl_base.specs.declared.place.Place.{Place}
use Rattle.cbl_operations.specs.declared.op.Op.{Op}
use Rattle.term_model.specs.Checks.{IsKindWithin, is_number_var}
use Rattle.term_model.specs.Depth.{depth_of, depth_step, greatest}
use Rattle.term_model.specs.Kinds.{kind_step, kind_of_term, kind_of_var, node_kind, all_kinds, gather_kind}
use Rattle.term_model.specs.declared.model.VarKind.{VarKind}
use Rattle.term_model.specs.declared.term.Term.{Term}
use Rattle.term_model.specs.declared.term.Term.TheOpen.{Term-F}
use Rattle.term_model.specs.declared.term.Term.TheViews.{Node}
use Rattle.term_model.specs.declared.term.Term.TheVariants.{Var, rolls-Var, rolls-Node}
use Rattle.term_model.specs.declared.term.Term.TheFolds.{fold-roll-Term}
use Rattle.term_model.proofs.Kinded.{none_stays}
use Rattle.term_model.proofs.Layers.{one_more, kind_of_layer, depth_below}

pub all_numbers_of : (kinds : List VarKind) → all_numbers (map kind_of_var kinds) ≡ list_all is_number_var kinds
all_numbers_of [] = refl
all_numbers_of (k ∷ kinds) = ap (λ b. is_number_var k && b) (all_numbers_of kinds)

-- the arguments so far have these kinds, and are less deep than the limit
pub record AreSoFar (kinds : ℕ → Option InputKind) (limit : ℕ) (items : List Term) (found : List VarKind) : Type 0 where
  pub kinds_are : all_kinds (map (kind_of_term kinds) items) ≡ Some (map kind_of_var found)
  pub shallow : greatest (map depth_of items) < limit

greatest_more : (ns : List ℕ) (n limit : ℕ) → greatest ns < limit → n < limit → greatest (ns ++ n ∷ []) < limit
greatest_more [] n limit a b = omega (arith, b)
greatest_more (m ∷ ns) n limit a b =
    let rest : greatest (ns ++ n ∷ []) < limit = greatest_more ns n limit (omega (arith, a)) b in
    omega (arith, a, rest)

mapped_more : (found : List VarKind) (kind : VarKind) → map kind_of_var (found ++ kind ∷ []) ≡ map kind_of_var found ++ kind_of_var kind ∷ []
mapped_more [] kind = refl
mapped_more (k ∷ found) kind = ap (λ ks. kind_of_var k ∷ ks) (mapped_more found kind)

pub none_so_far : (kinds : ℕ → Option InputKind) (limit : ℕ) (items : List Term) → 0 < limit → AreSoFar kinds limit (take 0 items) []
none_so_far kinds limit items lt = record { kinds_are = refl; shallow = lt }

pub one_so_far : (kinds : ℕ → Option InputKind) (limit : ℕ) (items : List Term) (i : ℕ) (item : Term) (found after : List VarKind) (kind : VarKind) (below : ℕ) →
    i < length items → item ≡ get_or items i item → AreSoFar kinds limit (take i items) found → IsKindWithin kinds below item (Some kind) → below < limit → after ≡ found ++ kind ∷ [] → AreSoFar kinds limit (take (i + 1) items) after
one_so_far kinds limit items i item found after kind below lt is so_far within less e = record {
  kinds_are =
      one_more gather_kind (Some []) (kind_of_term kinds) items i item lt is
      ∙ ap (λ ks. gather_kind ks (kind_of_term kinds item)) so_far.kinds_are ∙ ap (gather_kind (Some (map kind_of_var found))) within.0
      ∙ ap Some (sym (mapped_more found kind)) ∙ ap (λ ks. Some (map kind_of_var ks)) (sym e);
  shallow =
      let depth : depth_of (get_or items i item) < limit = subst (λ u. depth_of u < limit) is (let d : depth_of item ≤ below = within.1 in omega (arith, d, less)) in
      subst (λ ns. greatest ns < limit) (sym (map_more depth_of items i item lt)) (greatest_more (map depth_of (take i items)) (depth_of (get_or items i item)) limit so_far.shallow depth);
}

node_within : (kinds : ℕ → Option InputKind) (limit : ℕ) (t : Term) (kind : Option VarKind) → kind_of_term kinds t ≡ option_map kind_of_var kind → depth_of t ≤ limit → IsKindWithin kinds limit t kind
node_within kinds limit t (Some kind) e le = (e, le)
node_within kinds limit t None e le = λ shallow. e

pub node_so_far : (kinds : ℕ → Option InputKind) (limit : ℕ) (t : Term) (op : Op) (args : Vec Term Global) (place : Place) (items : List Term) (i : ℕ) (found : List VarKind) (kind : Option VarKind) →
    t ≡ Node op args place → items ≡ args.items → length items ≤ i → AreSoFar kinds limit (take i items) found → option_map kind_of_var kind ≡ node_kind op (Some (map kind_of_var found)) → IsKindWithin kinds limit t kind
node_so_far kinds limit t op args place items i found kind e same le so_far is =
    let whole : take i items ≡ args.items = take_all i items le ∙ same in
    let all : all_kinds (map (kind_of_term kinds) args.items) ≡ Some (map kind_of_var found) = subst (λ ts. all_kinds (map (kind_of_term kinds) ts) ≡ Some (map kind_of_var found)) whole so_far.kinds_are in
    let shallow : greatest (map depth_of args.items) < limit = subst (λ ts. greatest (map depth_of ts) < limit) whole so_far.shallow in
    let depth : depth_of t ≡ suc (greatest (map depth_of args.items)) = ap depth_of (e ∙ sym (rolls-Node op args place)) ∙ fold-roll-Term ℕ depth_step (Term-F.Node op args place) in
    node_within kinds limit t kind (kind_of_layer kinds t op args place e ∙ ap (node_kind op) all ∙ sym is) (omega (arith, depth, shallow))

-- where no kind is found

pub var_within : (kinds : ℕ → Option InputKind) (limit : ℕ) (t : Term) (v : VarId) (kind : Option VarKind) → t ≡ Var v → option_map kind_of_var kind ≡ kinds v.index → IsKindWithin kinds limit t kind
var_within kinds limit t v kind e is =
    let depth : depth_of t ≡ 0 = ap depth_of (e ∙ sym (rolls-Var v)) ∙ fold-roll-Term ℕ depth_step (Term-F.Var v) in
    node_within kinds limit t kind (ap (kind_of_term kinds) (e ∙ sym (rolls-Var v)) ∙ fold-roll-Term (Option InputKind) (kind_step kinds) (Term-F.Var v) ∙ sym is) (omega (arith, depth))

-- a node is deeper than 0
pub node_too_deep : (kinds : ℕ → Option InputKind) (limit : ℕ) (t : Term) (op : Op) (args : Vec Term Global) (place : Place) → t ≡ Node op args place → limit ≡ 0 → IsKindWithin kinds limit t None
node_too_deep kinds limit t op args place e none shallow =
    let depth : depth_of t ≡ suc (greatest (map depth_of args.items)) = ap depth_of (e ∙ sym (rolls-Node op args place)) ∙ fold-roll-Term ℕ depth_step (Term-F.Node op args place) in
    absurd (omega (arith, depth, none, shallow))

none_gathered : (kind : Term → Option InputKind) (so_far : Option (List InputKind)) (items : List Term) (i : ℕ) (item : Term) → i < length items → kind (get_or items i item) ≡ None → fold gather_kind so_far (map kind items) ≡ None
none_gathered kind so_far [] i item lt none = absurd (omega (arith, lt))
none_gathered kind so_far (t ∷ items) zero item lt none = ap (λ k. fold gather_kind (gather_kind so_far k) (map kind items)) none ∙ ended so_far (map kind items) where
  ended : (so_far : Option (List InputKind)) (ks : List (Option InputKind)) → fold gather_kind (gather_kind so_far None) ks ≡ None
  ended None ks = none_stays ks
  ended (Some found) ks = none_stays ks
none_gathered kind so_far (t ∷ items) (suc i) item lt none = none_gathered kind (gather_kind so_far (kind t)) items i item (omega (arith, lt)) none

-- a node with an argument of no kind has none
pub arg_without : (kinds : ℕ → Option InputKind) (limit below : ℕ) (t : Term) (op : Op) (args : Vec Term Global) (place : Place) (items : List Term) (i : ℕ) (item : Term) →
    t ≡ Node op args place → items ≡ args.items → i < length items → item ≡ get_or items i item → limit ≤ suc below → IsKindWithin kinds below item None → IsKindWithin kinds limit t None
arg_without kinds limit below t op args place items i item e same lt is le within shallow =
    let deep : depth_of item < depth_of t = depth_below t op args place items i item e same lt is in
    let none : kind_of_term kinds item ≡ None = within (omega (arith, deep, shallow, le)) in
    let there : kind_of_term kinds (get_or items i item) ≡ None = ap (kind_of_term kinds) (sym is) ∙ none in
    kind_of_layer kinds t op args place e
    ∙ ap (λ ts. node_kind op (all_kinds (map (kind_of_term kinds) ts))) (sym same)
    ∙ ap (node_kind op) (none_gathered (kind_of_term kinds) (Some []) items i item lt there)

-- of a term no deeper than the limit the kind is found exactly
kind_exactly : (kinds : ℕ → Option InputKind) (limit : ℕ) (t : Term) (kind : Option VarKind) → depth_of t ≤ limit → IsKindWithin kinds limit t kind → option_map kind_of_var kind ≡ kind_of_term kinds t
kind_exactly kinds limit t (Some kind) shallow within = sym within.0
kind_exactly kinds limit t None shallow within = sym (within shallow)

pub kind_found : {E : Type 0} (kinds : ℕ → Option InputKind) (limit : ℕ) (t : Term) (result : Result (Option VarKind) E) → depth_of t ≤ limit → IfOk result (IsKindWithin kinds limit t) → IfOk result (λ kind. option_map kind_of_var kind ≡ kind_of_term kinds t)
kind_found kinds limit t (Ok kind) shallow within = kind_exactly kinds limit t kind shallow within
kind_found kinds limit t (Err failure) shallow within = within
