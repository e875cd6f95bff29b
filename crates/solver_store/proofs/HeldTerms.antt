-- The terms that a store of a model has ids for: their arguments are such terms; their values, and the violations at
-- their places, are what the store has at their ids.
use Rattle.std.proofs.Common.{◌≡◌, ◌⊎◌, inl, inr, ℕ, ℤ, pos, ◌+◌, ◌<◌, All, Bool, true, false, cond, List, [], ◌∷◌, map, length, Option, Some, is_some, Vec, Global, refl, sym, ap, ◌∙◌, subst, slice_get}
use Rattle.std.specs.Prelude.{unwrap_or}
use Rattle.std.specs.List.{list_all}
use Rattle.std.proofs.lemmas.Bool.{and_parts, lt-ltb}
use Rattle.std.proofs.lemmas.List.Elements.{All-nil, All-cons, All-head, All-tail}
use Rattle.cbl_base.specs.NumberRule.{NumberRule}
use Rattle.cbl_base.specs.declared.input.Input.{Input}
use Rattle.cbl_base.specs.declared.place.Place.{Place}
use Rattle.cbl_operations.specs.RuleOf.{rule_of}
use Rattle.cbl_operations.specs.declared.op.Op.{Op}
use Rattle.graph_values.specs.Graphs.{HoldsTerms, id_of, inputs_of_node}
use Rattle.graph_values.specs.Members.{cells_of, numbers_of}
use Rattle.graph_values.proofs.Arguments.{arguments_there}
use Rattle.graph_values.proofs.FreshMeaning.{value_at_id, values_at_ids}
use Rattle.graph_values.proofs.Gathering.{values_gathered}
use Rattle.graph_values.proofs.KindedTerms.{HasKind, arguments_kinded}
use Rattle.graph_values.proofs.ModelTotals.{nodes_held, vars_held}
use Rattle.model_values.specs.Outcomes.{gathered, outcome_of}
use Rattle.model_values.specs.VarOutcomes.{outcome_of_var}
use Rattle.store_build.specs.Aims.{start_of}
use Rattle.store_laws.proofs.Terms.{inputs_alike, known_of, stands_alike, stands_of, view}
use Rattle.store_turns.specs.Meaning.{Graph, IsMeaning, values_of, with_value}
use Rattle.store_turns.specs.declared.outcome.Outcome.TheVariants.{Value}
use Rattle.term_count.specs.Codes.{IsNode, is_known, is_known_by}
use Rattle.term_count.proofs.PlaceLaws.{both}
use Rattle.term_model.specs.Definitions.{IsAcyclic}
use Rattle.term_model.specs.Kinds.{kind_of_term, kinds_in}
use Rattle.term_model.specs.SameOperations.{same_operation}
use Rattle.term_model.specs.SameTerms.{all_pass, same_layer, same_term}
use Rattle.term_model.specs.Subterms.{arguments_of, distinct_subterms}
use Rattle.term_model.specs.Wellformed.{IsWellFormed}
use Rattle.term_model.specs.declared.model.Model.{Model}
use Rattle.term_model.specs.declared.term.Term.{Term}
use Rattle.term_model.specs.declared.term.Term.TheOpen.{Term-F}
use Rattle.term_model.specs.declared.term.Term.TheFolds.{map-Term}
use Rattle.term_model.specs.declared.term.Term.TheViews.{Node, out-Term, out-roll-Term}
use Rattle.term_model.specs.declared.term.Term.TheVariants.{rolls-Node}
use Rattle.term_model.proofs.EqualTerms.{same_out, same_term_equiv}
use Rattle.term_model.proofs.OperationLaws.{same_is_equal}
use Rattle.solver_store.specs.Reads.{is_held, violation_there}

-- ---- equal terms
node_layer : (y z : Term-F Term) → same_layer (map-Term Term (Term → Bool) same_term y) z ≡ true → IsNode y → IsNode z
node_layer (Term-F.Const x) (Term-F.Const z) h own = tt
node_layer (Term-F.Const x) (Term-F.ConstSet z) h own = tt
node_layer (Term-F.Const x) (Term-F.Var z) h own = let c : false ≡ true = h in cc
node_layer (Term-F.Const x) (Term-F.Node op args place) h own = tt
node_layer (Term-F.ConstSet x) (Term-F.Const z) h own = tt
node_layer (Term-F.ConstSet x) (Term-F.ConstSet z) h own = tt
node_layer (Term-F.ConstSet x) (Term-F.Var z) h own = let c : false ≡ true = h in cc
node_layer (Term-F.ConstSet x) (Term-F.Node op args place) h own = tt
node_layer (Term-F.Var x) z h own = absurd own
node_layer (Term-F.Node op args place) (Term-F.Const z) h own = tt
node_layer (Term-F.Node op args place) (Term-F.ConstSet z) h own = tt
node_layer (Term-F.Node op args place) (Term-F.Var z) h own = let c : false ≡ true = h in cc
node_layer (Term-F.Node op args place) (Term-F.Node op' args' place') h own = tt

known_by : (ts : List Term) (t u : Term) (y : Term-F Term) → out-Term t ≡ y → same_term t u ≡ true → is_known ts u ≡ true → is_known ts t ≡ true
known_by ts t u (Term-F.Const x) e same h =
    let own : IsNode (out-Term t) = subst IsNode (sym e) tt in
    known_of ts t own (stands_alike ts u t (sym (same_term_equiv.symm t u) ∙ same) (stands_of ts u (node_layer (out-Term t) (out-Term u) (sym (same_out t u) ∙ same) own) h))
known_by ts t u (Term-F.ConstSet x) e same h =
    let own : IsNode (out-Term t) = subst IsNode (sym e) tt in
    known_of ts t own (stands_alike ts u t (sym (same_term_equiv.symm t u) ∙ same) (stands_of ts u (node_layer (out-Term t) (out-Term u) (sym (same_out t u) ∙ same) own) h))
known_by ts t u (Term-F.Var x) e same h = ap (is_known_by ts t) e
known_by ts t u (Term-F.Node op args place) e same h =
    let own : IsNode (out-Term t) = subst IsNode (sym e) tt in
    known_of ts t own (stands_alike ts u t (sym (same_term_equiv.symm t u) ∙ same) (stands_of ts u (node_layer (out-Term t) (out-Term u) (sym (same_out t u) ∙ same) own) h))

-- a term that is equal to a known one is known
known_alike : (ts : List Term) (t u : Term) → same_term t u ≡ true → is_known ts u ≡ true → is_known ts t ≡ true
known_alike ts t u same h = known_by ts t u (out-Term t) refl same h

all_alike : (ts us vs : List Term) → all_pass (map same_term us) vs ≡ true → list_all (is_known ts) vs ≡ true → list_all (is_known ts) us ≡ true
all_alike ts [] vs h known = refl
all_alike ts (u ∷ us) [] h known = let c : false ≡ true = h in cc
all_alike ts (u ∷ us) (v ∷ vs) h known =
    let same = and_parts (same_term u v) (all_pass (map same_term us) vs) h in
    let parts = and_parts (is_known ts v) (list_all (is_known ts) vs) known in
    both (is_known ts u) (list_all (is_known ts) us) (known_alike ts u v same.0 parts.0) (all_alike ts us vs same.1 parts.1)

-- the layer of an operation
pub layer_of_node : (t : Term) (op : Op) (args : Vec Term Global) (place : Place) → t ≡ Node op args place → out-Term t ≡ Term-F.Node op args place
layer_of_node t op args place e = ap out-Term (e ∙ sym (rolls-Node op args place)) ∙ out-roll-Term (Term-F.Node op args place)

-- an operation that is equal to a term: the term is the same operation, of arguments that are equal one by one
pub record IsAlso (op : Op) (args : List Term) (u : Term) : Type 0 where
  pub others : Vec Term Global
  pub place : Place
  pub is : out-Term u ≡ Term-F.Node op others place
  pub pass : all_pass (map same_term args) others.items ≡ true

also_by : (op : Op) (args : Vec Term Global) (place : Place) (u : Term) (z : Term-F Term) → out-Term u ≡ z → same_layer (map-Term Term (Term → Bool) same_term (Term-F.Node op args place)) z ≡ true → IsAlso op args.items u
also_by op args place u (Term-F.Const x) e h = let c : false ≡ true = h in cc
also_by op args place u (Term-F.ConstSet x) e h = let c : false ≡ true = h in cc
also_by op args place u (Term-F.Var x) e h = let c : false ≡ true = h in cc
also_by op args place u (Term-F.Node op' args' place') e h =
    let parts = and_parts (same_operation op' op) (all_pass (map same_term args.items) args'.items) h in
    record { others = args'; place = place'; is = e ∙ ap (λ o. Term-F.Node o args' place') (same_is_equal op' op parts.0); pass = parts.1 }

also : (op : Op) (args : Vec Term Global) (place : Place) (t u : Term) → out-Term t ≡ Term-F.Node op args place → same_term t u ≡ true → IsAlso op args.items u
also op args place t u out same =
    also_by op args place u (out-Term u) refl (sym (ap (λ y. same_layer (map-Term Term (Term → Bool) same_term y) (out-Term u)) out) ∙ sym (same_out t u) ∙ same)

-- ---- in a well formed model
module _ (M : Model) (formed : IsWellFormed M) where
  abbrev ds : List Term
  ds = distinct_subterms M

  pub held_known : (t : Term) → is_held M t ≡ true → is_known ds t ≡ true
  held_known t h = (and_parts (is_known ds t) (is_some (kind_of_term (kinds_in M.vars.items) t)) h).0

  pub held_kind : (t : Term) → is_held M t ≡ true → HasKind M t
  held_kind t h = (and_parts (is_known ds t) (is_some (kind_of_term (kinds_in M.vars.items) t)) h).1

  pub held_of : (t : Term) → is_known ds t ≡ true → HasKind M t → is_held M t ≡ true
  held_of t known kind = both (is_known ds t) (is_some (kind_of_term (kinds_in M.vars.items) t)) known kind

  -- an operation that is held stands at one place
  pub record IsNodeAt (t : Term) (op : Op) (args : List Term) : Type 0 where
    pub k : ℕ
    pub u : Term
    pub at : slice_get ds k ≡ Some u
    pub id : id_of M t ≡ cells_of M + k
    pub also_ : IsAlso op args u
    pub same : same_term t u ≡ true

  pub node_at : (t : Term) (op : Op) (args : Vec Term Global) (place : Place) → out-Term t ≡ Term-F.Node op args place → is_held M t ≡ true → IsNodeAt t op args.items
  node_at t op args place out h = by (view M t (held_known t h) (held_kind t h))
    where
      no_var : {X : Type 0} (y : Term-F Term) → out-Term t ≡ y → IsNode y → ⊥ → X
      no_var y e own c = absurd c

      by : (((v : _) × (out-Term t ≡ Term-F.Var v) × (id_of M t ≡ v.index) × (v.index < length M.vars.items)) ⊎ ((k : ℕ) × (u : Term) × (slice_get ds k ≡ Some u) × (same_term t u ≡ true) × (id_of M t ≡ cells_of M + k) × IsNode (out-Term t))) → IsNodeAt t op args.items
      by (inl var) = let c : Term-F.Node op args place ≡ Term-F.Var var.0 = sym out ∙ var.1 in absurd (subst IsNode c tt)
      by (inr n) = record { k = n.0; u = n.1; at = n.2; id = n.4; also_ = also op args place t n.1 out n.3; same = n.3 }

  each_held : (ts : List Term) → list_all (is_known ds) ts ≡ true → All (HasKind M) ts → All (λ u. is_held M u ≡ true) ts
  each_held [] known kinds = All-nil (λ u. is_held M u ≡ true)
  each_held (t ∷ ts) known kinds =
      let parts = and_parts (is_known ds t) (list_all (is_known ds) ts) known in
      All-cons (λ u. is_held M u ≡ true) t ts (held_of t parts.0 (All-head (HasKind M) t ts kinds)) (each_held ts parts.1 (All-tail (HasKind M) t ts kinds))

  args_known : (t : Term) (op : Op) (args : Vec Term Global) (place : Place) → out-Term t ≡ Term-F.Node op args place → is_held M t ≡ true → list_all (is_known ds) args.items ≡ true
  args_known t op args place out h =
      let n = node_at t op args place out h in
      all_alike ds args.items n.also_.others.items n.also_.pass (ap (λ y. list_all (is_known ds) (arguments_of y)) (sym n.also_.is) ∙ (arguments_there M n.k n.u n.at).1)

  args_kinded : (t : Term) (op : Op) (args : Vec Term Global) (place : Place) → out-Term t ≡ Term-F.Node op args place → is_held M t ≡ true → All (HasKind M) args.items
  args_kinded t op args place out h = subst (λ y. All (HasKind M) (arguments_of y)) out (arguments_kinded (kinds_in M.vars.items) t (held_kind t h))

  -- its arguments are held
  pub arguments_held : (t : Term) (op : Op) (args : Vec Term Global) (place : Place) → t ≡ Node op args place → is_held M t ≡ true → All (λ u. is_held M u ≡ true) args.items
  arguments_held t op args place e h = each_held args.items (args_known t op args place (layer_of_node t op args place e) h) (args_kinded t op args place (layer_of_node t op args place e) h)

  -- ---- in a graph that holds the model's terms, whose ids all have values
  module _ (users : ℕ → NumberRule) (a : List ℤ) (acyclic : IsAcyclic M) (long : length a ≡ length M.vars.items) (g : Graph) (holds : HoldsTerms users M g) (x : ℕ → Input)
      (meaning : IsMeaning g (start_of (numbers_of M a)) (λ id. Value (x id))) where
    abbrev env : ℕ → Option Input
    env = outcome_of_var users M a

    pub held_value : (t : Term) → is_held M t ≡ true → outcome_of users env t ≡ Some (x (id_of M t))
    held_value t h =
        sym (value_at_id users env M (λ id. Value (x id)) (vars_held users M a formed acyclic long g holds (λ id. Value (x id)) meaning) (nodes_held users M a formed acyclic long g holds (λ id. Value (x id)) meaning)
        t (held_known t h) (held_kind t h))

    all_there : (ids : List ℕ) → values_of (map (λ id. Value (x id)) ids) ≡ Some (map x ids)
    all_there [] = refl
    all_there (id ∷ ids) = ap (with_value (Value (x id))) (all_there ids)

    some_same : (xs ys : List Input) → Some xs ≡ Some ys → xs ≡ ys
    some_same xs ys e = ap (λ o. unwrap_or o xs) e

    args_values : (t : Term) (op : Op) (args : Vec Term Global) (place : Place) (xs : List Input) → out-Term t ≡ Term-F.Node op args place → is_held M t ≡ true → gathered (map (outcome_of users env) args.items) ≡ Some xs → map x (map (id_of M) args.items) ≡ xs
    args_values t op args place xs out h e =
        some_same (map x (map (id_of M) args.items)) xs (
        sym (all_there (map (id_of M) args.items)) ∙ values_gathered (map (λ id. Value (x id)) (map (id_of M) args.items))
        ∙ ap gathered (values_at_ids users env M (λ id. Value (x id)) (vars_held users M a formed acyclic long g holds (λ id. Value (x id)) meaning) (nodes_held users M a formed acyclic long g holds (λ id. Value (x id)) meaning)
        args.items (args_known t op args place out h) (args_kinded t op args place out h))
        ∙ e
        )

    -- the violation at a place, where the node that stands there has its subterm's rule and its inputs
    pub held_violation : (t : Term) (op : Op) (args : Vec Term Global) (place : Place) (xs : List Input) (p : ℕ) → t ≡ Node op args place → is_held M t ≡ true → gathered (map (outcome_of users env) args.items) ≡ Some xs → p < length xs →
        (n : IsNodeAt t op args.items) × (violation_there (Some (rule_of users op)) (map x (inputs_of_node M (Some n.u))) p ≡ (rule_of users op).violation_at xs p)
    held_violation t op args place xs p e h values lt =
        let out : out-Term t ≡ Term-F.Node op args place = layer_of_node t op args place e in
        let n = node_at t op args place out h in
        let same : map x (inputs_of_node M (Some n.u)) ≡ xs =
        ap (map x) (sym (inputs_alike M t n.u n.same) ∙ ap (λ y. map (id_of M) (arguments_of y)) out) ∙ args_values t op args place xs out h values in
        (n, ap (λ ys. violation_there (Some (rule_of users op)) ys p) same ∙ ap (λ b. cond b ((rule_of users op).violation_at xs p) (pos 0)) (lt-ltb p (length xs) lt))
