-- The id of a term is its variable's cell, or that of the one subterm that is equal to it; equal terms have equal
-- inputs; and what holds of a term's variables holds of each subterm's.
use Rattle.std.proofs.Common.{◌≡◌, ◌⊎◌, inl, inr, ℕ, ◌+◌, ◌<◌, Bool, true, false, ◌||◌, List, [], ◌∷◌, ◌++◌, map, Option, Some, refl, sym, ap, ◌∙◌, subst, slice_get, All}
use Rattle.std.specs.List.{list_any, position_or_len}
use Rattle.std.proofs.lemmas.List.Elements.{All-nil, All-cons, All-head, All-tail, All-append, All-weaker}
use Rattle.cbl_base.specs.Inputs.{InputKind}
use Rattle.cbl_base.specs.declared.ids.VarId.{VarId}
use Rattle.store_laws.proofs.Depends.{either}
use Rattle.term_count.specs.Codes.{IsNode, is_known, is_known_by}
use Rattle.term_count.proofs.PlaceLaws.{and_parts}
use Rattle.term_graph.specs.Ids.{behind, id_by}
use Rattle.term_graph.proofs.IdLaws.{args_below}
use Rattle.term_graph.proofs.SharedLaws.{ids_alike}
use Rattle.term_model.specs.Definitions.{vars_of, vars_step}
use Rattle.term_model.specs.Kinds.{kind_of_term, kind_step, kinds_in}
use Rattle.term_model.specs.SameOperations.{same_operation}
use Rattle.term_model.specs.SameTerms.{all_pass, same_layer, same_term}
use Rattle.term_model.specs.Subterms.{arguments_of, distinct_subterms, joined_terms, subterms, subterms_posted}
use Rattle.term_model.specs.declared.model.Model.{Model}
use Rattle.term_model.specs.declared.term.Term.{Term}
use Rattle.term_model.specs.declared.term.Term.TheOpen.{Term-F}
use Rattle.term_model.specs.declared.term.Term.TheViews.{out-Term, roll-Term}
use Rattle.term_model.specs.declared.term.Term.TheVariants.{rolls-Node}
use Rattle.term_model.specs.declared.term.Term.TheFolds.{fold-roll-Term, ind-Term, map-Term}
use Rattle.term_model.proofs.EqualTerms.{roll_out, same_congruent, same_out, same_term_equiv}
use Rattle.term_model.proofs.SubtermLaws.{any_same, once_apart, subterms_roll}
use Rattle.graph_values.specs.Graphs.{id_of}
use Rattle.graph_values.specs.Members.{cells_of, variables_of}
use Rattle.graph_values.proofs.Arguments.{known_of_node}
use Rattle.graph_values.proofs.Gathering.{found_at}
use Rattle.graph_values.proofs.KindedTerms.{HasKind, variable_within}

-- ---- a term among others
pub one_or : (a b : Bool) → a ≡ true → (a || b) ≡ true
one_or true b h = refl
one_or false b h = let c : false ≡ true = h in cc

pub other_or : (a b : Bool) → b ≡ true → (a || b) ≡ true
other_or true b h = refl
other_or false b h = h

abbrev pub StandsIn : List Term → Term → Type 0
StandsIn ts u = list_any (same_term u) ts ≡ true

pub all_later : (x : Term) (xs us : List Term) → All (StandsIn xs) us → All (StandsIn (x ∷ xs)) us
all_later x xs us all = All-weaker (StandsIn xs) (StandsIn (x ∷ xs)) (λ u h. other_or (same_term u x) (list_any (same_term u) xs) h) us all

pub all_itself : (xs : List Term) → All (StandsIn xs) xs
all_itself [] = All-nil (StandsIn [])
all_itself (x ∷ xs) = All-cons (StandsIn (x ∷ xs)) x xs (one_or (same_term x x) (list_any (same_term x) xs) (same_term_equiv.refl x)) (all_later x xs xs (all_itself xs))

-- one that is equal to it has what all have
pub any_all : (P : Term → Type 0) (t : Term) (xs : List Term) → All P xs → StandsIn xs t → (u : Term) × (same_term t u ≡ true) × P u
any_all P t [] all h = let c : false ≡ true = h in cc
any_all P t (x ∷ xs) all h = cases (either (same_term t x) (list_any (same_term t) xs) h) (any_all P t xs (All-tail P x xs all))
  where
    cases : (same_term t x ≡ true) ⊎ StandsIn xs t → (StandsIn xs t → (u : Term) × (same_term t u ≡ true) × P u) → (u : Term) × (same_term t u ≡ true) × P u
    cases (inl here) later = (x, here, All-head P x xs all)
    cases (inr there) later = later there

pub stands_alike : (ts : List Term) (t u : Term) → same_term t u ≡ true → StandsIn ts t → StandsIn ts u
stands_alike ts t u same h = sym (any_same (same_term t) (same_term u) (λ x. same_congruent t u x same) ts) ∙ h

pub stands_of : (ts : List Term) (t : Term) → IsNode (out-Term t) → is_known ts t ≡ true → StandsIn ts t
stands_of ts t own h = sym (known_of_node ts t (out-Term t) own) ∙ h

pub known_of : (ts : List Term) (t : Term) → IsNode (out-Term t) → StandsIn ts t → is_known ts t ≡ true
known_of ts t own h = known_of_node ts t (out-Term t) own ∙ h

known_more_by : (ts us : List Term) (t : Term) (y : Term-F Term) → (StandsIn ts t → StandsIn us t) → is_known_by ts t y ≡ true → is_known_by us t y ≡ true
known_more_by ts us t (Term-F.Const x) more h = more h
known_more_by ts us t (Term-F.ConstSet s) more h = more h
known_more_by ts us t (Term-F.Var v) more h = refl
known_more_by ts us t (Term-F.Node op args place) more h = more h

pub known_more : (ts us : List Term) → ((t : Term) → StandsIn ts t → StandsIn us t) → (t : Term) → is_known ts t ≡ true → is_known us t ≡ true
known_more ts us more t h = known_more_by ts us t (out-Term t) (more t) h

-- ---- the id of a term
module _ (M : Model) where
  abbrev pub IsVarId : Term → Type 0
  IsVarId t = (v : VarId) × (out-Term t ≡ Term-F.Var v) × (id_of M t ≡ v.index) × (v.index < variables_of M)

  abbrev pub IsNodeId : Term → Type 0
  IsNodeId t = (k : ℕ) × (u : Term) × (slice_get (distinct_subterms M) k ≡ Some u) × (same_term t u ≡ true) × (id_of M t ≡ cells_of M + k) × IsNode (out-Term t)

  found_node : (t : Term) → IsNode (out-Term t) → id_of M t ≡ behind (cells_of M) (distinct_subterms M) t → StandsIn (distinct_subterms M) t → IsNodeId t
  found_node t own e h = let found = found_at (same_term t) (distinct_subterms M) h in (position_or_len (same_term t) (distinct_subterms M), found.0, found.1, found.2, e, own)

  view_by : (t : Term) (y : Term-F Term) → out-Term t ≡ y → is_known (distinct_subterms M) t ≡ true → HasKind M t → IsVarId t ⊎ IsNodeId t
  view_by t (Term-F.Const x) e known kinded =
      inr (found_node t (subst IsNode (sym e) tt) (ap (id_by (cells_of M) (distinct_subterms M) t) e) (stands_of (distinct_subterms M) t (subst IsNode (sym e) tt) known))
  view_by t (Term-F.ConstSet s) e known kinded =
      inr (found_node t (subst IsNode (sym e) tt) (ap (id_by (cells_of M) (distinct_subterms M) t) e) (stands_of (distinct_subterms M) t (subst IsNode (sym e) tt) known))
  view_by t (Term-F.Var v) e known kinded =
      let kind : kind_of_term (kinds_in M.vars.items) t ≡ kinds_in M.vars.items v.index =
      ap (kind_of_term (kinds_in M.vars.items)) (sym (roll_out t) ∙ ap roll-Term e) ∙ fold-roll-Term (Option InputKind) (kind_step (kinds_in M.vars.items)) (Term-F.Var v) in
      inl (v, e, ap (id_by (cells_of M) (distinct_subterms M) t) e, variable_within M t v.index kind kinded)
  view_by t (Term-F.Node op args place) e known kinded =
      inr (found_node t (subst IsNode (sym e) tt) (ap (id_by (cells_of M) (distinct_subterms M) t) e) (stands_of (distinct_subterms M) t (subst IsNode (sym e) tt) known))

  pub view : (t : Term) → is_known (distinct_subterms M) t ≡ true → HasKind M t → IsVarId t ⊎ IsNodeId t
  view t known kinded = view_by t (out-Term t) refl known kinded

  -- a subterm that is equal to one at a place has its id
  by_node : (t : Term) (y : Term-F Term) → IsNode y → id_by (cells_of M) (distinct_subterms M) t y ≡ behind (cells_of M) (distinct_subterms M) t
  by_node t (Term-F.Const x) own = refl
  by_node t (Term-F.ConstSet s) own = refl
  by_node t (Term-F.Var v) own = absurd own
  by_node t (Term-F.Node op args place) own = refl

  pub id_at : (k : ℕ) (u : Term) → slice_get (distinct_subterms M) k ≡ Some u → IsNode (out-Term u) → StandsIn (distinct_subterms M) u → id_of M u ≡ cells_of M + k
  id_at k u at own h =
      let found = found_at (same_term u) (distinct_subterms M) h in
      let same : position_or_len (same_term u) (distinct_subterms M) ≡ k =
      once_apart (subterms_posted M M.posted.items) (position_or_len (same_term u) (distinct_subterms M)) k found.0 u found.1 at (same_term_equiv.symm found.0 u ∙ found.2) in
      by_node u (out-Term u) own ∙ ap (λ n. cells_of M + n) same

  -- ---- equal terms have equal inputs
  arguments_pass : (ts us : List Term) → all_pass (map same_term ts) us ≡ true → map (id_of M) ts ≡ map (id_of M) us
  arguments_pass [] [] h = refl
  arguments_pass [] (u ∷ us) h = let c : false ≡ true = h in cc
  arguments_pass (t ∷ ts) [] h = let c : false ≡ true = h in cc
  arguments_pass (t ∷ ts) (u ∷ us) h =
      let parts = and_parts (same_term t u) (all_pass (map same_term ts) us) h in
      ap (λ i. i ∷ map (id_of M) ts) (ids_alike (cells_of M) (distinct_subterms M) t u parts.0) ∙ ap (λ is. id_of M u ∷ is) (arguments_pass ts us parts.1)

  layers_alike : (y z : Term-F Term) → same_layer (map-Term Term (Term → Bool) same_term y) z ≡ true → map (id_of M) (arguments_of y) ≡ map (id_of M) (arguments_of z)
  layers_alike (Term-F.Const x) (Term-F.Const x') h = refl
  layers_alike (Term-F.Const x) (Term-F.ConstSet s) h = let c : false ≡ true = h in cc
  layers_alike (Term-F.Const x) (Term-F.Var v) h = let c : false ≡ true = h in cc
  layers_alike (Term-F.Const x) (Term-F.Node op args place) h = let c : false ≡ true = h in cc
  layers_alike (Term-F.ConstSet s) (Term-F.Const x) h = let c : false ≡ true = h in cc
  layers_alike (Term-F.ConstSet s) (Term-F.ConstSet s') h = refl
  layers_alike (Term-F.ConstSet s) (Term-F.Var v) h = let c : false ≡ true = h in cc
  layers_alike (Term-F.ConstSet s) (Term-F.Node op args place) h = let c : false ≡ true = h in cc
  layers_alike (Term-F.Var v) (Term-F.Const x) h = let c : false ≡ true = h in cc
  layers_alike (Term-F.Var v) (Term-F.ConstSet s) h = let c : false ≡ true = h in cc
  layers_alike (Term-F.Var v) (Term-F.Var v') h = refl
  layers_alike (Term-F.Var v) (Term-F.Node op args place) h = let c : false ≡ true = h in cc
  layers_alike (Term-F.Node op args place) (Term-F.Const x) h = let c : false ≡ true = h in cc
  layers_alike (Term-F.Node op args place) (Term-F.ConstSet s) h = let c : false ≡ true = h in cc
  layers_alike (Term-F.Node op args place) (Term-F.Var v) h = let c : false ≡ true = h in cc
  layers_alike (Term-F.Node op args place) (Term-F.Node op' args' place') h =
      arguments_pass args.items args'.items (and_parts (same_operation op' op) (all_pass (map same_term args.items) args'.items) h).1

  pub inputs_alike : (t u : Term) → same_term t u ≡ true → map (id_of M) (arguments_of (out-Term t)) ≡ map (id_of M) (arguments_of (out-Term u))
  inputs_alike t u same = layers_alike (out-Term t) (out-Term u) (sym (same_out t u) ∙ same)

-- ---- what holds of all variables of a term holds of those of each subterm
module _ (P : ℕ → Type 0) where
  abbrev pub OfVars : Term → Type 0
  OfVars t = All P (vars_of t)

  abbrev IsDeep : Term → Type 0
  IsDeep t = OfVars t → All OfVars (subterms t)

  abbrev Deep : Type 0
  Deep = (t : Term) × IsDeep t

  arguments_by : (y : Term-F Term) → OfVars (roll-Term y) → All OfVars (arguments_of y)
  arguments_by (Term-F.Const x) h = All-nil OfVars
  arguments_by (Term-F.ConstSet s) h = All-nil OfVars
  arguments_by (Term-F.Var v) h = All-nil OfVars
  arguments_by (Term-F.Node op args place) h = args_below P (roll-Term (Term-F.Node op args place)) op args place (rolls-Node op args place) h

  pub of_arguments : (t : Term) → OfVars t → All OfVars (arguments_of (out-Term t))
  of_arguments t h = arguments_by (out-Term t) (subst OfVars (sym (roll_out t)) h)

  pub of_variable : (t : Term) (v : VarId) → out-Term t ≡ Term-F.Var v → OfVars t → P v.index
  of_variable t v e h =
      let vars : vars_of t ≡ v.index ∷ [] = ap vars_of (sym (roll_out t) ∙ ap roll-Term e) ∙ fold-roll-Term (List ℕ) vars_step (Term-F.Var v) in
      All-head P v.index [] (subst (All P) vars h)

  below_all : (es : List Deep) → All OfVars (map (λ e. e.0) es) → All OfVars (joined_terms (map subterms (map (λ e. e.0) es)))
  below_all [] all = All-nil OfVars
  below_all (e ∷ es) all =
      All-append OfVars (subterms e.0) (joined_terms (map subterms (map (λ e. e.0) es))) (e.1 (All-head OfVars e.0 (map (λ e. e.0) es) all)) (below_all es (All-tail OfVars e.0 (map (λ e. e.0) es) all))

  one_more : (t : Term) (ts below : List Term) → ts ≡ below ++ t ∷ [] → OfVars t → All OfVars below → All OfVars ts
  one_more t ts below e own all = subst (All OfVars) (sym e) (All-append OfVars below (t ∷ []) all (All-cons OfVars t [] own (All-nil OfVars)))

  layer_deep : (y : Term-F Deep) → IsDeep (roll-Term (map-Term Deep Term (λ e. e.0) y))
  layer_deep (Term-F.Const x) h = let z = Term-F.Const x in one_more (roll-Term z) (subterms (roll-Term z)) [] (subterms_roll z) h (All-nil OfVars)
  layer_deep (Term-F.ConstSet s) h = let z = Term-F.ConstSet s in one_more (roll-Term z) (subterms (roll-Term z)) [] (subterms_roll z) h (All-nil OfVars)
  layer_deep (Term-F.Var v) h = subst (All OfVars) (sym (subterms_roll (Term-F.Var v))) (All-nil OfVars)
  layer_deep (Term-F.Node op args place) h =
      let z = map-Term Deep Term (λ e. e.0) (Term-F.Node op args place) in
      let ts = map (λ e. e.0) args.items in
      one_more (roll-Term z) (subterms (roll-Term z)) (joined_terms (map subterms ts)) (subterms_roll z) h (below_all args.items (arguments_by z h))

  pub of_subterms : (t : Term) → OfVars t → All OfVars (subterms t)
  of_subterms = ind-Term IsDeep (λ x y is. subst (λ z. IsDeep (roll-Term z)) is (layer_deep y))
