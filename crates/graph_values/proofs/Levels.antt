-- The ids of an acyclic model's graph lie in layers: a variable's is above those of all that its definition's term
-- names, and a subterm's above those of its arguments.
use Rattle.std.proofs.Common.{◌≡◌, ℕ, suc, ◌+◌, ◌-◌, ◌*◌, ◌<◌, ◌≤◌, Bool, true, false, cond, nat_lt, List, [], ◌∷◌, map, Option, Some, None, refl, sym, ap, ◌∙◌, subst, slice_get, All, Contains, inl, inr, arith}
use Rattle.std.specs.Option.{option_and_then, option_map}
use Rattle.std.specs.List.{list_all}
use Rattle.std.proofs.lemmas.Bool.{and_parts, cases_lt}
use Rattle.std.proofs.lemmas.Bool.Decides.{nat_tests}
use Rattle.std.proofs.lemmas.Option.{slice_get_within}
use Rattle.std.proofs.lemmas.List.Elements.{All-head, All-tail, All-nil, All-cons, Contains-append_left, Contains-append_right, Contains-push}
use Rattle.cbl_base.specs.NumberRule.{NumberRule}
use Rattle.cbl_base.specs.declared.limits.TheConstants.{MAX_TERM_DEPTH}
use Rattle.store_build.proofs.GatherLemmas.{past_first, before_first}
use Rattle.store_turns.specs.Meaning.{AreLayers, Each}
use Rattle.term_count.specs.Codes.{is_known}
use Rattle.term_model.specs.Definitions.{IsAcyclic, definition_of, joined, named_by, term_of, vars_named, vars_of, vars_step}
use Rattle.term_model.specs.Depth.{depth_of, depth_step, greatest}
use Rattle.term_model.specs.Kinds.{kinds_in}
use Rattle.term_model.specs.SameOperations.{same_operation}
use Rattle.term_model.specs.SameTerms.{all_pass, same_layer, same_term}
use Rattle.term_model.specs.Subterms.{arguments_of, distinct_subterms}
use Rattle.term_model.specs.Wellformed.{IsWellFormed}
use Rattle.term_model.specs.declared.model.Definition.{Definition}
use Rattle.term_model.specs.declared.model.Model.{Model}
use Rattle.term_model.specs.declared.term.Term.{Term}
use Rattle.term_model.specs.declared.term.Term.TheOpen.{Term-F}
use Rattle.term_model.specs.declared.term.Term.TheViews.{out-Term, roll-Term}
use Rattle.term_model.specs.declared.term.Term.TheFolds.{fold-Term, fold-roll-Term, ind-Term, map-Term}
use Rattle.term_model.proofs.EqualTerms.{eq_of, roll_out}
use Rattle.term_model.proofs.SameLaws.{same_roll}
use Rattle.term_model.proofs.VarLaws.{definition_found, definition_kinded}
use Rattle.graph_values.specs.Graphs.{count_of, id_of, inputs_of_cell, inputs_of_node, model_graph, term_at, term_defined}
use Rattle.graph_values.specs.Members.{cells_of, variables_of}
use Rattle.graph_values.proofs.Arguments.{arguments_there, definition_there}
use Rattle.graph_values.proofs.KindedTerms.{HasKind, arguments_kinded, subterm_kinded}
use Rattle.graph_values.proofs.TermIds.{at_id}
use Rattle.graph_values.proofs.WeightCells.{no_definition}

abbrev Test : Type 0
Test = Term → Bool

-- ---- how high a term stands over its variables
module _ (level : ℕ → ℕ) where
  abbrev height_step : Term-F ℕ → ℕ
  height_step (Term-F.Const x) = 1
  height_step (Term-F.ConstSet s) = 1
  height_step (Term-F.Var v) = level v.index
  height_step (Term-F.Node op args place) = suc (greatest args.items)

  abbrev pub height : Term → ℕ
  height = fold-Term ℕ height_step

  height_layer : (t : Term) (y : Term-F Term) → out-Term t ≡ y → height t ≡ height_step (map-Term Term ℕ height y)
  height_layer t y e = ap height (sym (roll_out t) ∙ ap roll-Term e) ∙ fold-roll-Term ℕ height_step y

  -- ---- equal terms stand as high
  abbrev IsAlike : Term → Type 0
  IsAlike t = (u : Term) → same_term t u ≡ true → height t ≡ height u

  abbrev Known : Type 0
  Known = (t : Term) × IsAlike t

  abbrev terms_of : List Known → List Term
  terms_of es = map (λ e. e.0) es

  arguments_alike : (es : List Known) (us : List Term) → all_pass (map same_term (terms_of es)) us ≡ true → map height (terms_of es) ≡ map height us
  arguments_alike [] [] h = refl
  arguments_alike [] (u ∷ us) h = let c : false ≡ true = h in cc
  arguments_alike (e ∷ es) [] h = let c : false ≡ true = h in cc
  arguments_alike (e ∷ es) (u ∷ us) h =
      let parts = and_parts (same_term e.0 u) (all_pass (map same_term (terms_of es)) us) h in
      ap (λ n. n ∷ map height (terms_of es)) (e.1 u parts.0) ∙ ap (λ ns. height u ∷ ns) (arguments_alike es us parts.1)

  abbrev step : Term-F Term → ℕ
  step y = height_step (map-Term Term ℕ height y)

  layer_alike : (y : Term-F Known) (z : Term-F Term) → same_layer (map-Term Term Test same_term (map-Term Known Term (λ e. e.0) y)) z ≡ true → step (map-Term Known Term (λ e. e.0) y) ≡ step z
  layer_alike (Term-F.Const x) (Term-F.Const x') h = refl
  layer_alike (Term-F.Const x) (Term-F.ConstSet s) h = refl
  layer_alike (Term-F.Const x) (Term-F.Var v) h = let c : false ≡ true = h in cc
  layer_alike (Term-F.Const x) (Term-F.Node op args place) h = let c : false ≡ true = h in cc
  layer_alike (Term-F.ConstSet s) (Term-F.Const x) h = refl
  layer_alike (Term-F.ConstSet s) (Term-F.ConstSet s') h = refl
  layer_alike (Term-F.ConstSet s) (Term-F.Var v) h = let c : false ≡ true = h in cc
  layer_alike (Term-F.ConstSet s) (Term-F.Node op args place) h = let c : false ≡ true = h in cc
  layer_alike (Term-F.Var v) (Term-F.Const x) h = let c : false ≡ true = h in cc
  layer_alike (Term-F.Var v) (Term-F.ConstSet s) h = let c : false ≡ true = h in cc
  layer_alike (Term-F.Var v) (Term-F.Var v') h = ap level (sym (eq_of v'.index v.index h))
  layer_alike (Term-F.Var v) (Term-F.Node op args place) h = let c : false ≡ true = h in cc
  layer_alike (Term-F.Node op args place) (Term-F.Const x) h = let c : false ≡ true = h in cc
  layer_alike (Term-F.Node op args place) (Term-F.ConstSet s) h = let c : false ≡ true = h in cc
  layer_alike (Term-F.Node op args place) (Term-F.Var v) h = let c : false ≡ true = h in cc
  layer_alike (Term-F.Node op args place) (Term-F.Node op' args' place') h =
      ap (λ ns. suc (greatest ns)) (arguments_alike args.items args'.items (and_parts (same_operation op' op) (all_pass (map same_term (terms_of args.items)) args'.items) h).1)

  rolled_alike : (z : Term-F Term) → ((u : Term-F Term) → same_layer (map-Term Term Test same_term z) u ≡ true → step z ≡ step u) → IsAlike (roll-Term z)
  rolled_alike z h u same = fold-roll-Term ℕ height_step z ∙ h (out-Term u) (sym (same_roll z u) ∙ same) ∙ sym (height_layer u (out-Term u) refl)

  pub heights_alike : (t : Term) → IsAlike t
  heights_alike = ind-Term IsAlike (λ x y is. subst (λ z. IsAlike (roll-Term z)) is (rolled_alike (map-Term Known Term (λ e. e.0) y) (layer_alike y)))

  -- ---- each argument stands lower
  below_greatest : (ts : List Term) (h : ℕ) → greatest (map height ts) < h → All (λ u. height u < h) ts
  below_greatest [] h lt = λ i d out. absurd (omega (arith, out))
  below_greatest (t ∷ ts) h lt = All-cons (λ u. height u < h) t ts (omega (arith, lt)) (below_greatest ts h (omega (arith, lt)))

  arguments_lower : (t : Term) (y : Term-F Term) → out-Term t ≡ y → All (λ u. height u < height t) (arguments_of y)
  arguments_lower t (Term-F.Const x) e = All-nil (λ u. height u < height t)
  arguments_lower t (Term-F.ConstSet s) e = All-nil (λ u. height u < height t)
  arguments_lower t (Term-F.Var v) e = All-nil (λ u. height u < height t)
  arguments_lower t (Term-F.Node op args place) e =
      let whole : height t ≡ suc (greatest (map height args.items)) = height_layer t (Term-F.Node op args place) e in
      below_greatest args.items (height t) (omega (arith, whole))

  -- ---- over low variables a term stands no higher than its depth
  abbrev IsLow : ℕ → Term → Type 0
  IsLow r t = ((d : ℕ) → Contains (vars_of t) d → level d ≤ r) → height t ≤ r + suc (depth_of t)

  abbrev Low : ℕ → Type 0
  Low r = (t : Term) × IsLow r t

  arguments_low : (r : ℕ) (es : List (Low r)) → ((d : ℕ) → Contains (joined (map vars_of (map (λ e. e.0) es))) d → level d ≤ r) →
      greatest (map height (map (λ e. e.0) es)) ≤ r + suc (greatest (map depth_of (map (λ e. e.0) es)))
  arguments_low r [] low = omega arith
  arguments_low r (e ∷ es) low =
      let rest = map (λ (f : Low r). f.0) es in
      let one : height e.0 ≤ r + suc (depth_of e.0) = e.1 (λ d h. low d (Contains-append_left (vars_of e.0) (joined (map vars_of rest)) d h)) in
      let others = arguments_low r es (λ d h. low d (Contains-append_right (vars_of e.0) (joined (map vars_of rest)) d h)) in
      omega (arith, one, others)

  layer_low : (r : ℕ) (y : Term-F (Low r)) → IsLow r (roll-Term (map-Term (Low r) Term (λ e. e.0) y))
  layer_low r (Term-F.Const x) low = let own = fold-roll-Term ℕ height_step (Term-F.Const x) in omega (arith, own)
  layer_low r (Term-F.ConstSet s) low = let own = fold-roll-Term ℕ height_step (Term-F.ConstSet s) in omega (arith, own)
  layer_low r (Term-F.Var v) low =
      let vars : vars_of (roll-Term (Term-F.Var v)) ≡ v.index ∷ [] = fold-roll-Term (List ℕ) vars_step (Term-F.Var v) in
      let one = low v.index (subst (λ vs. Contains vs v.index) (sym vars) (Contains-push [] v.index)) in
      let own : height (roll-Term (Term-F.Var v)) ≡ level v.index = fold-roll-Term ℕ height_step (Term-F.Var v) in
      omega (arith, own, one)
  layer_low r (Term-F.Node op args place) low =
      let z = map-Term (Low r) Term (λ e. e.0) (Term-F.Node op args place) in
      let ts = map (λ (e : Low r). e.0) args.items in
      let vars : vars_of (roll-Term z) ≡ joined (map vars_of ts) = fold-roll-Term (List ℕ) vars_step z in
      let own : height (roll-Term z) ≡ suc (greatest (map height ts)) = fold-roll-Term ℕ height_step z in
      let deep : depth_of (roll-Term z) ≡ suc (greatest (map depth_of ts)) = fold-roll-Term ℕ depth_step z in
      let below = arguments_low r args.items (λ d h. low d (subst (λ vs. Contains vs d) (sym vars) h)) in
      omega (arith, own, deep, below)

  pub low_height : (r : ℕ) (t : Term) → IsLow r t
  low_height r = ind-Term (IsLow r) (λ x y is. subst (λ z. IsLow r (roll-Term z)) is (layer_low r y))

-- ---- the layers
-- so many layers are between two variables
abbrev pub level_of : (M : Model) → IsAcyclic M → ℕ → ℕ
level_of M acyclic i = (MAX_TERM_DEPTH + 2) * suc (acyclic.rank i)

-- a weight lies lowest
abbrev pub level_of_cell : (M : Model) → IsAcyclic M → ℕ → ℕ
level_of_cell M acyclic i = cond (nat_lt i (variables_of M)) (level_of M acyclic i) 0

abbrev pub height_where : (ℕ → ℕ) → Option Term → ℕ
height_where level (Some t) = height level t
height_where level None = 0

abbrev pub layer_by : (M : Model) → IsAcyclic M → ℕ → ℕ
layer_by M acyclic id = cond (nat_lt id (cells_of M)) (level_of_cell M acyclic id) (height_where (level_of M acyclic) (term_at M id))

lt_from : (i n : ℕ) → nat_lt i n ≡ true → i < n
lt_from i n e = grind (arith, nat_tests)

each_of : (P : ℕ → Type 0) (f : Term → ℕ) (ts : List Term) → All (λ t. P (f t)) ts → Each P (map f ts)
each_of P f [] all = tt
each_of P f (t ∷ ts) all = (All-head (λ u. P (f u)) t ts all, each_of P f ts (All-tail (λ u. P (f u)) t ts all))

module _ (users : ℕ → NumberRule) (M : Model) (formed : IsWellFormed M) (acyclic : IsAcyclic M) where
  abbrev level : ℕ → ℕ
  level = level_of M acyclic

  abbrev size : ℕ
  size = count_of M

  abbrev cell_level : ℕ → ℕ
  cell_level = level_of_cell M acyclic

  layer_of_cell : (i : ℕ) → i < cells_of M → layer_by M acyclic i ≡ cell_level i
  layer_of_cell i lt = ap (λ b. cond b (cell_level i) (height_where level (term_at M i))) (before_first i (cells_of M) lt)

  layer_of_var : (i : ℕ) → i < variables_of M → layer_by M acyclic i ≡ level i
  layer_of_var i lt = layer_of_cell i (omega (arith, lt)) ∙ ap (λ b. cond b (level i) 0) (before_first i (variables_of M) lt)

  pub layer_of_weight : (i : ℕ) → variables_of M ≤ i → i < cells_of M → layer_by M acyclic i ≡ 0
  layer_of_weight i le lt = layer_of_cell i lt ∙ ap (λ b. cond b (level i) 0) (past_first i (variables_of M) le)

  layer_of_node : (id : ℕ) → cells_of M ≤ id → layer_by M acyclic id ≡ height_where level (term_at M id)
  layer_of_node id le = ap (λ b. cond b (cell_level id) (height_where level (term_at M id))) (past_first id (cells_of M) le)

  no_less : (k n : ℕ) → (n + k) - n ≡ k
  no_less k n = omega arith

  at_place : (k : ℕ) (u : Term) → slice_get (distinct_subterms M) k ≡ Some u → layer_by M acyclic (cells_of M + k) ≡ height level u
  at_place k u e =
      layer_of_node (cells_of M + k) (omega arith) ∙ ap (λ i. height_where level (slice_get (distinct_subterms M) i)) (no_less k (cells_of M)) ∙ ap (height_where level) e

  -- a term's id lies as high as the term stands, and is there
  pub id_layer : (t : Term) → is_known (distinct_subterms M) t ≡ true → HasKind M t → layer_by M acyclic (id_of M t) ≡ height level t
  id_layer = at_id M (layer_by M acyclic) (height level) (heights_alike level) (λ t v e lt. layer_of_var v.index lt ∙ sym (height_layer level t (Term-F.Var v) e)) at_place

  pub id_there : (t : Term) → is_known (distinct_subterms M) t ≡ true → HasKind M t → id_of M t < size
  id_there t known kinded =
      lt_from (id_of M t) size
      (at_id M (λ id. nat_lt id size) (λ (u : Term). true) (λ u v same. refl) (λ u v e lt. before_first v.index size (omega (arith, lt))) (λ k u e. (let there = slice_get_within (distinct_subterms M) k u e in before_first (cells_of M + k) size (omega (arith, there)))) t known kinded)

  abbrev IsBelow : ℕ → ℕ → Type 0
  IsBelow h i = (i < size) × (layer_by M acyclic i < h)

  arguments_below : (h : ℕ) (ts : List Term) → list_all (is_known (distinct_subterms M)) ts ≡ true → All (HasKind M) ts → All (λ u. height level u < h) ts → Each (IsBelow h) (map (id_of M) ts)
  arguments_below h [] known kinded low = tt
  arguments_below h (t ∷ ts) known kinded low =
      let parts = and_parts (is_known (distinct_subterms M) t) (list_all (is_known (distinct_subterms M)) ts) known in
      let kind = All-head (HasKind M) t ts kinded in
      let one : height level t < h = All-head (λ u. height level u < h) t ts low in
      let layer = id_layer t parts.0 kind in
      ((id_there t parts.0 kind, omega (arith, one, layer)), arguments_below h ts parts.1 (All-tail (HasKind M) t ts kinded) (All-tail (λ u. height level u < h) t ts low))

  node_above : (id : ℕ) → cells_of M ≤ id → (t : Option Term) → term_at M id ≡ t → Each (IsBelow (height_where level t)) (inputs_of_node M t)
  node_above id le None e = tt
  node_above id le (Some t) e =
      let there = arguments_there M (id - cells_of M) t e in
      arguments_below (height level t) (arguments_of (out-Term t)) there.1 (arguments_kinded (kinds_in M.vars.items) t (subterm_kinded M formed (id - cells_of M) t e)) (arguments_lower level t (out-Term t) refl)

  -- a defined variable lies above its term
  below_defined : (r s : ℕ) → r < s → (MAX_TERM_DEPTH + 2) * suc r ≤ (MAX_TERM_DEPTH + 2) * s
  below_defined r s lt = omega (arith, lt)

  next_level : (h depth r : ℕ) → h ≤ (MAX_TERM_DEPTH + 2) * r + suc depth → depth ≤ MAX_TERM_DEPTH → h < (MAX_TERM_DEPTH + 2) * suc r
  next_level h depth r a b = omega (arith, a, b)

  cell_above : (i : ℕ) → i < variables_of M → (entry : Option ℕ) → definition_of M i ≡ entry → Each (IsBelow (level i)) (inputs_of_cell M (option_and_then (term_of M.defs.items) entry))
  cell_above i lt None e = tt
  cell_above i lt (Some d) e =
      let found = definition_found M i d e in
      let t = found.0.term in
      let there : term_of M.defs.items d ≡ Some t = ap (option_map (λ (def : Definition). def.term)) found.1 in
      let names : named_by M.defs.items (definition_of M i) ≡ vars_of t = ap (named_by M.defs.items) e ∙ ap vars_named there in
      let low = low_height level ((MAX_TERM_DEPTH + 2) * acyclic.rank i) t (λ d' h. below_defined (acyclic.rank d') (acyclic.rank i) (acyclic.falls i d' (subst (λ vs. Contains vs d') (sym names) h))) in
      let known = definition_there M i d t e there in
      let kinded : HasKind M t = definition_kinded M formed i lt d found.0 e found.1 in
      let layer = id_layer t known kinded in
      let high : height level t < level i = next_level (height level t) (depth_of t) (acyclic.rank i) low (formed.defs d found.0 found.1).depth in
      subst (λ u. Each (IsBelow (level i)) (inputs_of_cell M u)) (sym there) ((id_there t known kinded, omega (arith, layer, high)), tt)

  any_cell_above : (i : ℕ) → i < cells_of M → Each (IsBelow (cell_level i)) (inputs_of_cell M (term_defined M i))
  any_cell_above i lt = elim (cases_lt i (variables_of M)) [
    | inl var ↦ subst (λ h. Each (IsBelow h) (inputs_of_cell M (term_defined M i))) (sym (ap (λ b. cond b (level i) 0) (before_first i (variables_of M) var))) (cell_above i var (definition_of M i) refl)
    | inr weight ↦ subst (λ d. Each (IsBelow (cell_level i)) (inputs_of_cell M (option_and_then (term_of M.defs.items) d))) (sym (no_definition M formed i (omega (arith, weight)))) tt
  ]

  pub are_layers : AreLayers (model_graph users M) (layer_by M acyclic)
  are_layers id lt = elim (cases_lt id (cells_of M)) [
    | inl low ↦
        subst (λ b. Each (λ i. (i < size) × (layer_by M acyclic i < cond b (cell_level id) (height_where level (term_at M id)))) (cond b (inputs_of_cell M (term_defined M id)) (inputs_of_node M (term_at M id))))
        (sym (before_first id (cells_of M) low)) (any_cell_above id low)
    | inr high ↦
        subst (λ b. Each (λ i. (i < size) × (layer_by M acyclic i < cond b (cell_level id) (height_where level (term_at M id)))) (cond b (inputs_of_cell M (term_defined M id)) (inputs_of_node M (term_at M id))))
        (sym (past_first id (cells_of M) (omega (arith, high)))) (node_above id (omega (arith, high)) (term_at M id) refl)
  ]
