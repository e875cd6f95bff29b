-- The ids of an acyclic model's graph with its totals lie in layers, so there is a meaning.
use Rattle.std.proofs.Common.{◌≡◌, ℕ, zero, suc, ◌+◌, ◌-◌, ◌*◌, ◌<◌, ◌≤◌, List, [], ◌∷◌, ◌++◌, map, IsSome, length, sym, ◌∙◌, subst, All, inl, inr, arith}
use Rattle.std.specs.List.{range_with_len}
use Rattle.std.proofs.lemmas.Bool.{cases_lt}
use Rattle.std.proofs.lemmas.List.Elements.{All-contains, All-head, All-tail}
use Rattle.cbl_base.specs.NumberRule.{NumberRule}
use Rattle.cbl_base.specs.declared.limits.TheConstants.{MAX_TERM_DEPTH}
use Rattle.model_values.specs.Wholes.{IsOf}
use Rattle.model_values.specs.declared.wholes.Whole.{Whole}
use Rattle.model_values.specs.declared.wholes.Whole.TheVariants.{System, Objective}
use Rattle.store_turns.specs.Meaning.{AreLayers, Each}
use Rattle.store_turns.proofs.Unique.{each_from}
use Rattle.term_model.specs.Definitions.{IsAcyclic, vars_of}
use Rattle.term_model.specs.Kinds.{kinds_in}
use Rattle.term_model.specs.Wellformed.{IsMember, IsWellFormed}
use Rattle.term_model.specs.declared.model.Member.{Member}
use Rattle.term_model.specs.declared.model.Model.{Model}
use Rattle.term_model.specs.declared.posting.Side.TheVariants.{Systems, Objectives}
use Rattle.term_model.proofs.Rounds.{names_kinded, some_within}
use Rattle.graph_values.specs.Graphs.{count_of, id_of, inputs_of}
use Rattle.graph_values.specs.Totals.{weight_ids}
use Rattle.graph_values.specs.WholeGraphs.{by_range, first_objective, first_repeat, first_system, inputs_in_whole, inputs_of_total, total_id, whole_graph}
use Rattle.graph_values.specs.Members.{members_before, members_of, variables_of}
use Rattle.graph_values.proofs.Levels.{are_layers, id_layer, id_there, layer_by, layer_of_weight, level_of, low_height}
use Rattle.graph_values.proofs.ModelTotals.{IsUsual, members_usual}
use Rattle.graph_values.proofs.TakenInputs.{members_are}
use Rattle.graph_values.proofs.Wholes.{in_objectives, in_repeats, in_systems, in_terms, in_weights}
use Rattle.graph_values.proofs.WeightCells.{weight_within, within}

each_both : (P : ℕ → Type 0) (is js : List ℕ) → Each P is → Each P js → Each P (is ++ js)
each_both P [] js a b = b
each_both P (i ∷ is) js a b = (a.0, each_both P is js a.1 b)

range_between : (P : ℕ → Type 0) (n len : ℕ) → ((i : ℕ) → n ≤ i → i < n + len → P i) → Each P (range_with_len n len)
range_between P n zero each = tt
range_between P n (suc len) each = (each n (omega arith) (omega arith), range_between P (n + 1) len (λ i low high. each i (omega (arith, low)) (omega (arith, high))))

module _ (users : ℕ → NumberRule) (M : Model) (formed : IsWellFormed M) (acyclic : IsAcyclic M) where
  -- above all members
  abbrev top : ℕ
  top = (MAX_TERM_DEPTH + 2) * length M.vars.items + MAX_TERM_DEPTH + 2

  abbrev pub layer_in : ℕ → ℕ
  layer_in id = by_range M id (layer_by M acyclic id) 0 top top (suc top)

  abbrev size : ℕ
  size = (whole_graph users M).size

  abbrev IsUnder : ℕ → ℕ → Type 0
  IsUnder h i = (i < size) × (layer_in i < h)

  term_layer : (i : ℕ) → i < count_of M → layer_in i ≡ layer_by M acyclic i
  term_layer i lt = in_terms M i _ _ _ _ _ lt

  terms_under : (h : ℕ) (is : List ℕ) → Each (λ i. (i < count_of M) × (layer_by M acyclic i < h)) is → Each (IsUnder h) is
  terms_under h is each =
      each_from (λ i. (i < count_of M) × (layer_by M acyclic i < h)) (IsUnder h) is (λ i e. (let low = e.0 in let lower = e.1 in let same = term_layer i low in (omega (arith, low), omega (arith, lower, same)))) each

  level_bound : (r s : ℕ) → r < s → (MAX_TERM_DEPTH + 2) * suc r ≤ (MAX_TERM_DEPTH + 2) * s
  level_bound r s lt = omega (arith, lt)

  member_under : (m : Member) → IsUsual M m → IsMember M m → IsUnder top (id_of M m.term)
  member_under m usual is =
      let there = id_there users M formed acyclic m.term usual.0 usual.1 in
      let named = names_kinded (kinds_in M.vars.items) m.term usual.1 in
      let low = low_height (level_of M acyclic) ((MAX_TERM_DEPTH + 2) * length M.vars.items) m.term
      (λ d h. level_bound (acyclic.rank d) (length M.vars.items) (acyclic.within d (some_within M.vars.items d (All-contains (λ i. IsSome (kinds_in M.vars.items i)) (vars_of m.term) d named h)))) in
      let deep = is.depth in
      let layer = id_layer users M formed acyclic m.term usual.0 usual.1 in
      let same = term_layer (id_of M m.term) there in
      (omega (arith, there), omega (arith, low, deep, layer, same))

  members_under : (ms : List Member) → All (IsUsual M) ms → All (IsMember M) ms → Each (IsUnder top) (map (λ m. id_of M m.term) ms)
  members_under [] all are = tt
  members_under (m ∷ ms) all are = (member_under m (All-head (IsUsual M) m ms all) (All-head (IsMember M) m ms are), members_under ms (All-tail (IsUsual M) m ms all) (All-tail (IsMember M) m ms are))

  -- a system's weights are cells, an objective's are constants behind the subterms
  weights_under : (whole : Whole) → IsOf M whole → Each (IsUnder top) (weight_ids M whole)
  weights_under (System s) there =
      range_between (IsUnder top) (variables_of M + length (members_before M Systems s)) (length (members_of M (System s)))
      (λ i low high. (let own = weight_within M s i low high in
      let lt = own.1 in
      let layer : layer_in i ≡ 0 = term_layer i (omega (arith, lt)) ∙ layer_of_weight users M formed acyclic i own.0 own.1 in (omega (arith, lt), omega (arith, layer))))
  weights_under (Objective o) there =
      range_between (IsUnder top) (count_of M + length (members_before M Objectives o)) (length (members_of M (Objective o)))
      (λ i low high. (let all = within M Objectives o (length M.objectives.items) there in
      let lt : i < first_system M = omega (arith, high, all) in
      let layer : layer_in i ≡ 0 = in_weights M i _ _ _ _ _ (omega (arith, low)) lt in (omega (arith, lt), omega (arith, layer))))

  total_under : (whole : Whole) → IsOf M whole → Each (IsUnder top) (inputs_of_total M whole)
  total_under whole there =
      each_both (IsUnder top) (map (λ m. id_of M m.term) (members_of M whole)) (weight_ids M whole)
      (members_under (members_of M whole) (members_usual M formed whole) (members_are M formed whole)) (weights_under whole there)

  -- an id's inputs, where its range is known
  at_layer : (id h : ℕ) (is : List ℕ) → inputs_in_whole M id ≡ is → layer_in id ≡ h → Each (IsUnder h) is → Each (IsUnder (layer_in id)) (inputs_in_whole M id)
  at_layer id h is e l each = subst (λ js. Each (IsUnder (layer_in id)) js) (sym e) (subst (λ k. Each (IsUnder k) is) (sym l) each)

  repeat_under : (k : ℕ) → k < length M.objectives.items → Each (IsUnder (suc top)) (total_id M (Objective k) ∷ [])
  repeat_under k lt =
      let layer : layer_in (first_objective M + k) ≡ top = in_objectives M (first_objective M + k) _ _ _ _ _ (omega arith) (omega (arith, lt)) in
      ((omega (arith, lt), omega (arith, layer)), tt)

  pub whole_layers : AreLayers (whole_graph users M) layer_in
  whole_layers id lt = elim (cases_lt id (count_of M)) [
    | inl low ↦ at_layer id (layer_by M acyclic id) (inputs_of M id) (in_terms M id _ _ _ _ _ low) (term_layer id low) (terms_under (layer_by M acyclic id) (inputs_of M id) (are_layers users M formed acyclic id low))
    | inr behind ↦
        elim (cases_lt id (first_system M)) [
          | inl weight ↦ at_layer id 0 [] (in_weights M id _ _ _ _ _ (omega (arith, behind)) weight) (in_weights M id _ _ _ _ _ (omega (arith, behind)) weight) tt
          | inr past ↦
              elim (cases_lt id (first_objective M)) [
                | inl system ↦
                    at_layer id top (inputs_of_total M (System (id - first_system M))) (in_systems M id _ _ _ _ _ (omega (arith, past)) system) (in_systems M id _ _ _ _ _ (omega (arith, past)) system) (total_under (System (id - first_system M)) (omega (arith, past, system)))
                | inr further ↦
                    elim (cases_lt id (first_repeat M)) [
                      | inl objective ↦
                          at_layer id top (inputs_of_total M (Objective (id - first_objective M))) (in_objectives M id _ _ _ _ _ (omega (arith, further)) objective) (in_objectives M id _ _ _ _ _ (omega (arith, further)) objective) (total_under (Objective (id - first_objective M)) (omega (arith, further, objective)))
                      | inr last ↦
                          at_layer id (suc top) (total_id M (Objective (id - first_repeat M)) ∷ []) (in_repeats M id _ _ _ _ _ (omega (arith, last))) (in_repeats M id _ _ _ _ _ (omega (arith, last))) (repeat_under (id - first_repeat M) (omega (arith, last, lt)))
                    ]
              ]
        ]
  ]
