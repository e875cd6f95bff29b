-- The graph of a model with its totals holds the model.
use Rattle.std.proofs.Common.{◌≡◌, ℕ, pos, suc, ◌+◌, ◌-◌, ◌<◌, ◌≤◌, ◌⊎◌, inl, inr, false, cond, nat_lt, ◌&&◌, List, [], ◌∷◌, ◌++◌, map, Some, length, refl, sym, ap, ◌∙◌, subst, slice_get, Ok, Err, arith}
use Rattle.std.specs.Prelude.{unwrap_or}
use Rattle.std.specs.Option.{option_map}
use Rattle.std.specs.List.{range_with_len}
use Rattle.std.proofs.lemmas.Bool.{cases_lt}
use Rattle.std.proofs.lemmas.List.{append_assoc, length-append}
use Rattle.cbl_base.specs.NumberRule.{NumberRule}
use Rattle.cbl_base.specs.declared.faults.RunFault.{RunFault}
use Rattle.cbl_base.specs.declared.input.Input.{Input}
use Rattle.cbl_base.specs.declared.input.Input.TheVariants.{Int}
use Rattle.cbl_violations.specs.Violations.Repeat.{repeat}
use Rattle.model_values.specs.Wholes.{IsOf}
use Rattle.model_values.specs.declared.wholes.Whole.{Whole}
use Rattle.model_values.specs.declared.wholes.Whole.TheVariants.{System, Objective}
use Rattle.store_build.proofs.GatherLemmas.{past_first, before_first}
use Rattle.store_turns.specs.Meaning.{Graph, is_empty}
use Rattle.term_model.specs.declared.model.Member.{Member}
use Rattle.term_model.specs.declared.model.Model.{Model}
use Rattle.term_model.specs.declared.posting.Side.TheVariants.{Objectives}
use Rattle.graph_values.specs.Graphs.{count_of}
use Rattle.graph_values.specs.Totals.{AreConstants, AreWeights, HoldsModel, IsConstant, IsRepeat, IsTotal, NeverFails, Precedes, weight_ids}
use Rattle.graph_values.specs.WholeGraphs.{by_range, first_objective, first_repeat, first_system, inputs_in_whole, inputs_of_total, total_id, value_of_total, weight_at, whole_graph}
use Rattle.graph_values.specs.Members.{cells_of, members_before, members_by, members_of}
use Rattle.graph_values.proofs.WeightCells.{split}

-- ---- ranges
module _ {X : Type 0} (M : Model) (id : ℕ) (t w s o r : X) where
  pub in_terms : id < count_of M → by_range M id t w s o r ≡ t
  in_terms lt = ap (λ b. cond b t (cond (nat_lt id (first_system M)) w (cond (nat_lt id (first_objective M)) s (cond (nat_lt id (first_repeat M)) o r)))) (before_first id (count_of M) lt)

  past_terms : count_of M ≤ id → by_range M id t w s o r ≡ cond (nat_lt id (first_system M)) w (cond (nat_lt id (first_objective M)) s (cond (nat_lt id (first_repeat M)) o r))
  past_terms le = ap (λ b. cond b t (cond (nat_lt id (first_system M)) w (cond (nat_lt id (first_objective M)) s (cond (nat_lt id (first_repeat M)) o r)))) (past_first id (count_of M) le)

  pub in_weights : count_of M ≤ id → id < first_system M → by_range M id t w s o r ≡ w
  in_weights le lt = past_terms le ∙ ap (λ b. cond b w (cond (nat_lt id (first_objective M)) s (cond (nat_lt id (first_repeat M)) o r))) (before_first id (first_system M) lt)

  past_weights : first_system M ≤ id → by_range M id t w s o r ≡ cond (nat_lt id (first_objective M)) s (cond (nat_lt id (first_repeat M)) o r)
  past_weights le = past_terms (omega (arith, le)) ∙ ap (λ b. cond b w (cond (nat_lt id (first_objective M)) s (cond (nat_lt id (first_repeat M)) o r))) (past_first id (first_system M) le)

  pub in_systems : first_system M ≤ id → id < first_objective M → by_range M id t w s o r ≡ s
  in_systems le lt = past_weights le ∙ ap (λ b. cond b s (cond (nat_lt id (first_repeat M)) o r)) (before_first id (first_objective M) lt)

  past_systems : first_objective M ≤ id → by_range M id t w s o r ≡ cond (nat_lt id (first_repeat M)) o r
  past_systems le = past_weights (omega (arith, le)) ∙ ap (λ b. cond b s (cond (nat_lt id (first_repeat M)) o r)) (past_first id (first_objective M) le)

  pub in_objectives : first_objective M ≤ id → id < first_repeat M → by_range M id t w s o r ≡ o
  in_objectives le lt = past_systems le ∙ ap (λ b. cond b o r) (before_first id (first_repeat M) lt)

  pub in_repeats : first_repeat M ≤ id → by_range M id t w s o r ≡ r
  in_repeats le = past_systems (omega (arith, le)) ∙ ap (λ b. cond b o r) (past_first id (first_repeat M) le)

no_less : (k n : ℕ) → (n + k) - n ≡ k
no_less k n = omega arith

-- ---- the weights
at_end : {X : Type 0} (xs : List X) (x : X) (ys : List X) → slice_get (xs ++ x ∷ ys) (length xs) ≡ Some x
at_end [] x ys = refl
at_end (z ∷ xs) x ys = at_end xs x ys

module _ (users : ℕ → NumberRule) (M : Model) where
  abbrev g : Graph
  g = whole_graph users M

  bound_behind : (id : ℕ) → count_of M ≤ id → g.is_free id ≡ false
  bound_behind id le = ap (λ b. b && is_empty (inputs_in_whole M id)) (past_first id (cells_of M) (omega (arith, le)))

  weight_constant : (before : List Member) (m : Member) (after : List Member) → members_by M Objectives ≡ before ++ m ∷ after → IsConstant g (count_of M + length before) m.weight
  weight_constant before m after e =
      let id = count_of M + length before in
      let long : length (members_by M Objectives) ≡ length before + suc (length after) = ap length e ∙ length-append before (m ∷ after) in
      let le : count_of M ≤ id = omega arith in
      let lt : id < first_system M = omega (arith, long) in
      let size : id < g.size = omega (arith, lt) in
      let at : slice_get (members_by M Objectives) (id - count_of M) ≡ Some m =
      ap (slice_get (members_by M Objectives)) (no_less (length before) (count_of M)) ∙ ap (λ ms. slice_get ms (length before)) e ∙ at_end before m after in
      (size, bound_behind id le, in_weights M id _ _ _ _ _ le lt, in_weights M id _ _ _ _ _ le lt ∙ ap (λ q. Ok (Int (unwrap_or (option_map (λ (n : Member). n.weight) q) (pos 0)))) at)

  weights_constant : (before own after : List Member) → members_by M Objectives ≡ before ++ (own ++ after) → AreConstants g (range_with_len (count_of M + length before) (length own)) (map (λ m. m.weight) own)
  weights_constant before [] after e = tt
  weights_constant before (m ∷ own) after e =
      let next : count_of M + length (before ++ m ∷ []) ≡ count_of M + length before + 1 = (let long = length-append before (m ∷ []) in omega (arith, long)) in (
        weight_constant before m (own ++ after) e,
        subst (λ i. AreConstants g (range_with_len i (length own)) (map (λ (n : Member). n.weight) own)) next (weights_constant (before ++ m ∷ []) own after (e ∙ sym (append_assoc before (m ∷ []) (own ++ after)))),
      )

  all_weights : (whole : Whole) → IsOf M whole → AreWeights M g whole (weight_ids M whole)
  all_weights (System s) there = refl
  all_weights (Objective o) there =
      let own = split M Objectives o (length M.objectives.items) there in
      weights_constant (members_before M Objectives o) (members_of M (Objective o)) own.0 own.1

  -- ---- totals
  total_by : (whole : Whole) → IsOf M whole → (id : ℕ) → count_of M ≤ id → id < g.size → g.inputs id ≡ inputs_of_total M whole → ((xs : List Input) → g.op id xs ≡ value_of_total M whole xs) → IsTotal M g whole id
  total_by whole there id le lt inputs op = record {
    behind = le;
    within = lt;
    bound = bound_behind id le;
    weights = weight_ids M whole;
    weighed = all_weights whole there;
    inputs = inputs;
    op = op;
  }

  total_of : (whole : Whole) → IsOf M whole → IsTotal M g whole (total_id M whole)
  total_of (System s) there =
      let id = first_system M + s in
      let le : first_system M ≤ id = omega arith in
      let lt : id < first_objective M = omega (arith, there) in
      total_by (System s) there id (omega arith) (omega (arith, lt)) (in_systems M id _ _ _ _ _ le lt ∙ ap (λ k. inputs_of_total M (System k)) (no_less s (first_system M)))
      (λ xs. in_systems M id _ _ _ _ _ le lt ∙ ap (λ k. value_of_total M (System k) xs) (no_less s (first_system M)))
  total_of (Objective o) there =
      let id = first_objective M + o in
      let le : first_objective M ≤ id = omega arith in
      let lt : id < first_repeat M = omega (arith, there) in
      total_by (Objective o) there id (omega arith) (omega (arith, lt)) (in_objectives M id _ _ _ _ _ le lt ∙ ap (λ k. inputs_of_total M (Objective k)) (no_less o (first_objective M)))
      (λ xs. in_objectives M id _ _ _ _ _ le lt ∙ ap (λ k. value_of_total M (Objective k) xs) (no_less o (first_objective M)))

  in_order : (one other : Whole) → IsOf M one → IsOf M other → Precedes one other → total_id M one < total_id M other
  in_order (System s) (System t) a b lt = omega (arith, lt)
  in_order (System s) (Objective o) a b lt = omega (arith, a)
  in_order (Objective o) (System s) a b lt = absurd lt
  in_order (Objective o) (Objective p) a b lt = omega (arith, lt)

  -- ---- and all others never fail
  back : (n id : ℕ) → n ≤ id → id ≡ n + (id - n)
  back n id le = omega (arith, le)

  never_by : (id : ℕ) (value : List Input → Input) → ((xs : List Input) → g.op id xs ≡ Ok (value xs)) → NeverFails g id
  never_by id value is xs fault e = let c : Ok (value xs) ≡ Err fault = sym (is xs) ∙ e in cc

  other_ids : (id : ℕ) → count_of M ≤ id → id < g.size → ((whole : Whole) × IsOf M whole × (id ≡ total_id M whole)) ⊎ NeverFails g id
  other_ids id le lt = elim (cases_lt id (first_system M)) [
    | inl weight ↦ inr (never_by id (λ xs. Int (weight_at M (id - count_of M))) (λ xs. in_weights M id _ _ _ _ _ le weight))
    | inr past ↦
        elim (cases_lt id (first_objective M)) [
          | inl system ↦ inl (System (id - first_system M), omega (arith, past, system), back (first_system M) id (omega (arith, past)))
          | inr further ↦
              elim (cases_lt id (first_repeat M)) [
                | inl objective ↦ inl (Objective (id - first_objective M), omega (arith, further, objective), back (first_objective M) id (omega (arith, further)))
                | inr last ↦ inr (λ xs fault e. (let c : repeat.value xs ≡ Err fault = sym (in_repeats M id _ _ _ _ _ (omega (arith, last))) ∙ e in never_repeat xs fault c))
              ]
        ]
  ]
    where
      never_repeat : (xs : List Input) (fault : RunFault) → repeat.value xs ≡ Err fault → ⊥
      never_repeat xs fault e = cc

  pub whole_holds : HoldsModel users M g (total_id M)
  whole_holds = record {
    terms = record {
      size = omega arith;
      inputs = λ id lt. in_terms M id _ _ _ _ _ lt;
      free = λ id lt. ap (λ is. nat_lt id (cells_of M) && is_empty is) (in_terms M id _ _ _ _ _ lt);
      ops = λ id xs lt. in_terms M id _ _ _ _ _ lt;
    };
    totals = total_of;
    order = in_order;
    others = other_ids;
  }

  -- each objective has its repeat
  pub objective_repeats : (k : ℕ) → k < length M.objectives.items → IsRepeat g (first_repeat M + k) (total_id M (Objective k))
  objective_repeats k lt =
      let id = first_repeat M + k in
      let le : first_repeat M ≤ id = omega arith in
      (omega (arith, lt), bound_behind id (omega arith), in_repeats M id _ _ _ _ _ le ∙ ap (λ i. total_id M (Objective i) ∷ []) (no_less k (first_repeat M)), λ xs. in_repeats M id _ _ _ _ _ le)
