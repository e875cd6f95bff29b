-- What has the rules and the inputs of a model's nodes is the graph of the model with its totals, and what a store of
-- the model may be built of.
use Rattle.std.proofs.Common.{◌≡◌, ◌⊎◌, inl, inr, ℕ, pos, suc, ◌+◌, ◌-◌, ◌<◌, ◌≤◌, cond, nat_lt, ◌&&◌, IsTrue, List, [], ◌∷◌, ◌++◌, map, Option, Some, None, length, refl, sym, ap, ◌∙◌, subst, slice_get, Err, Vec, arith}
use Rattle.std.specs.Prelude.{unwrap_or}
use Rattle.std.specs.Option.{option_map}
use Rattle.std.specs.List.{range_with_len}
use Rattle.std.proofs.lemmas.Bool.{cases_lt}
use Rattle.std.proofs.lemmas.List.{append_assoc, length-append}
use Rattle.std.proofs.lemmas.Option.{slice_get_within}
use Rattle.cbl_base.specs.Inputs.{InputKind}
use Rattle.cbl_base.specs.NodeLaw.{Rule}
use Rattle.cbl_base.specs.NumberRule.{NumberRule}
use Rattle.cbl_base.specs.declared.faults.RunFault.{RunFault}
use Rattle.cbl_base.specs.declared.ids.NodeId.{NodeId}
use Rattle.cbl_base.specs.declared.input.Input.{Input}
use Rattle.cbl_base.specs.declared.input.Input.TheVariants.{Int}
use Rattle.cbl_violations.specs.Violations.Repeat.{repeat}
use Rattle.cbl_violations.specs.Violations.WeightedTotal.{weighted_total}
use Rattle.model_values.specs.Wholes.{IsOf}
use Rattle.model_values.specs.declared.wholes.Whole.{Whole}
use Rattle.model_values.specs.declared.wholes.Whole.TheVariants.{System, Objective}
use Rattle.node_kinds.specs.ConstantRule.{rule_of_constant}
use Rattle.store_build.specs.Aims.{graph_over}
use Rattle.store_build.specs.Lists.{list_in}
use Rattle.store_build.proofs.GatherLemmas.{before_first, past_first}
use Rattle.store_turns.specs.Meaning.{Graph, ids_of, is_empty, rule_value, the_one}
use Rattle.term_count.specs.Codes.{IsNode}
use Rattle.term_model.specs.Subterms.{distinct_subterms}
use Rattle.term_model.specs.declared.model.Member.{Member}
use Rattle.term_model.specs.declared.model.Model.{Model}
use Rattle.term_model.specs.declared.posting.Side.TheVariants.{Objectives}
use Rattle.term_model.specs.declared.term.Term.{Term}
use Rattle.term_model.specs.declared.term.Term.TheOpen.{Term-F}
use Rattle.term_model.specs.declared.term.Term.TheViews.{out-Term}
use Rattle.graph_values.specs.Graphs.{count_of, term_at, value_by, value_of_node}
use Rattle.graph_values.specs.Links.{AreLinks, AreModelLinks, AreNumbers, AreTakers, AreWeighed, IsNumber, IsOther, IsTotalLink}
use Rattle.graph_values.specs.Members.{cells_of, members_before, members_by, members_of}
use Rattle.graph_values.specs.Taken.{takes_by}
use Rattle.graph_values.specs.Totals.{weight_ids}
use Rattle.graph_values.specs.WholeGraphs.{first_objective, first_repeat, first_system, inputs_in_whole, inputs_of_total, total_id, weight_at, whole_graph}
use Rattle.graph_values.proofs.Arguments.{arguments_there}
use Rattle.graph_values.proofs.WeightCells.{split}
use Rattle.graph_values.proofs.Wholes.{in_objectives, in_repeats, in_systems, in_terms, in_weights, whole_holds}
use Rattle.store_laws.specs.ModelTouch.{IsWhole, many_nodes}
use Rattle.model_nodes.specs.WholeNodes.{AreWholeNodes, rule_by, rule_in_whole, rule_of_subterm, rule_of_total}

-- ---- the rule of a subterm
rule_there : (users : ℕ → NumberRule) (y : Term-F Term) → IsNode y → (rule : Rule) × (rule_by users y ≡ Some rule)
rule_there users (Term-F.Const x) own = (_, refl)
rule_there users (Term-F.ConstSet s) own = (_, refl)
rule_there users (Term-F.Var v) own = absurd own
rule_there users (Term-F.Node op args place) own = (_, refl)

rule_gives : (users : ℕ → NumberRule) (y : Term-F Term) (rule : Rule) (xs : List Input) → rule_by users y ≡ Some rule → rule.value xs ≡ value_by users y xs
rule_gives users (Term-F.Const x) rule xs e = ap (λ o. rule_value o xs) (sym e)
rule_gives users (Term-F.ConstSet s) rule xs e = ap (λ o. rule_value o xs) (sym e)
rule_gives users (Term-F.Var v) rule xs e = let c : None ≡ Some rule = e in cc
rule_gives users (Term-F.Node op args place) rule xs e = ap (λ o. rule_value o xs) (sym e)

same_rule : (r s : Rule) → ◌≡◌ {A = Option Rule} (Some r) (Some s) → r ≡ s
same_rule r s e = ap (λ o. unwrap_or o r) e

rule_takes : (users : ℕ → NumberRule) (y : Term-F Term) (rule : Rule) (kinds : List InputKind) → rule_by users y ≡ Some rule → IsTrue (takes_by users y kinds) → IsTrue (rule.takes kinds)
rule_takes users (Term-F.Const x) rule kinds e h = subst (λ (r : Rule). IsTrue (r.takes kinds)) (same_rule _ rule e) h
rule_takes users (Term-F.ConstSet s) rule kinds e h = subst (λ (r : Rule). IsTrue (r.takes kinds)) (same_rule _ rule e) h
rule_takes users (Term-F.Var v) rule kinds e h = let c : None ≡ Some rule = e in cc
rule_takes users (Term-F.Node op args place) rule kinds e h = subst (λ (r : Rule). IsTrue (r.takes kinds)) (same_rule _ rule e) h

at_end : {X : Type 0} (xs : List X) (x : X) (ys : List X) → slice_get (xs ++ x ∷ ys) (length xs) ≡ Some x
at_end [] x ys = refl
at_end (z ∷ xs) x ys = at_end xs x ys

no_less : (k n : ℕ) → (n + k) - n ≡ k
no_less k n = omega arith

back : (n id : ℕ) → n ≤ id → id ≡ n + (id - n)
back n id le = omega (arith, le)

module _ {Z : Type 0} (users : ℕ → NumberRule) (M : Model) (rules : List Rule) (lists : List (Vec NodeId Z)) (are : AreWholeNodes users M rules lists) where
  abbrev g : Graph
  g = graph_over rules (cells_of M) lists

  there : (id : ℕ) → id < many_nodes M → id < length lists
  there id lt = let size = are.size in omega (arith, size, lt)

  -- ---- the graph
  subterm_value : (t : Option Term) (xs : List Input) → ((u : Term) → t ≡ Some u → IsNode (out-Term u)) → rule_value (rule_of_subterm users t) xs ≡ value_of_node users t xs
  subterm_value (Some t) xs own = let rule = rule_there users (out-Term t) (own t refl) in ap (λ o. rule_value o xs) rule.1 ∙ rule_gives users (out-Term t) rule.0 xs rule.1
  subterm_value None xs own = refl

  node_value : (id : ℕ) (xs : List Input) → cells_of M ≤ id → id < many_nodes M → rule_value (rule_in_whole users M id) xs ≡ (whole_graph users M).op id xs
  node_value id xs le lt = elim (cases_lt id (count_of M)) [
    | inl low ↦
        ap (λ o. rule_value o xs) (in_terms M id _ _ _ _ _ low) ∙ subterm_value (term_at M id) xs (λ u e. (arguments_there M (id - cells_of M) u e).0)
        ∙ sym (in_terms M id _ _ _ _ _ low ∙ ap (λ b. cond b (the_one xs) (value_of_node users (term_at M id) xs)) (past_first id (cells_of M) le))
    | inr behind ↦ (let far : count_of M ≤ id = omega (arith, behind) in elim (cases_lt id (first_system M)) [
      | inl weight ↦ ap (λ o. rule_value o xs) (in_weights M id _ _ _ _ _ far weight) ∙ sym (in_weights M id _ _ _ _ _ far weight)
      | inr past ↦ (let systems : first_system M ≤ id = omega (arith, past) in elim (cases_lt id (first_objective M)) [
        | inl system ↦ ap (λ o. rule_value o xs) (in_systems M id _ _ _ _ _ systems system) ∙ sym (in_systems M id _ _ _ _ _ systems system)
        | inr further ↦ (let objectives : first_objective M ≤ id = omega (arith, further) in elim (cases_lt id (first_repeat M)) [
          | inl objective ↦ ap (λ o. rule_value o xs) (in_objectives M id _ _ _ _ _ objectives objective) ∙ sym (in_objectives M id _ _ _ _ _ objectives objective)
          | inr last ↦ (let repeats : first_repeat M ≤ id = omega (arith, last) in ap (λ o. rule_value o xs) (in_repeats M id _ _ _ _ _ repeats) ∙ sym (in_repeats M id _ _ _ _ _ repeats))
        ])
      ])
    ])
  ]

  cell_value : (id : ℕ) (xs : List Input) → id < cells_of M → (whole_graph users M).op id xs ≡ the_one xs
  cell_value id xs lt = in_terms M id _ _ _ _ _ (omega (arith, lt)) ∙ ap (λ b. cond b (the_one xs) (value_of_node users (term_at M id) xs)) (before_first id (cells_of M) lt)

  same_op : (id : ℕ) (xs : List Input) → id < length lists → g.op id xs ≡ (whole_graph users M).op id xs
  same_op id xs lt = elim (cases_lt id (cells_of M)) [
    | inl low ↦ ap (λ b. cond b (the_one xs) (rule_value (slice_get rules (id - cells_of M)) xs)) (before_first id (cells_of M) low) ∙ sym (cell_value id xs low)
    | inr high ↦ (let le : cells_of M ≤ id = omega (arith, high) in
        let size = are.size in
        ap (λ b. cond b (the_one xs) (rule_value (slice_get rules (id - cells_of M)) xs)) (past_first id (cells_of M) le)
        ∙ ap (λ o. rule_value o xs) (are.rules_are id le lt) ∙ node_value id xs le (omega (arith, lt, size)))
  ]

  pub nodes_whole : IsWhole users M g
  nodes_whole = record {
    size = are.size;
    inputs = are.inputs;
    free = λ id lt. ap (λ is. nat_lt id (cells_of M) && is_empty is) (are.inputs id lt);
    ops = same_op;
  }

  -- ---- what a store is given
  given_at : (id : ℕ) (rule : Rule) → cells_of M ≤ id → id < many_nodes M → rule_in_whole users M id ≡ Some rule → slice_get rules (id - cells_of M) ≡ Some rule
  given_at id rule le lt e = are.rules_are id le (there id lt) ∙ e

  inputs_at : (id : ℕ) → id < many_nodes M → ids_of (list_in lists id) ≡ inputs_in_whole M id
  inputs_at id lt = are.inputs id (there id lt)

  term_rule : (k : ℕ) (t : Term) → slice_get (distinct_subterms M) k ≡ Some t → (rule : Rule) × (slice_get rules k ≡ Some rule) × (rule_by users (out-Term t) ≡ Some rule)
  term_rule k t at =
      let within = slice_get_within (distinct_subterms M) k t at in
      let rule = rule_there users (out-Term t) (arguments_there M k t at).0 in
      let id = cells_of M + k in
      let low : id < count_of M = omega (arith, within) in
      let is : rule_in_whole users M id ≡ Some rule.0 =
      in_terms M id _ _ _ _ _ low ∙ ap (λ i. rule_of_subterm users (slice_get (distinct_subterms M) i)) (no_less k (cells_of M)) ∙ ap (rule_of_subterm users) at ∙ rule.1 in
      (rule.0, ap (slice_get rules) (sym (no_less k (cells_of M))) ∙ given_at id rule.0 (omega arith) (omega (arith, low)) is, rule.1)

  term_links : AreLinks users M rules lists
  term_links = record {
    count = (let size = are.size in omega (arith, size));
    inputs = λ id lt. inputs_at id (omega (arith, lt)) ∙ in_terms M id _ _ _ _ _ lt;
    rules = λ k t at. (let own = term_rule k t at in (own.0, own.1, λ xs. rule_gives users (out-Term t) own.0 xs own.2));
  }

  weight_number : (before : List Member) (m : Member) (after : List Member) → members_by M Objectives ≡ before ++ m ∷ after → IsNumber M rules lists (count_of M + length before) m.weight
  weight_number before m after e =
      let id = count_of M + length before in
      let long : length (members_by M Objectives) ≡ length before + suc (length after) = ap length e ∙ length-append before (m ∷ after) in
      let le : count_of M ≤ id = omega arith in
      let lt : id < first_system M = omega (arith, long) in
      let at : slice_get (members_by M Objectives) (id - count_of M) ≡ Some m =
      ap (slice_get (members_by M Objectives)) (no_less (length before) (count_of M)) ∙ ap (λ ms. slice_get ms (length before)) e ∙ at_end before m after in
      let is : rule_in_whole users M id ≡ Some (rule_of_constant (Int m.weight)) =
      in_weights M id _ _ _ _ _ le lt ∙ ap (λ q. Some (rule_of_constant (Int (unwrap_or (option_map (λ (n : Member). n.weight) q) (pos 0))))) at in (
        omega (arith, le),
        there id (omega (arith, lt)),
        inputs_at id (omega (arith, lt)) ∙ in_weights M id _ _ _ _ _ le lt,
        (rule_of_constant (Int m.weight), given_at id (rule_of_constant (Int m.weight)) (omega (arith, le)) (omega (arith, lt)) is, λ xs. refl),
      )

  weight_numbers : (before own after : List Member) → members_by M Objectives ≡ before ++ (own ++ after) → AreNumbers M rules lists (range_with_len (count_of M + length before) (length own)) (map (λ m. m.weight) own)
  weight_numbers before [] after e = tt
  weight_numbers before (m ∷ own) after e =
      let next : count_of M + length (before ++ m ∷ []) ≡ count_of M + length before + 1 = (let long = length-append before (m ∷ []) in omega (arith, long)) in (
        weight_number before m (own ++ after) e,
        subst (λ i. AreNumbers M rules lists (range_with_len i (length own)) (map (λ (n : Member). n.weight) own)) next (weight_numbers (before ++ m ∷ []) own after (e ∙ sym (append_assoc before (m ∷ []) (own ++ after)))),
      )

  weights_given : (whole : Whole) → IsOf M whole → AreWeighed M rules lists whole (weight_ids M whole)
  weights_given (System s) own = refl
  weights_given (Objective o) own =
      let parts = split M Objectives o (length M.objectives.items) own in
      weight_numbers (members_before M Objectives o) (members_of M (Objective o)) parts.0 parts.1

  total_by : (whole : Whole) → IsOf M whole → (id : ℕ) → count_of M ≤ id → id < many_nodes M → inputs_in_whole M id ≡ inputs_of_total M whole → rule_in_whole users M id ≡ rule_of_total M whole → IsTotalLink M rules lists whole id
  total_by whole own id le lt inputs rule = record {
    behind = le;
    within = there id lt;
    weights = weight_ids M whole;
    weighed = weights_given whole own;
    inputs = inputs_at id lt ∙ inputs;
    rule = (weighted_total (length (members_of M whole)), given_at id (weighted_total (length (members_of M whole))) (omega (arith, le)) lt rule, λ xs. refl);
  }

  total_of : (whole : Whole) → IsOf M whole → IsTotalLink M rules lists whole (total_id M whole)
  total_of (System s) own =
      let id = first_system M + s in
      let le : first_system M ≤ id = omega arith in
      let lt : id < first_objective M = omega (arith, own) in
      total_by (System s) own id (omega arith) (omega (arith, lt)) (in_systems M id _ _ _ _ _ le lt ∙ ap (λ k. inputs_of_total M (System k)) (no_less s (first_system M)))
      (in_systems M id _ _ _ _ _ le lt ∙ ap (λ k. rule_of_total M (System k)) (no_less s (first_system M)))
  total_of (Objective o) own =
      let id = first_objective M + o in
      let le : first_objective M ≤ id = omega arith in
      let lt : id < first_repeat M = omega (arith, own) in
      total_by (Objective o) own id (omega arith) (omega (arith, lt)) (in_objectives M id _ _ _ _ _ le lt ∙ ap (λ k. inputs_of_total M (Objective k)) (no_less o (first_objective M)))
      (in_objectives M id _ _ _ _ _ le lt ∙ ap (λ k. rule_of_total M (Objective k)) (no_less o (first_objective M)))

  -- ---- all other ids
  abbrev NeverErrs : ℕ → Type 0
  NeverErrs id = (rule : Rule) × (slice_get rules (id - cells_of M) ≡ Some rule) × ((xs : List Input) (fault : RunFault) → rule.value xs ≡ Err fault → ⊥)

  never_constant : (x : Input) (xs : List Input) (fault : RunFault) → (rule_of_constant x).value xs ≡ Err fault → ⊥
  never_constant x xs fault e = cc

  never_repeat : (xs : List Input) (fault : RunFault) → repeat.value xs ≡ Err fault → ⊥
  never_repeat xs fault e = cc

  other_ids : (id : ℕ) → count_of M ≤ id → id < length lists → ((whole : Whole) × IsOf M whole × (id ≡ total_id M whole)) ⊎ NeverErrs id
  other_ids id le lt' =
      let size = are.size in
      let lt : id < many_nodes M = omega (arith, lt', size) in
      elim (cases_lt id (first_system M)) [
        | inl weight ↦ inr (_, given_at id (rule_of_constant (Int (weight_at M (id - count_of M)))) (omega (arith, le)) lt (in_weights M id _ _ _ _ _ le weight), never_constant (Int (weight_at M (id - count_of M))))
        | inr past ↦ elim (cases_lt id (first_objective M)) [
          | inl system ↦ inl (System (id - first_system M), omega (arith, past, system), back (first_system M) id (omega (arith, past)))
          | inr further ↦ elim (cases_lt id (first_repeat M)) [
            | inl objective ↦ inl (Objective (id - first_objective M), omega (arith, further, objective), back (first_objective M) id (omega (arith, further)))
            | inr last ↦ inr (_, given_at id repeat (omega (arith, le)) lt (in_repeats M id _ _ _ _ _ (omega (arith, last))), never_repeat)
          ]
        ]
      ]

  pub nodes_linked : AreModelLinks users M rules lists (total_id M)
  nodes_linked = record {
    terms = term_links;
    totals = total_of;
    order = (whole_holds users M).order;
    others = other_ids;
  }

  -- ---- what the rules take
  one_rule : (id : ℕ) (rule other : Rule) → slice_get rules (id - cells_of M) ≡ Some rule → slice_get rules (id - cells_of M) ≡ Some other → other ≡ rule
  one_rule id rule other e f = same_rule other rule (sym f ∙ e)

  other_takes : (id : ℕ) (rule : Rule) → count_of M ≤ id → slice_get rules (id - cells_of M) ≡ Some rule → IsOther M lists (total_id M) id rule
  other_takes id rule le at =
      let within = slice_get_within rules (id - cells_of M) rule at in
      let count = are.count in
      let size = are.size in
      let lt : id < many_nodes M = omega (arith, within, count, size, le) in
      elim (cases_lt id (first_system M)) [
        | inl weight ↦ inr (inl (
          inputs_at id lt ∙ in_weights M id _ _ _ _ _ le weight,
          subst (λ (r : Rule). IsTrue (r.takes [])) (one_rule id rule _ at (given_at id (rule_of_constant (Int (weight_at M (id - count_of M)))) (omega (arith, le)) lt (in_weights M id _ _ _ _ _ le weight))) refl,
        ))
        | inr past ↦ elim (cases_lt id (first_objective M)) [
          | inl system ↦ inl (System (id - first_system M), omega (arith, past, system), back (first_system M) id (omega (arith, past)))
          | inr further ↦ elim (cases_lt id (first_repeat M)) [
            | inl objective ↦ inl (Objective (id - first_objective M), omega (arith, further, objective), back (first_objective M) id (omega (arith, further)))
            | inr last ↦ inr (inr (
              Objective (id - first_repeat M),
              omega (arith, last, lt),
              inputs_at id lt ∙ in_repeats M id _ _ _ _ _ (omega (arith, last)),
              λ kinds h. subst (λ (r : Rule). IsTrue (r.takes kinds)) (one_rule id rule repeat at (given_at id repeat (omega (arith, le)) lt (in_repeats M id _ _ _ _ _ (omega (arith, last))))) h,
            ))
          ]
        ]
      ]

  pub nodes_take : AreTakers users M rules lists (total_id M)
  nodes_take = record {
    terms = λ k t rule at e kinds h. (let own = term_rule k t at in rule_takes users (out-Term t) rule kinds (own.2 ∙ sym own.1 ∙ e) h);
    totals = λ whole rule own e kinds h. subst (λ (r : Rule). IsTrue (r.takes kinds)) (total_rule whole rule own e) h;
    others = other_takes;
  }
    where
      total_rule : (whole : Whole) (rule : Rule) → IsOf M whole → slice_get rules (total_id M whole - cells_of M) ≡ Some rule → weighted_total (length (members_of M whole)) ≡ rule
      total_rule (System s) rule own e =
          let id = first_system M + s in
          let le : first_system M ≤ id = omega arith in
          let lt : id < first_objective M = omega (arith, own) in
          one_rule id rule _ e (given_at id (weighted_total (length (members_of M (System s)))) (omega arith) (omega (arith, lt)) (in_systems M id _ _ _ _ _ le lt ∙ ap (λ k. rule_of_total M (System k)) (no_less s (first_system M))))
      total_rule (Objective o) rule own e =
          let id = first_objective M + o in
          let le : first_objective M ≤ id = omega arith in
          let lt : id < first_repeat M = omega (arith, own) in
          one_rule id rule _ e (given_at id (weighted_total (length (members_of M (Objective o)))) (omega arith) (omega (arith, lt)) (in_objectives M id _ _ _ _ _ le lt ∙ ap (λ k. rule_of_total M (Objective k)) (no_less o (first_objective M))))
