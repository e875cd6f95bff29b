-- What a move touches of a graph of a model with its totals is what it touches of the model.
use Rattle.std.proofs.Common.{◌≡◌, ℕ, ℤ, zero, suc, ◌+◌, ◌-◌, ◌*◌, ◌<◌, ◌≤◌, inl, inr, ◌&&◌, Bool, true, false, cond, ◌||◌, List, [], ◌∷◌, map, length, refl, sym, ap, ◌∙◌, All, arith}
use Rattle.std.specs.Prelude.{nat_eq}
use Rattle.std.specs.List.{list_any}
use Rattle.std.proofs.lemmas.Bool.{cases_lt}
use Rattle.std.proofs.lemmas.List.Elements.{All-head, All-tail}
use Rattle.cbl_base.specs.NumberRule.{NumberRule}
use Rattle.cbl_base.specs.declared.ids.NodeId.{NodeId}
use Rattle.cbl_base.specs.declared.input.Input.{Input}
use Rattle.model_values.specs.Wholes.{place_of}
use Rattle.model_values.specs.declared.wholes.Whole.TheVariants.{System, Objective}
use Rattle.store_build.specs.Aims.{start_of}
use Rattle.store_build.proofs.GatherLemmas.{past_first}
use Rattle.store_turns.specs.Meaning.{Each, Graph, IsMeaning, come_to, is_empty, outcome_of as ran, values_of}
use Rattle.store_turns.specs.Telling.{places_in, positions}
use Rattle.store_turns.specs.Touch.{bit, differs, sum_below, touch, touched}
use Rattle.store_turns.specs.declared.outcome.Outcome.{Outcome}
use Rattle.store_turns.specs.declared.outcome.Outcome.TheVariants.{Value}
use Rattle.term_model.specs.declared.model.Model.{Model}
use Rattle.graph_values.specs.Graphs.{count_of}
use Rattle.graph_values.specs.Members.{cells_of, numbers_of}
use Rattle.graph_values.specs.Outcomes.{IsGiven}
use Rattle.graph_values.specs.Totals.{HoldsModel}
use Rattle.graph_values.specs.WholeGraphs.{first_objective, first_repeat, first_system, inputs_in_whole, total_id, whole_graph}
use Rattle.graph_values.proofs.Held.{same_come, same_fresh}
use Rattle.graph_values.proofs.ModelTotals.{repeat_is, total_is}
use Rattle.graph_values.proofs.WholeLayers.{layer_in, whole_layers}
use Rattle.graph_values.proofs.Wholes.{in_objectives, in_repeats, in_systems, in_terms, in_weights, objective_repeats, whole_holds}
use Rattle.store_laws.specs.ModelTouch.{AreUses, IsWhole, differs_in, edges_from, is_other, many_nodes, model_touch, whole_at}

-- ---- sums
sums_same : (f h : ℕ → ℕ) (n : ℕ) → ((j : ℕ) → j < n → f j ≡ h j) → sum_below f n ≡ sum_below h n
sums_same f h zero same = refl
sums_same f h (suc n) same = ap (λ s. s + f n) (sums_same f h n (λ j lt. same j (omega (arith, lt)))) ∙ ap (λ x. sum_below h n + x) (same n (omega arith))

sum_zero : (n : ℕ) → sum_below (λ j. 0) n ≡ 0
sum_zero zero = refl
sum_zero (suc n) = let rest = sum_zero n in omega (arith, rest)

sum_both : (f h : ℕ → ℕ) (n : ℕ) → sum_below (λ j. f j + h j) n ≡ sum_below f n + sum_below h n
sum_both f h zero = refl
sum_both f h (suc n) = let rest = sum_both f h n in omega (arith, rest)

none_of : (k n : ℕ) → n ≤ k → sum_below (λ j. bit (nat_eq k j)) n ≡ 0
none_of k n le = sums_same (λ j. bit (nat_eq k j)) (λ j. 0) n (λ j lt. ap bit (apart j (omega (arith, lt, le)))) ∙ sum_zero n
  where
    apart : (j : ℕ) → j < k → nat_eq k j ≡ false
    apart j lt = by (nat_eq k j) refl
      where
        by : (b : Bool) → nat_eq k j ≡ b → b ≡ false
        by true e = let same : k ≡ j = grind (arith, e) in absurd (omega (arith, same, lt))
        by false e = refl

one_of : (k n : ℕ) → k < n → sum_below (λ j. bit (nat_eq k j)) n ≡ 1
one_of k zero lt = absurd (omega (arith, lt))
one_of k (suc n) lt = by (nat_eq k n) refl (λ low. one_of k n low)
  where
    lower : (k n : ℕ) → k < suc n → (k ≡ n → ⊥) → k < n
    lower k n lt ne = elim (cases_lt k n) [ inl low ↦ low | inr high ↦ absurd (ne (omega (arith, high, lt))) ]

    by : (b : Bool) → nat_eq k n ≡ b → (k < n → sum_below (λ j. bit (nat_eq k j)) n ≡ 1) → sum_below (λ j. bit (nat_eq k j)) n + bit (nat_eq k n) ≡ 1
    by true e more = let same : k ≡ n = grind (arith, e) in let rest = none_of k n (omega (arith, same)) in let one : bit (nat_eq k n) ≡ 1 = ap bit e in omega (arith, rest, one)
    by false e more =
        let other : (k ≡ n → ⊥) = λ same. (let c : false ≡ true = sym e ∙ ap (nat_eq k) (sym same) ∙ grind arith in cc) in
        let rest = more (lower k n lt other) in
        let none : bit (nat_eq k n) ≡ 0 = ap bit e in
        omega (arith, rest, none)

-- as many uses as there are places at which ids use it
uses_counted : (n : ℕ) (us : List (NodeId × ℕ)) → All (λ (u : NodeId × ℕ). u.0.0 < n) us → length us ≡ sum_below (λ j. length (places_in j us)) n
uses_counted n [] all = sym (sum_zero n)
uses_counted n (u ∷ us) all =
    let rest = uses_counted n us (All-tail (λ (v : NodeId × ℕ). v.0.0 < n) u us all) in
    let one = one_of u.0.0 n (All-head (λ (v : NodeId × ℕ). v.0.0 < n) u us all) in
    let whole = sums_same (λ j. length (places_in j (u ∷ us))) (λ j. bit (nat_eq u.0.0 j) + length (places_in j us)) n (λ j lt. by j (nat_eq u.0.0 j)) in
    let split = sum_both (λ j. bit (nat_eq u.0.0 j)) (λ j. length (places_in j us)) n in
    omega (arith, rest, one, whole, split)
  where
    by : (j : ℕ) (b : Bool) → length (cond b (u.1 ∷ places_in j us) (places_in j us)) ≡ bit b + length (places_in j us)
    by j true = omega arith
    by j false = omega arith

any_each : (f h : ℕ → Bool) (P : ℕ → Type 0) (is : List ℕ) → ((i : ℕ) → P i → f i ≡ h i) → Each P is → list_any f is ≡ list_any h is
any_each f h P [] same each = refl
any_each f h P (i ∷ is) same each = ap (λ b. b || list_any f is) (same i each.0) ∙ ap (λ b. h i || b) (any_each f h P is same each.1)

-- ---- what the ids of the graph come to
module _ (users : ℕ → NumberRule) (M : Model) where
  abbrev w : Graph
  w = whole_graph users M

  held : HoldsModel users M w (total_id M)
  held = whole_holds users M

  module _ (a : List ℤ) (given : IsGiven M a) (o : ℕ → Outcome) (meaning : IsMeaning w (start_of (numbers_of M a)) o) where
    back : (id n : ℕ) → n ≤ id → n + (id - n) ≡ id
    back id n le = omega (arith, le)

    at_term : (id : ℕ) → id < count_of M → o id ≡ whole_at users M a id
    at_term id lt = same_fresh users M a given.formed given.acyclic given.long w held.terms o meaning id lt ∙ sym (in_terms M id _ _ _ _ _ lt)

    at_weight : (id : ℕ) → count_of M ≤ id → id < first_system M → o id ≡ whole_at users M a id
    at_weight id le lt =
        let bound : w.is_free id ≡ false = ap (λ b. b && is_empty (inputs_in_whole M id)) (past_first id (cells_of M) (omega (arith, le))) in
        meaning.nodes id (omega (arith, lt)) bound ∙ ap (λ is. come_to (w.op id) (values_of (map o is))) (in_weights M id _ _ _ _ _ le lt) ∙ ap ran (in_weights M id _ _ _ _ _ le lt) ∙ sym (in_weights M id _ _ _ _ _ le lt)

    at_system : (id : ℕ) → first_system M ≤ id → id < first_objective M → o id ≡ whole_at users M a id
    at_system id le lt =
        let s = id - first_system M in
        let here : s < length M.systems.items = omega (arith, le, lt) in
        ap o (sym (back id (first_system M) le)) ∙ total_is users M a given.formed given.acyclic given.long w held.terms o meaning (System s) (total_id M (System s)) (held.totals (System s) here) (place_of M (System s))
        ∙ sym (in_systems M id _ _ _ _ _ le lt)

    at_objective : (id : ℕ) → first_objective M ≤ id → id < first_repeat M → o id ≡ whole_at users M a id
    at_objective id le lt =
        let k = id - first_objective M in
        let here : k < length M.objectives.items = omega (arith, le, lt) in
        ap o (sym (back id (first_objective M) le)) ∙ total_is users M a given.formed given.acyclic given.long w held.terms o meaning (Objective k) (total_id M (Objective k)) (held.totals (Objective k) here) (place_of M (Objective k))
        ∙ sym (in_objectives M id _ _ _ _ _ le lt)

    at_repeat : (id : ℕ) → first_repeat M ≤ id → id < many_nodes M → o id ≡ whole_at users M a id
    at_repeat id le lt =
        let k = id - first_repeat M in
        let here : k < length M.objectives.items = omega (arith, le, lt) in
        ap o (sym (back id (first_repeat M) le))
        ∙ repeat_is users M a given.formed given.acyclic given.long w held.terms o meaning (Objective k) (total_id M (Objective k)) (held.totals (Objective k) here) (place_of M (Objective k)) (first_repeat M + k) (objective_repeats users M k here)
        ∙ sym (in_repeats M id _ _ _ _ _ le)

    pub whole_comes : (id : ℕ) → id < many_nodes M → o id ≡ whole_at users M a id
    whole_comes id lt = elim (cases_lt id (count_of M)) [
      | inl t ↦ at_term id t
      | inr past ↦ elim (cases_lt id (first_system M)) [
        | inl t ↦ at_weight id (omega (arith, past)) t
        | inr past' ↦ elim (cases_lt id (first_objective M)) [
          | inl t ↦ at_system id (omega (arith, past')) t
          | inr past'' ↦ elim (cases_lt id (first_repeat M)) [
            | inl t ↦ at_objective id (omega (arith, past'')) t
            | inr past3 ↦ at_repeat id (omega (arith, past3)) lt
          ]
        ]
      ]
    ]

  -- ---- a graph that is the same
  module _ (g : Graph) (is : IsWhole users M g) where
    whole_meaning : (free : ℕ → Input) (o : ℕ → Outcome) → IsMeaning g free o → IsMeaning w free o
    whole_meaning free o meaning = record {
      cells = λ id lt f. (let lt' = within id lt in meaning.cells id lt' (is.free id lt' ∙ f));
      nodes = λ id lt f. (let lt' = within id lt in
          meaning.nodes id lt' (is.free id lt' ∙ f) ∙ ap (λ is'. come_to (g.op id) (values_of (map o is'))) (is.inputs id lt') ∙ same_come (g.op id) (w.op id) (values_of (map o (w.inputs id))) (λ xs. is.ops id xs lt'));
    }
      where
        within : (id : ℕ) → id < many_nodes M → id < g.size
        within id lt = let size = is.size in omega (arith, size, lt)

-- ---- from one model to another over the same graph
module _ (users : ℕ → NumberRule) (M N : Model) (g : Graph) (is : IsWhole users M g) (like : IsWhole users N g) (a b : List ℤ) (given : IsGiven M a) (given' : IsGiven N b) (before : ℕ → Input) (now : IsMeaning g (start_of (numbers_of M a)) (λ j. Value (before j)))
    (o : ℕ → Outcome) (after : IsMeaning g (start_of (numbers_of N b)) o)
    (uses : ℕ → List (NodeId × ℕ)) (are : AreUses g uses) (moved : ℕ → Bool) where
  other : ℕ → Bool
  other j = differs (o j) (before j)

  same_many : (j : ℕ) → j < many_nodes M → j < many_nodes N
  same_many j lt = let one = is.size in let other' = like.size in omega (arith, one, other', lt)

  differ_same : (j : ℕ) → j < many_nodes M → differs (o j) (before j) ≡ differs_in users M a N b j
  differ_same j lt =
      let was : Value (before j) ≡ whole_at users M a j = whole_comes users M a given (λ i. Value (before i)) (whole_meaning users M g is (start_of (numbers_of M a)) (λ i. Value (before i)) now) j lt in
      let is' : o j ≡ whole_at users N b j = whole_comes users N b given' o (whole_meaning users N g like (start_of (numbers_of N b)) o after) j (same_many j lt) in
      ap (λ (q : Outcome). is_other q (Value (before j))) is' ∙ ap (is_other (whole_at users N b j)) was

  low : (j : ℕ) → j < many_nodes M → j < g.size
  low j lt = let size = is.size in omega (arith, size, lt)

  edges_same : (id : ℕ) → id < many_nodes M → length (uses id) ≡ edges_from M id
  edges_same id lt =
      uses_counted g.size (uses id) (are.within id)
      ∙ sums_same (λ j. length (places_in j (uses id))) (λ j. length (positions id (inputs_in_whole M j))) g.size
      (λ j lt'. ap (λ (ps : List ℕ). length ps) (are.are id j (low id lt) ∙ ap (positions id) (is.inputs j lt')))
      ∙ ap (sum_below (λ j. length (positions id (inputs_in_whole M j)))) is.size

  touched_same : (j : ℕ) → j < many_nodes M → touched moved (λ i. differs (o i) (before i)) g.inputs j ≡ touched moved (differs_in users M a N b) (inputs_in_whole M) j
  touched_same j lt =
      ap (λ is'. moved j || list_any (λ i. differs (o i) (before i)) is') (is.inputs j (low j lt))
      ∙ ap (λ q. moved j || q)
      (any_each (λ i. differs (o i) (before i)) (differs_in users M a N b) (λ i. (i < many_nodes M) × (layer_in users M given.formed given.acyclic i < layer_in users M given.formed given.acyclic j)) (inputs_in_whole M j) (λ i e. differ_same i e.0)
      (whole_layers users M given.formed given.acyclic j lt))

  part : (id : ℕ) → id < many_nodes M → cond (differs (o id) (before id)) (length (uses id)) 0 ≡ cond (differs_in users M a N b id) (edges_from M id) 0
  part id lt = ap (λ q. cond q (length (uses id)) 0) (differ_same id lt) ∙ ap (λ n. cond (differs_in users M a N b id) n 0) (edges_same id lt)

  pub touch_same : touch moved (λ j. differs (o j) (before j)) g.inputs uses g.size ≡ model_touch users M a N b moved
  touch_same =
      ap (touch moved (λ j. differs (o j) (before j)) g.inputs uses) is.size
      ∙ ap (λ e. e + 2 * sum_below (λ j. bit (touched moved (λ i. differs (o i) (before i)) g.inputs j)) (many_nodes M))
      (sums_same (λ id. cond (differs (o id) (before id)) (length (uses id)) 0) (λ id. cond (differs_in users M a N b id) (edges_from M id) 0) (many_nodes M) part)
      ∙ ap (λ t. sum_below (λ id. cond (differs_in users M a N b id) (edges_from M id) 0) (many_nodes M) + 2 * t)
      (sums_same (λ j. bit (touched moved (λ i. differs (o i) (before i)) g.inputs j)) (λ j. bit (touched moved (differs_in users M a N b) (inputs_in_whole M) j)) (many_nodes M) (λ j lt. ap bit (touched_same j lt)))
