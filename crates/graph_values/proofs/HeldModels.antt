-- A graph that holds a model has the model's values, or its fault at the least failing id.
use Rattle.std.proofs.Common.{◌≡◌, ℕ, ℤ, pos, ◌+◌, ◌<◌, ◌≤◌, ◌⊎◌, inl, inr, Bool, true, false, List, [], ◌∷◌, ◌++◌, map, Option, Some, None, length, get_or, refl, sym, ap, ◌∙◌, subst, slice_get, All, Result, Ok, Err, arith}
use Rattle.std.specs.Prelude.{unwrap_or}
use Rattle.std.specs.Option.{option_map}
use Rattle.std.specs.List.{range_with_len}
use Rattle.std.proofs.lemmas.Bool.{cases_lt}
use Rattle.std.proofs.lemmas.List.Elements.{All-head, All-tail}
use Rattle.std.proofs.lemmas.Option.{slice_get_cases, slice_get_within}
use Rattle.cbl_base.specs.Inputs.{number_of}
use Rattle.cbl_base.specs.NumberRule.{NumberRule}
use Rattle.cbl_base.specs.declared.faults.RunFault.{RunFault}
use Rattle.cbl_base.specs.declared.input.Input.{Input}
use Rattle.cbl_base.specs.declared.input.Input.TheVariants.{Int}
use Rattle.cbl_base.specs.declared.place.Place.{Place}
use Rattle.cbl_violations.specs.Violations.WeightedTotal.{weighted_total_value}
use Rattle.model_values.specs.Fresh.{Fresh, Sums, all_joined, fresh_of, fresh_sums, fresh_vars, joined_or, whole_by}
use Rattle.model_values.specs.VarOutcomes.{outcome_of_var}
use Rattle.model_values.specs.Wholes.{IsOf, place_of, sum_in, sum_of, total_at}
use Rattle.model_values.specs.declared.failure.Failure.{Failure}
use Rattle.model_values.specs.declared.wholes.Whole.{Whole}
use Rattle.model_values.specs.declared.wholes.Whole.TheVariants.{System, Objective}
use Rattle.store_build.specs.Aims.{start_of}
use Rattle.store_build.specs.Stops.{FailsFirst}
use Rattle.store_turns.specs.Meaning.{Each, Graph, IsMeaning, come_to, outcome_of as ran, values_of}
use Rattle.store_turns.specs.declared.outcome.Outcome.{Outcome}
use Rattle.store_turns.specs.declared.outcome.Outcome.TheVariants.{Value, Fails, Missing}
use Rattle.term_model.specs.Definitions.{IsAcyclic}
use Rattle.term_model.specs.Posting.{totals_by}
use Rattle.term_model.specs.Wellformed.{IsWellFormed}
use Rattle.term_model.specs.declared.model.Member.{Member}
use Rattle.term_model.specs.declared.model.Model.{Model}
use Rattle.term_model.specs.declared.model.Total.{Total}
use Rattle.term_model.specs.declared.posting.Side.{Side}
use Rattle.term_model.specs.declared.posting.Side.TheVariants.{Systems, Objectives}
use Rattle.graph_values.specs.Graphs.{count_of, id_of, model_graph}
use Rattle.graph_values.specs.LeastFaults.{least_failure}
use Rattle.graph_values.specs.Totals.{HoldsModel, IsAt, NeverFails, came_total, values_at}
use Rattle.graph_values.specs.Members.{members_of, numbers_of}
use Rattle.graph_values.proofs.AllValues.{HasValue, all_values, values_there}
use Rattle.graph_values.proofs.FirstFailing.{only_least}
use Rattle.graph_values.proofs.Gathering.{value_part}
use Rattle.graph_values.proofs.Held.{held_meaning}
use Rattle.graph_values.proofs.Levels.{are_layers, id_there, layer_by}
use Rattle.graph_values.proofs.ModelFaults.{failing_model}
use Rattle.graph_values.proofs.ModelTotals.{IsUsual, members_usual, total_is, total_there, vars_held}
use Rattle.graph_values.proofs.TotalSums.{AreThere, all_fit, all_gathered, answer_there, first_fails}
use Rattle.graph_values.proofs.TotalValues.{sum_of_members}

-- ---- outcomes
value_same : (x y : Input) → Value x ≡ Value y → x ≡ y
value_same x y e = cc

fails_same : (f g : RunFault) → Fails f ≡ Fails g → f ≡ g
fails_same f g e = cc

-- a total with a value
fits : (q : Option (Result ℤ Failure)) (x : Input) → Value x ≡ came_total q → q ≡ Some (Ok (number_of x))
fits (Some (Ok z)) x e = ap (λ y. Some (Ok (number_of y))) (sym (value_same x (Int z) e))
fits (Some (Err f)) x e = let c : Value x ≡ Fails f.fault = e in cc
fits None x e = let c : Value x ≡ Missing = e in cc

-- a total that fails
fails_so : (q : Option (Result ℤ Failure)) (fault : RunFault) → Fails fault ≡ came_total q → (f : Failure) × (q ≡ Some (Err f)) × (f.fault ≡ fault)
fails_so (Some (Ok z)) fault e = let c : Fails fault ≡ Value (Int z) = e in cc
fails_so (Some (Err f)) fault e = (f, refl, sym (fails_same fault f.fault e))
fails_so None fault e = let c : Fails fault ≡ Missing = e in cc

-- a total that doesn't fail, where there is one
fits_unless : (p : Outcome) (q : Option (Result ℤ Failure)) (r : Result ℤ Failure) → p ≡ came_total q → q ≡ Some r → ((fault : RunFault) → p ≡ Fails fault → ⊥) → (z : ℤ) × (q ≡ Some (Ok z)) × (p ≡ Value (Int z))
fits_unless p q (Ok z) e is none = (z, is, e ∙ ap came_total is)
fits_unless p q (Err f) e is none = absurd (none f.fault (e ∙ ap came_total is))

placed : (place : Place) (numbers : Option (List ℤ)) (weights : List ℤ) (f : Failure) → sum_of place numbers weights ≡ Some (Err f) → f.place ≡ place
placed place (Some ns) weights f e = by (weighted_total_value (length weights) (ns ++ weights)) e
  where
    by : (r : Result ℤ RunFault) → Some (total_at place r) ≡ Some (Err f) → f.place ≡ place
    by (Ok z) e = let c : Some (Ok z) ≡ Some (Err f) = e in cc
    by (Err fault) e = ap (λ (g : Failure). g.place) (sym (same (record { place = place; fault = fault }) f e))
      where
        same : (g h : Failure) → ◌≡◌ {A = Option (Result ℤ Failure)} (Some (Err g)) (Some (Err h)) → g ≡ h
        same g h e = cc
placed place None weights f e = let c : None ≡ Some (Err f) = e in cc

-- ---- all systems or all objectives
zero_more : (k : ℕ) → 0 + k ≡ k
zero_more k = omega arith

is_of_by : (M : Model) (side : Side) (k : ℕ) (total : Total) → slice_get (totals_by M side) k ≡ Some total → IsOf M (whole_by side k)
is_of_by M Systems k total at = slice_get_within M.systems.items k total at
is_of_by M Objectives k total at = slice_get_within M.objectives.items k total at

total_found : (totals : List Total) (k : ℕ) → k < length totals → (total : Total) × (slice_get totals k ≡ Some total)
total_found totals k lt = by (slice_get_cases totals k).1
  where
    by : ((total : Total) × (k < length totals) × (slice_get totals k ≡ Some total) × (get_or totals k total ≡ total)) ⊎ ((length totals ≤ k) × (slice_get totals k ≡ None)) → (total : Total) × (slice_get totals k ≡ Some total)
    by (inl h) = (h.0, h.2)
    by (inr h) = let high = h.0 in absurd (omega (arith, lt, high))

place_by_side : (M : Model) (side : Side) (k : ℕ) (total : Total) → slice_get (totals_by M side) k ≡ Some total → place_of M (whole_by side k) ≡ total.place
place_by_side M Systems k total at = ap (λ o. unwrap_or (option_map (λ (t : Total). t.place) o) (record { line = 0; col = 0 })) at
place_by_side M Objectives k total at = ap (λ o. unwrap_or (option_map (λ (t : Total). t.place) o) (record { line = 0; col = 0 })) at

module _ (users : ℕ → NumberRule) (M : Model) (a : List ℤ) (formed : IsWellFormed M) (acyclic : IsAcyclic M) (long : length a ≡ length M.vars.items) (g : Graph) (id_of_total : Whole → ℕ) (holds : HoldsModel users M g id_of_total) where
  abbrev env : ℕ → Option Input
  env = outcome_of_var users M a

  abbrev joined : Option (List Input) → Sums → Sums → Result Fresh Failure
  joined v s q = joined_or (all_joined v s q) (least_failure users M a)

  fresh_is : (v : Option (List Input)) (s q : Sums) → fresh_vars users M env ≡ v → fresh_sums users M env Systems ≡ s → fresh_sums users M env Objectives ≡ q → fresh_of users M a ≡ joined v s q
  fresh_is v s q ev es eq =
      ap (λ w. joined w (fresh_sums users M env Systems) (fresh_sums users M env Objectives)) ev ∙ ap (λ w. joined v w (fresh_sums users M env Objectives)) es ∙ ap (λ w. joined v s w) eq

  -- ---- where each id has a value
  module _ (x : ℕ → Input) (meaning : IsMeaning g (start_of (numbers_of M a)) (λ id. Value (x id))) where
    side_fits : (side : Side) (n : ℕ) → (k : ℕ) (t : Total) → slice_get (totals_by M side) k ≡ Some t → sum_in users M env (whole_by side (0 + k)) t.place ≡ Some (Ok (number_of (x (id_of_total (whole_by side (0 + k))))))
    side_fits side n k t at =
        let whole = whole_by side k in
        let there = is_of_by M side k t at in
        subst (λ j. sum_in users M env (whole_by side j) t.place ≡ Some (Ok (number_of (x (id_of_total (whole_by side j)))))) (sym (zero_more k))
        (fits (sum_in users M env whole t.place) (x (id_of_total whole)) (total_is users M a formed acyclic long g holds.terms (λ id. Value (x id)) meaning whole (id_of_total whole) (holds.totals whole there) t.place))

    side_sums : (side : Side) → fresh_sums users M env side ≡ Some (Ok (map (λ k. number_of (x (id_of_total (whole_by side k)))) (range_with_len 0 (length (totals_by M side)))))
    side_sums side = all_fit users M env side (λ k. number_of (x (id_of_total (whole_by side k)))) 0 [] (totals_by M side) (side_fits side 0)

    all_vars : fresh_vars users M env ≡ Some (map x (range_with_len 0 (length M.vars.items)))
    all_vars =
        all_gathered env x 0 (length M.vars.items) []
        (λ k lt. (let same : 0 + k ≡ k = omega arith in ap env same ∙ sym (vars_held users M a formed acyclic long g holds.terms (λ id. Value (x id)) meaning k lt) ∙ ap (λ j. Some (x j)) (sym same)))

    pub model_values : fresh_of users M a ≡ Ok (values_at M id_of_total x)
    model_values = fresh_is _ _ _ all_vars (side_sums Systems) (side_sums Objectives)

  -- ---- where an id fails
  module _ (id : ℕ) (fault : RunFault) (first : FailsFirst g (start_of (numbers_of M a)) id fault) where
    abbrev o : ℕ → Outcome
    o = first.outcome

    abbrev IsModelFault : Type 0
    IsModelFault = (f : Failure) × (fresh_of users M a ≡ Err f) × (f.fault ≡ fault) × IsAt M id_of_total id f.place

    below : id < count_of M → IsModelFault
    below lt =
        let own = only_least users M a formed acyclic long g holds.terms id fault lt first in
        (own.0, failing_model users M a formed acyclic own.0 own.1, own.2, inl (lt, own.3))

    -- what never fails isn't it
    never : NeverFails g id → ⊥
    never h = by_kind (g.is_free id) refl
      where
        by_result : (xs : List Input) (r : Result Input RunFault) → g.op id xs ≡ r → ran r ≡ Fails fault → ⊥
        by_result xs (Ok y) is e = let c : Value y ≡ Fails fault = e in cc
        by_result xs (Err f) is e = h xs f is

        by_values : (v : Option (List Input)) → come_to (g.op id) v ≡ Fails fault → ⊥
        by_values (Some xs) e = by_result xs (g.op id xs) refl e
        by_values None e = let c : Missing ≡ Fails fault = e in cc

        by_kind : (k : Bool) → g.is_free id ≡ k → ⊥
        by_kind true is = let c : Value (start_of (numbers_of M a) id) ≡ Fails fault = sym (first.meaning.cells id first.here.0 is) ∙ first.here.1 in cc
        by_kind false is = by_values (values_of (map o (g.inputs id))) (sym (first.meaning.nodes id first.here.0 is) ∙ first.here.1)

    -- behind the terms all terms have values, so that each sum is there
    module _ (high : count_of M ≤ id) where
      valued : (j : ℕ) → j < count_of M → HasValue o j
      valued =
          all_values (model_graph users M) (layer_by M acyclic) (are_layers users M formed acyclic) (start_of (numbers_of M a)) o (held_meaning users M g holds.terms (start_of (numbers_of M a)) o first.meaning)
          (λ j f lt e. (let size = holds.terms.size in let low = first.least j f (omega (arith, lt, size)) e in absurd (omega (arith, low, lt, high))))

      ids_valued : (ms : List Member) → All (IsUsual M) ms → Each (HasValue o) (map (λ m. id_of M m.term) ms)
      ids_valued [] all = tt
      ids_valued (m ∷ ms) all =
          let one = All-head (IsUsual M) m ms all in
          (valued (id_of M m.term) (id_there users M formed acyclic m.term one.0 one.1), ids_valued ms (All-tail (IsUsual M) m ms all))

      sum_found : (whole : Whole) → IsOf M whole → (place : Place) → (r : Result ℤ Failure) × (sum_in users M env whole place ≡ Some r)
      sum_found whole there place =
          let vs = values_there o (map (λ m. id_of M m.term) (members_of M whole)) (ids_valued (members_of M whole) (members_usual M formed whole)) in
          total_there users M a formed acyclic long g holds.terms o first.meaning whole (id_of_total whole) (holds.totals whole there) place vs.0 vs.1

      side_there : (side : Side) → AreThere users M env side 0 (totals_by M side)
      side_there side k t at = let own = sum_found (whole_by side k) (is_of_by M side k t at) t.place in (own.0, ap (λ j. sum_in users M env (whole_by side j) t.place) (zero_more k) ∙ own.1)

      abbrev value_or : ℕ → Input
      value_or j = unwrap_or (value_part (o j)) (Int (pos 0))

      all_vars_there : fresh_vars users M env ≡ Some (map value_or (range_with_len 0 (length M.vars.items)))
      all_vars_there =
          all_gathered env value_or 0 (length M.vars.items) []
          (λ k lt. (let same : 0 + k ≡ k = omega arith in
          let own = valued k (omega (arith, lt)) in
          ap env same ∙ sym (vars_held users M a formed acyclic long g holds.terms o first.meaning k lt) ∙ ap value_part own.1 ∙ sym (ap (λ p. Some (unwrap_or (value_part p) (Int (pos 0)))) own.1) ∙ ap (λ j. Some (value_or j)) (sym same)))

      -- a total before it fits
      earlier : (whole : Whole) → IsOf M whole → id_of_total whole < id → (place : Place) → (z : ℤ) × (sum_in users M env whole place ≡ Some (Ok z)) × (o (id_of_total whole) ≡ Value (Int z))
      earlier whole there lt place =
          let sum = sum_found whole there place in
          let total = holds.totals whole there in
          fits_unless (o (id_of_total whole)) (sum_in users M env whole place) sum.0 (total_is users M a formed acyclic long g holds.terms o first.meaning whole (id_of_total whole) total place) sum.1
          (λ f e. (let low = first.least (id_of_total whole) f total.within e in absurd (omega (arith, low, lt))))

      failing_total : (whole : Whole) → IsOf M whole → id ≡ id_of_total whole → (place : Place) → (f : Failure) × (sum_in users M env whole place ≡ Some (Err f)) × (f.fault ≡ fault)
      failing_total whole there same place =
          fails_so (sum_in users M env whole place) fault (sym (sym (ap o same) ∙ first.here.1) ∙ total_is users M a formed acyclic long g holds.terms o first.meaning whole (id_of_total whole) (holds.totals whole there) place)

      -- the totals of one side, of which one fails
      side_fails : (side : Side) (k : ℕ) (t : Total) (f : Failure) → slice_get (totals_by M side) k ≡ Some t → sum_in users M env (whole_by side k) t.place ≡ Some (Err f) →
          ((j : ℕ) (u : Total) → j < k → slice_get (totals_by M side) j ≡ Some u → id_of_total (whole_by side j) < id) → fresh_sums users M env side ≡ Some (Err f)
      side_fails side k t f at sum before =
          first_fails users M env side f 0 k t [] (totals_by M side) at (ap (λ j. sum_in users M env (whole_by side j) t.place) (zero_more k) ∙ sum)
          (λ j u lt at'. (let own = earlier (whole_by side j) (is_of_by M side j u at') (before j u lt at') u.place in (own.0, ap (λ i. sum_in users M env (whole_by side i) u.place) (zero_more j) ∙ own.1))) (side_there side)

      system_fails : (s : ℕ) → s < length M.systems.items → id ≡ id_of_total (System s) → IsModelFault
      system_fails s lt same =
          let t = total_found M.systems.items s lt in
          let own = failing_total (System s) lt same t.0.place in
          let others = answer_there users M env Objectives (Ok []) 0 M.objectives.items (side_there Objectives) in
          let place : own.0.place ≡ t.0.place = placed t.0.place _ _ own.0 (sym (sum_of_members users env M (System s) t.0.place) ∙ own.1) in
          let all = side_fails Systems s t.0 own.0 t.1 own.1 (λ j u low at. (let before = holds.order (System j) (System s) (slice_get_within M.systems.items j u at) lt low in omega (arith, before, same))) in
          (own.0, fresh_is _ _ _ all_vars_there all others.1, own.2, inr (System s, lt, same, place_by_side M Systems s t.0 t.1 ∙ sym place))

      systems_fit : (k : ℕ) → k < length M.objectives.items → id ≡ id_of_total (Objective k) → (j : ℕ) (u : Total) → slice_get M.systems.items j ≡ Some u →
          sum_in users M env (System (0 + j)) u.place ≡ Some (Ok (number_of (value_or (id_of_total (System (0 + j))))))
      systems_fit k lt same j u at =
          let there = slice_get_within M.systems.items j u at in
          let before = holds.order (System j) (Objective k) there lt tt in
          let own = earlier (System j) there (omega (arith, before, same)) u.place in
          subst (λ i. sum_in users M env (System i) u.place ≡ Some (Ok (number_of (value_or (id_of_total (System i)))))) (sym (zero_more j))
          (own.1 ∙ sym (ap (λ p. Some (Ok (number_of (unwrap_or (value_part p) (Int (pos 0)))))) own.2))

      objective_fails : (k : ℕ) → k < length M.objectives.items → id ≡ id_of_total (Objective k) → IsModelFault
      objective_fails k lt same =
          let t = total_found M.objectives.items k lt in
          let own = failing_total (Objective k) lt same t.0.place in
          let systems = all_fit users M env Systems (λ j. number_of (value_or (id_of_total (System j)))) 0 [] M.systems.items (systems_fit k lt same) in
          let place : own.0.place ≡ t.0.place = placed t.0.place _ _ own.0 (sym (sum_of_members users env M (Objective k) t.0.place) ∙ own.1) in
          let all = side_fails Objectives k t.0 own.0 t.1 own.1 (λ j u low at. (let before = holds.order (Objective j) (Objective k) (slice_get_within M.objectives.items j u at) lt low in omega (arith, before, same))) in
          (own.0, fresh_is _ _ _ all_vars_there systems all, own.2, inr (Objective k, lt, same, place_by_side M Objectives k t.0 t.1 ∙ sym place))

      by_whole : (whole : Whole) → IsOf M whole → id ≡ id_of_total whole → IsModelFault
      by_whole (System s) lt same = system_fails s lt same
      by_whole (Objective k) lt same = objective_fails k lt same

      behind : ((whole : Whole) × IsOf M whole × (id ≡ id_of_total whole)) ⊎ NeverFails g id → IsModelFault
      behind (inl h) = by_whole h.0 h.1 h.2
      behind (inr h) = absurd (never h)

    pub model_fault : IsModelFault
    model_fault = elim (cases_lt id (count_of M)) [
      | inl low ↦ below low
      | inr high ↦ (let le : count_of M ≤ id = omega (arith, high) in behind le (holds.others id le first.here.0))
    ]
