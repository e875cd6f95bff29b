-- The least failing id on which a total stands is that of the least numbered failing subterm on which its system or
-- objective stands; or it is the total's own, where all members have values.
use Rattle.std.proofs.Common.{◌≡◌, ◌⊎◌, inl, inr, ℕ, ℤ, ◌+◌, ◌-◌, ◌<◌, ◌≤◌, Bool, true, false, nat_lt, ◌&&◌, List, [], ◌∷◌, map, Option, Some, None, is_some, length, refl, sym, ap, ◌∙◌, subst, slice_get, Result, Ok, Err, arith}
use Rattle.std.specs.Prelude.{unwrap_or}
use Rattle.std.specs.Option.{option_and_then}
use Rattle.std.specs.List.{find}
use Rattle.std.proofs.lemmas.Option.{slice_get_within}
use Rattle.cbl_base.specs.NumberRule.{NumberRule}
use Rattle.cbl_base.specs.declared.faults.RunFault.{RunFault}
use Rattle.cbl_base.specs.declared.input.Input.{Input}
use Rattle.cbl_base.specs.declared.input.Input.TheVariants.{Int}
use Rattle.cbl_base.specs.declared.place.Place.{Place}
use Rattle.model_values.specs.Delta.{value_of}
use Rattle.model_values.specs.Failures.{failure_of, fails, no_failure}
use Rattle.model_values.specs.Support.{failure_below, stands_on}
use Rattle.model_values.specs.VarOutcomes.{outcome_of_var}
use Rattle.model_values.specs.Wholes.{IsOf, place_of, sum_in, sum_of, sum_or, total_at}
use Rattle.model_values.specs.declared.failure.Failure.{Failure}
use Rattle.model_values.specs.declared.wholes.Whole.{Whole}
use Rattle.model_values.proofs.FailureLaws.{find_filter}
use Rattle.store_build.specs.Aims.{start_of}
use Rattle.store_build.proofs.GatherLemmas.{past_first}
use Rattle.store_turns.specs.Cones.{Among, StandsOn, itself, below}
use Rattle.store_turns.specs.Meaning.{Graph, IsMeaning, come_to, is_empty, outcome_of as ran, values_of, with_value}
use Rattle.store_turns.specs.declared.outcome.Outcome.{Outcome}
use Rattle.store_turns.specs.declared.outcome.Outcome.TheVariants.{Value, Fails, Missing}
use Rattle.term_count.proofs.PlaceLaws.{and_parts, both}
use Rattle.term_graph.specs.Heads.{place_of as place_of_term}
use Rattle.term_model.specs.Definitions.{IsAcyclic}
use Rattle.term_model.specs.Subterms.{distinct_subterms}
use Rattle.term_model.specs.Wellformed.{IsWellFormed}
use Rattle.term_model.specs.declared.model.Model.{Model}
use Rattle.term_model.specs.declared.term.Term.{Term}
use Rattle.trial.specs.Differences.{FailsBelow}
use Rattle.graph_values.specs.Graphs.{count_of, inputs_of}
use Rattle.graph_values.specs.LeastFaults.{place_at}
use Rattle.graph_values.specs.Members.{cells_of, numbers_of}
use Rattle.graph_values.specs.Outcomes.{fresh_at, fresh_term}
use Rattle.graph_values.specs.Totals.{HoldsModel, IsRepeat, IsTotal, came_repeat, came_total}
use Rattle.graph_values.proofs.FirstFailing.{Search, failing_placed, failure_there, fails_of, search_first, term_fails, var_fails}
use Rattle.graph_values.proofs.FreshMeaning.{at_past, at_place, at_var, at_weight}
use Rattle.graph_values.proofs.Held.{same_fresh}
use Rattle.graph_values.proofs.ModelTotals.{repeat_is, total_is}
use Rattle.store_laws.specs.Deltas.{IsFailureAt}
use Rattle.store_laws.specs.Standing.{IsBelow}
use Rattle.store_laws.proofs.Standing.{from_below, subterm_reached, total_below, weight_inputs}

-- ---- outcomes
abbrev pub HasNoValue : (ℕ → Outcome) → ℕ → Type 0
HasNoValue o id = (x : Input) → o id ≡ Value x → ⊥

behind_none : (o : Outcome) → with_value o None ≡ None
behind_none (Value x) = refl
behind_none (Fails f) = refl
behind_none Missing = refl

not_value : (q : Outcome) (r : Option (List Input)) → ((x : Input) → q ≡ Value x → ⊥) → with_value q r ≡ None
not_value (Value x) r h = absurd (h x refl)
not_value (Fails f) r h = refl
not_value Missing r h = refl

-- where an input has no value, not all have values
lost_input : (o : ℕ → Outcome) (i : ℕ) (is : List ℕ) → Among i is → HasNoValue o i → values_of (map o is) ≡ None
lost_input o i [] m lost = absurd m
lost_input o i (k ∷ is) m lost = elim m [
  | inl e ↦ not_value (o k) (values_of (map o is)) (λ x s. lost x (sym (ap o e) ∙ s))
  | inr r ↦ ap (with_value (o k)) (lost_input o i is r lost) ∙ behind_none (o k)
]

fails_no_value : (o : ℕ → Outcome) (id : ℕ) (fault : RunFault) → o id ≡ Fails fault → HasNoValue o id
fails_no_value o id fault e x h = let c : Fails fault ≡ Value x = sym e ∙ h in cc

missing_no_value : (o : ℕ → Outcome) (id : ℕ) → o id ≡ Missing → HasNoValue o id
missing_no_value o id e x h = let c : Missing ≡ Value x = sym e ∙ h in cc

fails_same : (f h : RunFault) → Fails f ≡ Fails h → f ≡ h
fails_same f h e = cc

-- ---- totals
total_fails : (q : Option (Result ℤ Failure)) (fault : RunFault) → came_total q ≡ Fails fault → (f : Failure) × (q ≡ Some (Err f)) × (f.fault ≡ fault)
total_fails (Some (Ok z)) fault e = let c : Value (Int z) ≡ Fails fault = e in cc
total_fails (Some (Err f)) fault e = (f, refl, fails_same f.fault fault e)
total_fails None fault e = let c : Missing ≡ Fails fault = e in cc

total_missing : (q : Option (Result ℤ Failure)) → came_total q ≡ Missing → q ≡ None
total_missing (Some (Ok z)) e = let c : Value (Int z) ≡ Missing = e in cc
total_missing (Some (Err f)) e = let c : Fails f.fault ≡ Missing = e in cc
total_missing None e = refl

value_same : (x y : ℤ) → Value (Int x) ≡ Value (Int y) → x ≡ y
value_same x y e = cc

total_value : (q : Option (Result ℤ Failure)) (x : ℤ) → came_total q ≡ Value (Int x) → q ≡ Some (Ok x)
total_value (Some (Ok z)) x e = ap (λ v. Some (Ok v)) (value_same z x e)
total_value (Some (Err f)) x e = let c : Fails f.fault ≡ Value (Int x) = e in cc
total_value None x e = let c : Missing ≡ Value (Int x) = e in cc

repeat_value : (q : Option (Result ℤ Failure)) (x : ℤ) → came_repeat q ≡ Value (Int x) → q ≡ Some (Ok x)
repeat_value (Some (Ok z)) x e = ap (λ v. Some (Ok v)) (value_same z x e)
repeat_value (Some (Err f)) x e = let c : Missing ≡ Value (Int x) = e in cc
repeat_value None x e = let c : Missing ≡ Value (Int x) = e in cc

repeat_never : (q : Option (Result ℤ Failure)) (fault : RunFault) → came_repeat q ≡ Fails fault → ⊥
repeat_never (Some (Ok z)) fault e = let c : Value (Int z) ≡ Fails fault = e in cc
repeat_never (Some (Err f)) fault e = let c : Missing ≡ Fails fault = e in cc
repeat_never None fault e = let c : Missing ≡ Fails fault = e in cc

at_own : (place : Place) (r : Result ℤ RunFault) (f : Failure) → Some (total_at place r) ≡ Some (Err f) → place ≡ f.place
at_own place (Ok z) f e = let c : Some (Ok z) ≡ Some (Err f) = e in cc
at_own place (Err fault) f e = ap (λ o. place_in o) e
  where
    place_in : Option (Result ℤ Failure) → Place
    place_in (Some (Ok z)) = place
    place_in (Some (Err g)) = g.place
    place_in None = place

sum_placed : (place : Place) (numbers : Option (List ℤ)) (weights : List ℤ) (f : Failure) → sum_of place numbers weights ≡ Some (Err f) → place ≡ f.place
sum_placed place (Some numbers) weights f e = at_own place _ f e
sum_placed place None weights f e = let c : None ≡ Some (Err f) = e in cc

module _ (users : ℕ → NumberRule) (M : Model) (a : List ℤ) (formed : IsWellFormed M) (acyclic : IsAcyclic M) (long : length a ≡ length M.vars.items)
    (g : Graph) (id_of_total : Whole → ℕ) (holds : HoldsModel users M g id_of_total) (o : ℕ → Outcome) (meaning : IsMeaning g (start_of (numbers_of M a)) o) (whole : Whole) (there : IsOf M whole) where
  abbrev env : ℕ → Option Input
  env = outcome_of_var users M a

  abbrev target : ℕ
  target = id_of_total whole

  abbrev ts : List Term
  ts = distinct_subterms M

  abbrev total : IsTotal M g whole target
  total = holds.totals whole there

  abbrev Below : ℕ → Type 0
  Below id = IsBelow M g whole target id

  abbrev sum : Option (Result ℤ Failure)
  sum = sum_in users M env whole (place_of M whole)

  came_sum : o target ≡ came_total sum
  came_sum = total_is users M a formed acyclic long g holds.terms o meaning whole target total (place_of M whole)

  fresh : (id : ℕ) → id < count_of M → o id ≡ fresh_at users M a id
  fresh = same_fresh users M a formed acyclic long g holds.terms o meaning

  -- ---- an id with an input computes
  has_input : (i : ℕ) (is : List ℕ) → Among i is → is_empty is ≡ false
  has_input i [] m = absurd m
  has_input i (k ∷ is) m = refl

  and_false : (b c : Bool) → c ≡ false → (b && c) ≡ false
  and_false true c e = e
  and_false false c e = refl

  computes : (i j : ℕ) → Below j → Among i (g.inputs j) → o j ≡ come_to (g.op j) (values_of (map o (g.inputs j)))
  computes i j is m = elim is [
    | inl e ↦ (let lt = total.within in meaning.nodes j (subst (λ k. k < g.size) (sym e) lt) (ap g.is_free e ∙ total.bound))
    | inr (inl w) ↦ absurd (subst (λ is'. Among i is') (weight_inputs M formed acyclic whole users g holds.terms target total j w) m)
    | inr (inr (inl v)) ↦ (let lt = v.0 in let size = holds.terms.size in
        meaning.nodes j (omega (arith, lt, size))
        (holds.terms.free j (omega (arith, lt)) ∙ and_false (nat_lt j (cells_of M)) (is_empty (inputs_of M j)) (has_input i (inputs_of M j) (subst (λ is'. Among i is') (holds.terms.inputs j (omega (arith, lt))) m))))
    | inr (inr (inr t)) ↦ (let le = t.0 in let within = slice_get_within ts (j - cells_of M) t.1 t.2 in let size = holds.terms.size in
        meaning.nodes j (omega (arith, le, within, size)) (holds.terms.free j (omega (arith, le, within)) ∙ ap (λ b. b && is_empty (inputs_of M j)) (past_first j (cells_of M) le)))
  ]

  lost_one : (i j : ℕ) → Below j → Among i (g.inputs j) → HasNoValue o i → o j ≡ Missing
  lost_one i j is m lost = computes i j is m ∙ ap (come_to (g.op j)) (lost_input o i (g.inputs j) m lost)

  lost_below : (j k : ℕ) → StandsOn g.inputs j k → Below j → HasNoValue o k → HasNoValue o j
  lost_below j k (itself) is lost = lost
  lost_below j k (below {i = h} m s) is lost = missing_no_value o j (lost_one h j is m (lost_below h k s (from_below M formed acyclic whole users g holds.terms target total j h is m) lost))

  -- the target itself, or it has no value
  at_target : (k : ℕ) (fault : RunFault) → StandsOn g.inputs target k → o k ≡ Fails fault → (k ≡ target) ⊎ (o target ≡ Missing)
  at_target k fault s e = by target s refl
    where
      by : (j : ℕ) → StandsOn g.inputs j k → j ≡ target → (k ≡ target) ⊎ (o target ≡ Missing)
      by j (itself) same = inl same
      by j (below {i = h} m s) same =
          let here : Below j = inl same in
          inr (sym (ap o same) ∙ lost_one h j here m (lost_below h k s (from_below M formed acyclic whole users g holds.terms target total j h here m) (fails_no_value o k fault e)))

  -- ---- a failing id below is a subterm's
  failing_term : (id : ℕ) (fault : RunFault) → Below id → o id ≡ Fails fault → (id ≡ target) ⊎ ((cells_of M ≤ id) × (t : Term) × (slice_get ts (id - cells_of M) ≡ Some t) × (stands_on M whole t ≡ true) × (f : Failure) × (failure_of users env t ≡ Some f) × (f.fault ≡ fault))
  failing_term id fault is e = elim is [
    | inl same ↦ inl same
    | inr (inl (inl w)) ↦ (let c : Value (Int w.0) ≡ Fails fault = sym (meaning.nodes id w.1.0 w.1.1 ∙ ap (λ is'. come_to (g.op id) (values_of (map o is'))) w.1.2 ∙ ap ran w.1.3) ∙ e in absurd (value_not (Int w.0) fault c))
    | inr (inl (inr w)) ↦ (let lt = w.1 in
        let c : Value (start_of (numbers_of M a) id) ≡ Fails fault = sym (fresh id (omega (arith, lt)) ∙ at_weight users M a id w.0 w.1) ∙ e in absurd (value_not (start_of (numbers_of M a) id) fault c))
    | inr (inr (inl v)) ↦ (let lt = v.0 in absurd (var_fails users env id fault (sym (at_var users M a id lt) ∙ sym (fresh id (omega (arith, lt))) ∙ e)))
    | inr (inr (inr t)) ↦ (let le = t.0 in let within = slice_get_within ts (id - cells_of M) t.1 t.2 in
        let came : fresh_term users env (Some t.1) ≡ Fails fault = sym (ap (fresh_term users env) t.2) ∙ sym (at_past users M a id le) ∙ sym (fresh id (omega (arith, le, within))) ∙ e in
        let f = fails_of users env t.1 fault came in
        inr (le, t.1, t.2, t.3, f.0, f.1, f.2))
  ]
    where
      value_not : (x : Input) (fault : RunFault) → Value x ≡ Fails fault → ⊥
      value_not x fault e = cc

  -- ---- the least numbered of those on which it stands
  test : Term → Bool
  test t = stands_on M whole t && fails users env t

  passes : (t : Term) (f : Failure) → stands_on M whole t ≡ true → failure_of users env t ≡ Some f → test t ≡ true
  unfolding test
  passes t f stands e = both (stands_on M whole t) (fails users env t) stands (ap is_some e)

  test_parts : (t : Term) → test t ≡ true → (stands_on M whole t ≡ true) × (fails users env t ≡ true)
  unfolding test
  test_parts t h = and_parts (stands_on M whole t) (fails users env t) h

  first_is : (t : Term) → find test ts ≡ Some t → failure_below users M env whole ≡ failure_of users env t
  unfolding test
  first_is t e = ap (option_and_then (failure_of users env)) (find_filter (fails users env) (stands_on M whole) ts ∙ e)

  abbrev IsLeastBelow : ℕ → RunFault → Type 0
  IsLeastBelow id fault = (f : Failure) × (failure_below users M env whole ≡ Some f) × (f.fault ≡ fault) × (place_at M id ≡ Some f.place)

  least_is : (id : ℕ) (fault : RunFault) → FailsBelow g o target id fault → (cells_of M ≤ id) → (t : Term) → slice_get ts (id - cells_of M) ≡ Some t → stands_on M whole t ≡ true → (f : Failure) → failure_of users env t ≡ Some f → f.fault ≡ fault → IsLeastBelow id fault
  least_is id fault first le t at stands f fails' same = by (search_first test ts)
    where
      by : Search test ts → IsLeastBelow id fault
      by (inl h) =
          let parts = test_parts h.1 h.2.1 in
          let own = failure_there users env h.1 parts.1 in
          let within = slice_get_within ts h.0 h.1 h.2.0 in
          let came : o (cells_of M + h.0) ≡ Fails own.0.fault =
          fresh (cells_of M + h.0) (omega (arith, within)) ∙ at_place users M a h.0 ∙ ap (fresh_term users env) h.2.0 ∙ term_fails users env h.1 own.0 own.1 in
          let low = first.least (cells_of M + h.0) own.0.fault (subterm_reached M formed acyclic whole users g holds.terms target total h.0 h.1 h.2.0 parts.0) came in
          let high = h.2.3 (id - cells_of M) t at (passes t f stands fails') in
          let equal : cells_of M + h.0 ≡ id = omega (arith, low, high, le) in
          let place : place_at M id ≡ Some own.0.place =
          ap (λ i. option_and_then place_of_term (slice_get ts i)) (let back : id - cells_of M ≡ h.0 = omega (arith, equal) in back) ∙ ap (option_and_then place_of_term) h.2.0 ∙ (failing_placed users env h.1 own.0 own.1).1 in
          (own.0, first_is h.1 h.2.2 ∙ own.1, fails_same own.0.fault fault (sym came ∙ ap o equal ∙ first.here), place)
      by (inr h) = absurd (h.1 (id - cells_of M) t at (passes t f stands fails'))

  -- ---- so the whole comes to that failure
  pub whole_fails : (id : ℕ) (fault : RunFault) → FailsBelow g o target id fault → IsFailureAt users M a id_of_total whole id fault
  whole_fails id fault first = elim (failing_term id fault (total_below M formed acyclic whole users g holds.terms target total id first.stands) first.here) [
    | inl same ↦ own same
    | inr t ↦ others (at_target id fault first.stands first.here) t.0 (least_is id fault first t.0 t.1 t.2 t.3 t.4 t.5 t.6) (slice_get_within ts (id - cells_of M) t.1 t.2)
  ]
    where
      own : id ≡ target → IsFailureAt users M a id_of_total whole id fault
      own same =
          let f = total_fails sum fault (sym came_sum ∙ sym (ap o same) ∙ first.here) in
          record {
            failure = f.0;
            value = ap (λ q. sum_or q (failure_below users M env whole)) f.1;
            fault = f.2;
            place = inr (whole, there, same, sum_placed (place_of M whole) _ _ f.0 f.1);
          }

      others : (id ≡ target) ⊎ (o target ≡ Missing) → cells_of M ≤ id → IsLeastBelow id fault → id - cells_of M < length ts → IsFailureAt users M a id_of_total whole id fault
      others (inl same) le least within = own same
      others (inr missing) le least within =
          record {
            failure = least.0;
            value = ap (λ q. sum_or q (failure_below users M env whole)) (total_missing sum (sym came_sum ∙ missing)) ∙ ap (λ b. Err (unwrap_or b no_failure)) least.1;
            fault = least.2;
            place = inl (omega (arith, le, within), least.3);
          }

  pub whole_value : (x : ℤ) → o target ≡ Value (Int x) → value_of users M a whole ≡ Ok x
  whole_value x e = ap (λ q. sum_or q (failure_below users M env whole)) (total_value sum x (sym came_sum ∙ e))

  -- ---- the same of a node that repeats it
  module _ (j : ℕ) (again : IsRepeat g j target) where
    came_again : o j ≡ came_repeat sum
    came_again = repeat_is users M a formed acyclic long g holds.terms o meaning whole target total (place_of M whole) j again

    pub repeat_has : (x : ℤ) → o j ≡ Value (Int x) → value_of users M a whole ≡ Ok x
    repeat_has x e = ap (λ q. sum_or q (failure_below users M env whole)) (repeat_value sum x (sym came_again ∙ e))

    on_total : (k : ℕ) → StandsOn g.inputs target k → StandsOn g.inputs j k
    on_total k s = below (subst (λ is. Among target is) (sym again.2) (inl refl)) s

    pub repeat_fails : (id : ℕ) (fault : RunFault) → FailsBelow g o j id fault → FailsBelow g o target id fault
    repeat_fails id fault first = record {
      stands = by j first.stands refl;
      here = first.here;
      least = λ k other s e. first.least k other (on_total k s) e;
    }
      where
        by : (i : ℕ) → StandsOn g.inputs i id → i ≡ j → StandsOn g.inputs target id
        by i (itself) same = absurd (repeat_never sum fault (sym came_again ∙ sym (ap o same) ∙ first.here))
        by i (below {i = h} m s) same = elim (subst (λ is. Among h is) (ap g.inputs same ∙ again.2) m) [
          | inl e ↦ subst (λ k. StandsOn g.inputs k id) (sym e) s
          | inr none ↦ absurd none
        ]
