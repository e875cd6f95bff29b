-- The least failing id of a model's graph is that of the least numbered failing subterm.
use Rattle.std.proofs.Common.{◌≡◌, ℕ, ℤ, zero, suc, ◌+◌, ◌-◌, ◌<◌, ◌≤◌, ◌⊎◌, inl, inr, Bool, true, false, cond, List, [], ◌∷◌, Option, Some, None, is_some, length, refl, sym, ap, ◌∙◌, slice_get, Result, Ok, Err, map, arith}
use Rattle.std.specs.Prelude.{unwrap_or}
use Rattle.std.specs.Option.{option_and_then}
use Rattle.std.specs.List.{find}
use Rattle.std.proofs.lemmas.Bool.{cases_lt}
use Rattle.std.proofs.lemmas.Option.{slice_get_within}
use Rattle.cbl_base.specs.NumberRule.{NumberRule}
use Rattle.cbl_base.specs.declared.faults.RunFault.{RunFault}
use Rattle.cbl_base.specs.declared.input.Input.{Input}
use Rattle.cbl_base.specs.declared.place.Place.{Place}
use Rattle.cbl_operations.specs.RuleOf.{rule_of}
use Rattle.cbl_operations.specs.declared.op.Op.{Op}
use Rattle.model_values.specs.Failures.{failure_at, failure_by, failure_in, failure_of, fails}
use Rattle.model_values.specs.Outcomes.{gathered, operated, outcome_of, value_in}
use Rattle.model_values.specs.VarOutcomes.{outcome_of_var}
use Rattle.model_values.specs.declared.failure.Failure.{Failure}
use Rattle.store_build.specs.Aims.{start_of}
use Rattle.store_build.specs.Stops.{FailsFirst}
use Rattle.store_build.proofs.GatherLemmas.{past_first, before_first}
use Rattle.store_turns.specs.Meaning.{Graph, IsMeaning}
use Rattle.store_turns.specs.declared.outcome.Outcome.{Outcome}
use Rattle.store_turns.specs.declared.outcome.Outcome.TheVariants.{Value, Fails, Missing}
use Rattle.term_model.specs.Definitions.{IsAcyclic}
use Rattle.term_model.specs.Subterms.{distinct_subterms}
use Rattle.term_model.specs.Wellformed.{IsWellFormed}
use Rattle.term_model.specs.declared.model.Model.{Model}
use Rattle.term_model.specs.declared.term.Term.{Term}
use Rattle.term_model.specs.declared.term.Term.TheOpen.{Term-F}
use Rattle.term_model.specs.declared.term.Term.TheViews.{out-Term}
use Rattle.graph_values.specs.Graphs.{HoldsTerms, count_of, term_at}
use Rattle.term_graph.specs.Heads.{place_by, place_of}
use Rattle.graph_values.specs.LeastFaults.{IsLeast, least_failure, place_at}
use Rattle.graph_values.specs.Outcomes.{came_to, fresh_at, fresh_cell, fresh_term, fresh_var}
use Rattle.graph_values.specs.Members.{cells_of, numbers_of, variables_of}
use Rattle.graph_values.proofs.FreshMeaning.{at_cell, at_past, at_place, outcome_layer}
use Rattle.graph_values.proofs.Held.{same_fresh}

-- ---- the first of a list with a property
module _ {X : Type 0} (p : X → Bool) where
  abbrev pub IsFirst : List X → ℕ → X → Type 0
  IsFirst xs k x = (slice_get xs k ≡ Some x) × (p x ≡ true) × (find p xs ≡ Some x) × ((j : ℕ) (y : X) → slice_get xs j ≡ Some y → p y ≡ true → k ≤ j)

  abbrev pub HasNone : List X → Type 0
  HasNone xs = (find p xs ≡ None) × ((j : ℕ) (y : X) → slice_get xs j ≡ Some y → p y ≡ true → ⊥)

  abbrev pub Search : List X → Type 0
  Search xs = ((k : ℕ) × (x : X) × IsFirst xs k x) ⊎ HasNone xs

  not_first : (x : X) (xs : List X) → p x ≡ false → (k : ℕ) → ((j : ℕ) (y : X) → slice_get xs j ≡ Some y → p y ≡ true → k ≤ j) → (j : ℕ) (y : X) → slice_get (x ∷ xs) j ≡ Some y → p y ≡ true → suc k ≤ j
  not_first x xs e k least zero y at is = let c : false ≡ true = sym e ∙ ap p (ap (λ o. unwrap_or o x) at) ∙ is in cc
  not_first x xs e k least (suc j) y at is = let later = least j y at is in omega (arith, later)

  not_any : (x : X) (xs : List X) → p x ≡ false → ((j : ℕ) (y : X) → slice_get xs j ≡ Some y → p y ≡ true → ⊥) → (j : ℕ) (y : X) → slice_get (x ∷ xs) j ≡ Some y → p y ≡ true → ⊥
  not_any x xs e none zero y at is = let c : false ≡ true = sym e ∙ ap p (ap (λ o. unwrap_or o x) at) ∙ is in cc
  not_any x xs e none (suc j) y at is = none j y at is

  pub search_first : (xs : List X) → Search xs
  search_first [] = inr (refl, λ j y at is. (let c : None ≡ Some y = at in cc))
  search_first (x ∷ xs) = cases (p x) refl (search_first xs)
    where
      skipped : (e : p x ≡ false) → find p (x ∷ xs) ≡ find p xs
      skipped e = ap (λ b. cond b (Some x) (find p xs)) e

      cases : (b : Bool) → p x ≡ b → Search xs → Search (x ∷ xs)
      cases true e rest = inl (zero, x, (refl, e, ap (λ b. cond b (Some x) (find p xs)) e, λ j y at is. omega arith))
      cases false e (inl h) = inl (suc h.0, h.1, (h.2.0, h.2.1, skipped e ∙ h.2.2, not_first x xs e h.0 h.2.3))
      cases false e (inr h) = inr (skipped e ∙ h.0, not_any x xs e h.1)

-- ---- a subterm that fails
module _ (users : ℕ → NumberRule) (env : ℕ → Option Input) where
  in_placed : (place : Place) (r : Result Input RunFault) (f : Failure) → failure_in place r ≡ Some f → (value_in r ≡ None) × (place ≡ f.place)
  in_placed place (Ok x) f e = let c : None ≡ Some f = e in cc
  in_placed place (Err fault) f e = (refl, ap (λ o. (unwrap_or o f).place) e)

  by_placed : (op : Op) (place : Place) (v : Option (List Input)) (f : Failure) → failure_by users op place v ≡ Some f → (operated users op v ≡ None) × (place ≡ f.place)
  by_placed op place (Some xs) f e = in_placed place ((rule_of users op).value xs) f e
  by_placed op place None f e = let c : None ≡ Some f = e in cc

  at_placed : (t : Term) (y : Term-F Term) → out-Term t ≡ y → (f : Failure) → failure_at users env y ≡ Some f → (outcome_of users env t ≡ None) × (place_by y ≡ Some f.place)
  at_placed t (Term-F.Const x) out f e = let c : None ≡ Some f = e in cc
  at_placed t (Term-F.ConstSet s) out f e = let c : None ≡ Some f = e in cc
  at_placed t (Term-F.Var v) out f e = let c : None ≡ Some f = e in cc
  at_placed t (Term-F.Node op args place) out f e =
      let parts = by_placed op place (gathered (map (outcome_of users env) args.items)) f e in
      (outcome_layer users env t (Term-F.Node op args place) out ∙ parts.0, ap (λ p. Some p) parts.1)

  -- has no value, and its failure is at its place
  pub failing_placed : (t : Term) (f : Failure) → failure_of users env t ≡ Some f → (outcome_of users env t ≡ None) × (place_of t ≡ Some f.place)
  failing_placed t f e = at_placed t (out-Term t) refl f e

  pub came_failing : (x : Option Input) (f : Option Failure) (fault : RunFault) → came_to x f ≡ Fails fault → (g : Failure) × (f ≡ Some g) × (g.fault ≡ fault)
  came_failing (Some x) f fault e = let c : Value x ≡ Fails fault = e in cc
  came_failing None (Some g) fault e = (g, refl, fails_same g.fault fault e)
    where
      fails_same : (a b : RunFault) → Fails a ≡ Fails b → a ≡ b
      fails_same a b e = cc
  came_failing None None fault e = let c : Missing ≡ Fails fault = e in cc

  -- so it comes to that failure's fault, and what comes to a fault fails
  pub term_fails : (t : Term) (f : Failure) → failure_of users env t ≡ Some f → fresh_term users env (Some t) ≡ Fails f.fault
  term_fails t f e = ap (λ x. came_to x (failure_of users env t)) (failing_placed t f e).0 ∙ ap (came_to None) e

  pub fails_of : (t : Term) (fault : RunFault) → fresh_term users env (Some t) ≡ Fails fault → (g : Failure) × (failure_of users env t ≡ Some g) × (g.fault ≡ fault)
  fails_of t fault e = came_failing (outcome_of users env t) (failure_of users env t) fault e

  pub var_fails : (i : ℕ) (fault : RunFault) → fresh_var env i ≡ Fails fault → ⊥
  var_fails i fault e = let f = came_failing (env i) None fault e in let c : None ≡ Some f.0 = f.1 in cc

  where_fails : (t : Option Term) (fault : RunFault) → fresh_term users env t ≡ Fails fault → (u : Term) × (t ≡ Some u)
  where_fails (Some t) fault e = (t, refl)
  where_fails None fault e = let c : Missing ≡ Fails fault = e in cc

  pub failure_there : (t : Term) → fails users env t ≡ true → (f : Failure) × (failure_of users env t ≡ Some f)
  failure_there t e = by (failure_of users env t) refl e
    where
      by : (o : Option Failure) → failure_of users env t ≡ o → is_some o ≡ true → (f : Failure) × (failure_of users env t ≡ Some f)
      by (Some f) is h = (f, is)
      by None is h = let c : false ≡ true = h in cc

-- ---- the least failing id
module _ (users : ℕ → NumberRule) (M : Model) (a : List ℤ) (formed : IsWellFormed M) (acyclic : IsAcyclic M) (long : length a ≡ length M.vars.items) where
  abbrev env : ℕ → Option Input
  env = outcome_of_var users M a

  abbrev ts : List Term
  ts = distinct_subterms M

  no_less : (k n : ℕ) → (n + k) - n ≡ k
  no_less k n = omega arith

  -- no cell fails
  cell_fails : (id : ℕ) (fault : RunFault) → id < cells_of M → fresh_cell users M a id ≡ Fails fault → ⊥
  cell_fails id fault lt e = elim (cases_lt id (variables_of M)) [
    | inl var ↦ var_fails users env id fault (sym (ap (λ b. cond b (fresh_var env id) (Value (start_of (numbers_of M a) id))) (before_first id (variables_of M) var)) ∙ e)
    | inr weight ↦ (let c : Value (start_of (numbers_of M a) id) ≡ Fails fault = sym (ap (λ b. cond b (fresh_var env id) (Value (start_of (numbers_of M a) id))) (past_first id (variables_of M) (omega (arith, weight)))) ∙ e in cc)
  ]

  -- an id that fails is that of a failing subterm
  failing_id : (id : ℕ) (fault : RunFault) → fresh_at users M a id ≡ Fails fault → (cells_of M ≤ id) × (t : Term) × (slice_get ts (id - cells_of M) ≡ Some t) × (f : Failure) × (failure_of users env t ≡ Some f) × (f.fault ≡ fault)
  failing_id id fault e = elim (cases_lt id (cells_of M)) [
    | inl low ↦ absurd (cell_fails id fault low (sym (at_cell users M a id low) ∙ e))
    | inr high ↦ (let le : cells_of M ≤ id = omega (arith, high) in
        let whole = sym (at_past users M a id le) ∙ e in
        let t = where_fails users env (term_at M id) fault whole in
        let f = fails_of users env t.0 fault (sym (ap (fresh_term users env) t.1) ∙ whole) in
        (le, t.0, t.1, f.0, f.1, f.2))
  ]

  fails_true : (t : Term) (f : Failure) → failure_of users env t ≡ Some f → fails users env t ≡ true
  fails_true t f e = ap is_some e

  failure_is : (t : Term) → find (fails users env) ts ≡ Some t → least_failure users M a ≡ failure_of users env t
  failure_is t e = ap (option_and_then (failure_of users env)) e

  -- where one fails, its node is the least failing id of each graph that holds the terms
  module _ (g : Graph) (holds : HoldsTerms users M g) where
    least_in : (k : ℕ) (t : Term) (f : Failure) → slice_get ts k ≡ Some t → failure_of users env t ≡ Some f → ((j : ℕ) (u : Term) → slice_get ts j ≡ Some u → fails users env u ≡ true → k ≤ j) →
        (o : ℕ → Outcome) → IsMeaning g (start_of (numbers_of M a)) o → IsLeast M a g (cells_of M + k) f
    least_in k t f at is least o meaning =
        let own = failing_placed users env t f is in
        let within = slice_get_within ts k t at in
        let low : cells_of M + k < count_of M = omega (arith, within) in
        let large = holds.size in
        let fresh = same_fresh users M a formed acyclic long g holds o meaning in
        let lowest : (j : ℕ) (other : RunFault) → j < g.size → o j ≡ Fails other → cells_of M + k ≤ j =
        λ j other lt e. elim (cases_lt j (count_of M)) [
          | inl below ↦ (let h = failing_id j other (sym (fresh j below) ∙ e) in let at' = least (j - cells_of M) h.1 h.2 (fails_true h.1 h.3 h.4) in let le = h.0 in omega (arith, at', le))
          | inr above ↦ omega (arith, above, low)
        ] in
        record {
          there = low;
          first = record {
            outcome = o;
            meaning = meaning;
            here = (omega (arith, low, large), fresh (cells_of M + k) low ∙ at_place users M a k ∙ ap (fresh_term users env) at ∙ term_fails users env t f is);
            least = lowest;
          };
          place = ap (λ i. option_and_then place_of (slice_get ts i)) (no_less k (cells_of M)) ∙ ap (option_and_then place_of) at ∙ own.1;
        }

    pub has_least : (o : ℕ → Outcome) → IsMeaning g (start_of (numbers_of M a)) o → (f : Failure) → least_failure users M a ≡ Some f → (id : ℕ) × IsLeast M a g id f
    has_least o meaning f is = by (search_first (fails users env) ts)
      where
        by : Search (fails users env) ts → (id : ℕ) × IsLeast M a g id f
        by (inl h) = (cells_of M + h.0, least_in h.0 h.1 f h.2.0 (sym (failure_is h.1 h.2.2) ∙ is) h.2.3 o meaning)
        by (inr h) = let c : None ≡ Some f = sym (ap (option_and_then (failure_of users env)) h.0) ∙ is in cc

    -- none that fails stands before the least failing id
    pub none_before : (id : ℕ) (fault : RunFault) → FailsFirst g (start_of (numbers_of M a)) id fault → (k : ℕ) (t : Term) → slice_get ts k ≡ Some t → fails users env t ≡ true → id ≤ cells_of M + k
    none_before id fault first k t at is =
        let f = failure_there users env t is in
        let within = slice_get_within ts k t at in
        let large = holds.size in
        first.least (cells_of M + k) f.0.fault (omega (arith, within, large))
        (same_fresh users M a formed acyclic long g holds first.outcome first.meaning (cells_of M + k) (omega (arith, within)) ∙ at_place users M a k ∙ ap (fresh_term users env) at ∙ term_fails users env t f.0 f.1)

    -- and where an id of the terms is the least failing one, it is that of the least numbered failing subterm
    pub only_least : (id : ℕ) (fault : RunFault) → id < count_of M → FailsFirst g (start_of (numbers_of M a)) id fault → (f : Failure) × (least_failure users M a ≡ Some f) × (f.fault ≡ fault) × (place_at M id ≡ Some f.place)
    only_least id fault below first = by (search_first (fails users env) ts)
      where
        fails_same : (f h : RunFault) → Fails f ≡ Fails h → f ≡ h
        fails_same f h e = cc

        own : (cells_of M ≤ id) × (t : Term) × (slice_get ts (id - cells_of M) ≡ Some t) × (f : Failure) × (failure_of users env t ≡ Some f) × (f.fault ≡ fault)
        own = failing_id id fault (sym (same_fresh users M a formed acyclic long g holds first.outcome first.meaning id below) ∙ first.here.1)

        same : (k : ℕ) (t : Term) (f : Failure) → slice_get ts k ≡ Some t → failure_of users env t ≡ Some f → IsLeast M a g (cells_of M + k) f → k ≤ id - cells_of M → (f.fault ≡ fault) × (place_at M id ≡ Some f.place)
        same k t f at is one low =
            let other = first.least (cells_of M + k) f.fault one.first.here.0 (same_fresh users M a formed acyclic long g holds first.outcome first.meaning (cells_of M + k) one.there ∙ at_place users M a k ∙ ap (fresh_term users env) at ∙ term_fails users env t f is) in
            let le = own.0 in
            let equal : cells_of M + k ≡ id = omega (arith, other, low, le) in
            let came : fresh_at users M a (cells_of M + k) ≡ Fails f.fault = at_place users M a k ∙ ap (fresh_term users env) at ∙ term_fails users env t f is in
            (fails_same f.fault fault (sym came ∙ ap (fresh_at users M a) equal ∙ sym (same_fresh users M a formed acyclic long g holds first.outcome first.meaning id below) ∙ first.here.1), ap (place_at M) (sym equal) ∙ one.place)

        by : Search (fails users env) ts → (f : Failure) × (least_failure users M a ≡ Some f) × (f.fault ≡ fault) × (place_at M id ≡ Some f.place)
        by (inl h) =
            let f = failure_there users env h.1 h.2.1 in
            let parts = same h.0 h.1 f.0 h.2.0 f.1 (least_in h.0 h.1 f.0 h.2.0 f.1 h.2.3 first.outcome first.meaning) (h.2.3 (id - cells_of M) own.1 own.2 (fails_true own.1 own.3 own.4)) in
            (f.0, failure_is h.1 h.2.2 ∙ f.1, parts.0, parts.1)
        by (inr h) = absurd (h.1 (id - cells_of M) own.1 own.2 (fails_true own.1 own.3 own.4))
