-- A model's fault is that of the least failing id of a graph that holds it.
use Rattle.std.proofs.Common.{◌≡◌, ℕ, ℤ, ◌+◌, ◌<◌, ◌≤◌, ◌⊎◌, inl, inr, Bool, true, false, List, [], ◌∷◌, map, fold, Option, Some, None, IsSome, is_some, length, get_or, refl, sym, ap, ◌∙◌, subst, slice_get, All, Result, Ok, Err, arith}
use Rattle.std.specs.Prelude.{nat_eq, unwrap_or, if◌then◌else◌}
use Rattle.std.specs.Option.{option_and_then, option_map}
use Rattle.std.specs.List.{cons_option, filter_map}
use Rattle.std.proofs.lemmas.List.Elements.{All-nil, All-cons, All-head, All-tail, All-append}
use Rattle.std.proofs.lemmas.Bool.Decides.{nat_tests}
use Rattle.std.proofs.lemmas.Option.{slice_get_cases}
use Rattle.cbl_base.specs.NumberRule.{NumberRule}
use Rattle.cbl_base.specs.declared.input.Input.{Input}
use Rattle.cbl_base.specs.declared.place.Place.{Place}
use Rattle.model_values.specs.Failures.{failure_of, fails}
use Rattle.model_values.specs.Fresh.{Sums, all_joined, fresh_of, fresh_sums, fresh_vars, joined_or, whole_by}
use Rattle.model_values.specs.Outcomes.{outcome_of}
use Rattle.model_values.specs.Support.{member_in}
use Rattle.model_values.specs.VarOutcomes.{outcome_by, outcome_of_term, outcome_of_var}
use Rattle.model_values.specs.Wholes.{gather_number, sum_in, sum_of}
use Rattle.model_values.specs.declared.failure.Failure.{Failure}
use Rattle.model_values.specs.declared.wholes.Whole.TheVariants.{System, Objective}
use Rattle.model_values.proofs.VarLaws.{equals_definition}
use Rattle.term_model.specs.Definitions.{IsAcyclic, definition_of, is_of, note}
use Rattle.term_model.specs.Posting.{member_at, term_posted, totals_by}
use Rattle.term_model.specs.Subterms.{distinct_subterms, subterms_posted, subterms_where}
use Rattle.term_model.specs.Wellformed.{IsThere, IsWellFormed}
use Rattle.term_model.specs.declared.model.Definition.{Definition}
use Rattle.term_model.specs.declared.model.Member.{Member}
use Rattle.term_model.specs.declared.model.Model.{Model}
use Rattle.term_model.specs.declared.model.Posted.{Posted}
use Rattle.term_model.specs.declared.model.Posted.TheVariants.{Define, Constrain, Part}
use Rattle.term_model.specs.declared.model.Total.{Total}
use Rattle.term_model.specs.declared.posting.Side.{Side}
use Rattle.term_model.specs.declared.posting.Side.TheVariants.{Systems, Objectives}
use Rattle.term_model.specs.declared.term.Term.{Term}
use Rattle.term_model.proofs.VarLaws.{definition_found}
use Rattle.graph_values.specs.LeastFaults.{least_failure}
use Rattle.graph_values.specs.Members.{members_of}
use Rattle.graph_values.proofs.AllValues.{IsValued, deep_valued}
use Rattle.graph_values.proofs.Arguments.{all_at, fold_all}
use Rattle.graph_values.proofs.FirstFailing.{Search, failing_placed, failure_there, search_first}
use Rattle.graph_values.proofs.TotalSums.{each_gathered, each_there}
use Rattle.graph_values.proofs.TotalValues.{sum_of_members}

-- ---- where all is joined, each member has a value
none_gathered : (os : List (Option Input)) → fold gather_number None os ≡ None
none_gathered [] = refl
none_gathered (o ∷ os) = none_gathered os

no_number : (v : Option (List ℤ)) → gather_number v None ≡ None
no_number (Some xs) = refl
no_number None = refl

each_numbered : (f : Member → Option Input) (v : Option (List ℤ)) (ms : List Member) → IsSome (fold gather_number v (map f ms)) → All (λ m. IsSome (f m)) ms
each_numbered f v [] h = All-nil (λ m. IsSome (f m))
each_numbered f v (m ∷ ms) h = All-cons (λ n. IsSome (f n)) m ms (first (f m) refl) (each_numbered f (gather_number v (f m)) ms h)
  where
    first : (q : Option Input) → f m ≡ q → IsSome (f m)
    first (Some x) e = ap is_some e
    first None e =
        let c : false ≡ true = sym (ap is_some (none_gathered (map f ms))) ∙ ap (λ w. is_some (fold gather_number w (map f ms))) (sym (no_number v) ∙ ap (gather_number v) (sym e)) ∙ h in cc

sum_some : (place : Place) (numbers : Option (List ℤ)) (weights : List ℤ) (r : Result ℤ Failure) → sum_of place numbers weights ≡ Some r → IsSome numbers
sum_some place (Some ns) weights r e = refl
sum_some place None weights r e = let c : None ≡ Some r = e in cc

module _ {X Y : Type 0} (Q : Y → Type 0) (h : X → Option Y) where
  abbrev Gives : X → Type 0
  Gives x = (y : Y) → h x ≡ Some y → Q y

  filtered_all : (xs : List X) → All Q (filter_map h xs) → All Gives xs
  filtered_all [] all = All-nil Gives
  filtered_all (x ∷ xs) all = by (h x) refl all (λ rest. filtered_all xs rest)
    where
      by : (o : Option Y) → h x ≡ o → All Q (cons_option o (filter_map h xs)) → (All Q (filter_map h xs) → All Gives xs) → All Gives (x ∷ xs)
      by (Some v) is each later =
          All-cons Gives x xs (λ y e. subst Q (ap (λ o. unwrap_or o v) (sym is ∙ e)) (All-head Q v (filter_map h xs) each)) (later (All-tail Q v (filter_map h xs) each))
      by None is each later = All-cons Gives x xs (λ y e. (let c : None ≡ Some y = sym is ∙ e in cc)) (later each)

-- ---- a definition that was posted is its variable's
eq_self : (k : ℕ) → nat_eq k k ≡ true
eq_self k = grind (arith, nat_tests)

module _ (defs : List Definition) (i : ℕ) where
  if_there : (b : Bool) (d : ℕ) (so_far : Option ℕ) → IsSome so_far → IsSome (if b then Some d else so_far)
  if_there true d so_far h = refl
  if_there false d so_far h = h

  one_stays : (so_far : Option ℕ) (p : Posted) → IsSome so_far → IsSome (note defs i so_far p)
  one_stays so_far (Define d) h = if_there (is_of defs i d) d so_far h
  one_stays so_far (Constrain s k) h = h
  one_stays so_far (Part o k) h = h

  all_stay : (so_far : Option ℕ) (posted : List Posted) → IsSome so_far → IsSome (fold (note defs i) so_far posted)
  all_stay so_far [] h = h
  all_stay so_far (p ∷ posted) h = all_stay (note defs i so_far p) posted (one_stays so_far p h)

  abbrev IsNoted : Option ℕ → List Posted → Posted → Type 0
  IsNoted so_far posted p = (d : ℕ) → p ≡ Define d → is_of defs i d ≡ true → IsSome (fold (note defs i) so_far posted)

  noted : (so_far : Option ℕ) (posted : List Posted) → All (IsNoted so_far posted) posted
  noted so_far [] = All-nil (IsNoted so_far [])
  noted so_far (p ∷ posted) =
      All-cons (IsNoted so_far (p ∷ posted)) p posted
      (λ d e h. all_stay (note defs i so_far p) posted (subst (λ q. IsSome (note defs i so_far q)) (sym e) (subst (λ b. IsSome (if b then Some d else so_far)) (sym h) refl)))
      (noted (note defs i so_far p) posted)

some_from : {X : Type 0} (o : Option X) → IsSome o → (x : X) × (o ≡ Some x)
some_from (Some x) h = (x, refl)
some_from None h = let c : false ≡ true = h in cc

term_from : (m : Option Member) (t : Term) → option_map (λ (n : Member). n.term) m ≡ Some t → (n : Member) × (m ≡ Some n) × (n.term ≡ t)
term_from (Some n) t e = (n, refl, ap (λ o. unwrap_or o t) e)
term_from None t e = let c : None ≡ Some t = e in cc

definition_from : (o : Option Definition) (t : Term) → option_map (λ (d : Definition). d.term) o ≡ Some t → (d : Definition) × (o ≡ Some d) × (d.term ≡ t)
definition_from (Some d) t e = (d, refl, ap (λ o. unwrap_or o t) e)
definition_from None t e = let c : None ≡ Some t = e in cc

-- ---- where all is joined no subterm fails
module _ (users : ℕ → NumberRule) (M : Model) (a : List ℤ) (formed : IsWellFormed M) (acyclic : IsAcyclic M) where
  abbrev env : ℕ → Option Input
  env = outcome_of_var users M a

  own_definition : (d : ℕ) (def : Definition) → slice_get M.defs.items d ≡ Some def → IsSome (definition_of M def.var.index) → definition_of M def.var.index ≡ Some d
  own_definition d def there is =
      let entry = some_from (definition_of M def.var.index) is in
      let found = definition_found M def.var.index entry.0 entry.1 in
      entry.1 ∙ ap (λ n. Some n) (formed.distinct entry.0 d found.0 def found.1 there found.2)

  module _ (vars : List Input) (systems objectives : Result (List ℤ) Failure) (vars_are : fresh_vars users M env ≡ Some vars) (systems_are : fresh_sums users M env Systems ≡ Some systems) (objectives_are : fresh_sums users M env Objectives ≡ Some objectives) where
    side_sum : (side : Side) → (r : Result (List ℤ) Failure) × (fresh_sums users M env side ≡ Some r)
    side_sum Systems = (systems, systems_are)
    side_sum Objectives = (objectives, objectives_are)

    zero_more : (k : ℕ) → 0 + k ≡ k
    zero_more k = omega arith

    var_valued : (i : ℕ) → i < length M.vars.items → IsSome (env i)
    var_valued i lt = let own = each_gathered env 0 (length M.vars.items) (Some []) vars vars_are i lt in ap (λ k. is_some (env k)) (sym (zero_more i)) ∙ ap is_some own.1

    members_valued : (side : Side) (k : ℕ) (total : Total) → slice_get (totals_by M side) k ≡ Some total → All (λ m. IsValued users env m.term) (members_of M (whole_by side k))
    members_valued side k total at =
        let own = each_there users M env side (Some (Ok [])) 0 (totals_by M side) (side_sum side).0 (side_sum side).1 k total at in
        let whole = whole_by side k in
        let sum : sum_in users M env whole total.place ≡ Some own.0 = ap (λ j. sum_in users M env (whole_by side j) total.place) (sym (zero_more k)) ∙ own.1 in
        each_numbered (λ m. outcome_of users env m.term) (Some []) (members_of M whole)
        (sum_some total.place (fold gather_number (Some []) (map (λ m. outcome_of users env m.term) (members_of M whole))) (map (λ m. m.weight) (members_of M whole)) own.0 (sym (sum_of_members users env M whole total.place) ∙ sum))

    definition_valued : (d : ℕ) (def : Definition) → slice_get M.defs.items d ≡ Some def → IsSome (definition_of M def.var.index) → IsValued users env def.term
    definition_valued d def there is =
        let low = (formed.defs d def there).var in
        let same : env def.var.index ≡ outcome_of users env def.term =
        equals_definition users M a acyclic def.var.index low ∙ ap (outcome_by users M a env def.var.index) (own_definition d def there is) ∙ ap (outcome_of_term users env) (ap (option_map (λ (e : Definition). e.term)) there) in
        subst IsSome same (var_valued def.var.index low)

    abbrev PostedValued : Posted → Type 0
    PostedValued p = (t : Term) → term_posted M p ≡ Some t → IsValued users env t

    member_valued : (side : Side) (k j : ℕ) (p : Posted) → k < length (totals_by M side) → ((m : Member) → member_at (totals_by M side) k j ≡ Some m → member_in M (whole_by side k) p ≡ Some m) →
        ((total : Total) → slice_get (totals_by M side) k ≡ Some total → (m : Member) → member_in M (whole_by side k) p ≡ Some m → IsValued users env m.term) →
        (t : Term) → option_map (λ (n : Member). n.term) (member_at (totals_by M side) k j) ≡ Some t → IsValued users env t
    member_valued side k j p lt own valued t e =
        let m = term_from (member_at (totals_by M side) k j) t e in
        by (slice_get_cases (totals_by M side) k).1 m
      where
        by : ((total : Total) × (k < length (totals_by M side)) × (slice_get (totals_by M side) k ≡ Some total) × (get_or (totals_by M side) k total ≡ total)) ⊎ ((length (totals_by M side) ≤ k) × (slice_get (totals_by M side) k ≡ None)) →
            (n : Member) × (member_at (totals_by M side) k j ≡ Some n) × (n.term ≡ t) → IsValued users env t
        by (inl h) m = subst (IsValued users env) m.2 (valued h.0 h.2 m.0 (own m.0 m.1))
        by (inr h) m = let high = h.0 in absurd (omega (arith, lt, high))

    posted_valued : All PostedValued M.posted.items
    posted_valued i p0 lt = at (get_or M.posted.items i p0) refl
      where
        at : (p : Posted) → get_or M.posted.items i p0 ≡ p → PostedValued p
        at (Define d) is t e =
            let def = definition_from (slice_get M.defs.items d) t e in
            let self : is_of M.defs.items def.0.var.index d ≡ true = ap (λ o. unwrap_or (option_map (λ (c : Definition). nat_eq c.var.index def.0.var.index) o) false) def.1 ∙ eq_self def.0.var.index in
            subst (IsValued users env) def.2 (definition_valued d def.0 def.1 (noted M.defs.items def.0.var.index None M.posted.items i p0 lt d is self))
        at (Constrain s k) is t e =
            let low = subst (IsThere Systems (length M.systems.items)) is (formed.posted_systems i p0 lt) in
            member_valued Systems s k (Constrain s k) low (λ m h. ap (λ b. if b then member_at M.systems.items s k else None) (eq_self s) ∙ h)
            (λ total there m h. filtered_all (λ n. IsValued users env n.term) (member_in M (System s)) M.posted.items (members_valued Systems s total there) i p0 lt m (ap (member_in M (System s)) is ∙ h)) t e
        at (Part o k) is t e =
            let low = subst (IsThere Objectives (length M.objectives.items)) is (formed.posted_objectives i p0 lt) in
            member_valued Objectives o k (Part o k) low (λ m h. ap (λ b. if b then member_at M.objectives.items o k else None) (eq_self o) ∙ h)
            (λ total there m h. filtered_all (λ n. IsValued users env n.term) (member_in M (Objective o)) M.posted.items (members_valued Objectives o total there) i p0 lt m (ap (member_in M (Objective o)) is ∙ h)) t e

    where_valued : (t : Option Term) → ((u : Term) → t ≡ Some u → IsValued users env u) → All (IsValued users env) (subterms_where t)
    where_valued (Some t) h = deep_valued users env t (h t refl)
    where_valued None h = All-nil (IsValued users env)

    all_valued : (posted : List Posted) → All PostedValued posted → All (IsValued users env) (subterms_posted M posted)
    all_valued [] all = All-nil (IsValued users env)
    all_valued (p ∷ posted) all =
        All-append (IsValued users env) (subterms_where (term_posted M p)) (subterms_posted M posted) (where_valued (term_posted M p) (All-head PostedValued p posted all)) (all_valued posted (All-tail PostedValued p posted all))

    none_fails : (f : Failure) → least_failure users M a ≡ Some f → ⊥
    none_fails f e = by (search_first (fails users env) (distinct_subterms M))
      where
        by : Search (fails users env) (distinct_subterms M) → ⊥
        by (inl h) =
            let own = failure_there users env h.1 h.2.1 in
            let valued : IsValued users env h.1 = all_at (IsValued users env) (distinct_subterms M) h.0 h.1 (fold_all (IsValued users env) [] (subterms_posted M M.posted.items) (All-nil (IsValued users env)) (all_valued M.posted.items posted_valued)) h.2.0 in
            let c : false ≡ true = sym (ap is_some (failing_placed users env h.1 own.0 own.1).0) ∙ valued in cc
        by (inr h) = let c : None ≡ Some f = sym (ap (option_and_then (failure_of users env)) h.0) ∙ e in cc

  -- so a subterm that fails is the model's fault
  pub failing_model : (f : Failure) → least_failure users M a ≡ Some f → fresh_of users M a ≡ Err f
  failing_model f e = by (fresh_vars users M env) (fresh_sums users M env Systems) (fresh_sums users M env Objectives) refl refl refl
    where
      by : (v : Option (List Input)) (s q : Sums) → fresh_vars users M env ≡ v → fresh_sums users M env Systems ≡ s → fresh_sums users M env Objectives ≡ q →
          joined_or (all_joined (fresh_vars users M env) (fresh_sums users M env Systems) (fresh_sums users M env Objectives)) (least_failure users M a) ≡ Err f
      by v s q ev es eq =
          ap (λ w. joined_or (all_joined w (fresh_sums users M env Systems) (fresh_sums users M env Objectives)) (least_failure users M a)) ev
          ∙ ap (λ w. joined_or (all_joined v w (fresh_sums users M env Objectives)) (least_failure users M a)) es ∙ ap (λ w. joined_or (all_joined v s w) (least_failure users M a)) eq
          ∙ ap (joined_or (all_joined v s q)) e ∙ cases v s q ev es eq
        where
          cases : (v : Option (List Input)) (s q : Sums) → fresh_vars users M env ≡ v → fresh_sums users M env Systems ≡ s → fresh_sums users M env Objectives ≡ q → joined_or (all_joined v s q) (Some f) ≡ Err f
          cases (Some xs) (Some r) (Some r') ev es eq = absurd (none_fails xs r r' ev es eq f e)
          cases (Some xs) (Some r) None ev es eq = refl
          cases (Some xs) None q ev es eq = refl
          cases None s q ev es eq = refl
