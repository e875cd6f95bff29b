-- Equal subterms fail alike, so the least numbered one that fails is the first that was posted; and that on
-- which a system or an objective stands is the first that is equal to one of those in its terms that fail.
use Rattle.std.proofs.Common.{◌≡◌, ℕ, zero, suc, ◌+◌, ◌<◌, ◌≤◌, Bool, true, false, cond, ◌&&◌, ◌||◌, Vec, Global, List, [], ◌∷◌, ◌++◌, Option, Some, None, IsSome, is_some, Result, Ok, Err, length, get_or, take, map, refl, sym, ap, ◌∙◌, subst, slice_get, ◌⊎◌, inl, inr, arith}
use Rattle.std.specs.Prelude.{filter, unwrap_or}
use Rattle.std.specs.Option.{option_and_then, option_map}
use Rattle.std.specs.Cmp.Rules.{signed_items}
use Rattle.std.proofs.lemmas.Bool.Decides.{Decides-int_eq}
use Rattle.cbl_base.specs.declared.input.Input.TheVariants.{Int, Set}
use Rattle.std.specs.List.{find, list_any}
use Rattle.std.proofs.lemmas.Bool.{and_parts}
use Rattle.std.proofs.lemmas.List.{append_assoc, append-nil, map_more, map-append, take_all, take_more}
use Rattle.std.proofs.lemmas.List.Elements.{filter-append}
use Rattle.cbl_base.specs.NumberRule.{NumberRule}
use Rattle.cbl_base.specs.declared.faults.RunFault.{RunFault}
use Rattle.cbl_base.specs.declared.input.Input.{Input}
use Rattle.cbl_base.specs.declared.place.Place.{Place}
use Rattle.operation_values.specs.OfCblOperations.RuleOf.{rule_of}
use Rattle.operation_values.specs.OfCblOperations.declared.op.Op.{Op}
use Rattle.model_values.specs.Failing.{AreFailing}
use Rattle.model_values.specs.Failures.{failure_at, failure_by, failure_in, failure_of, fails, first_failure}
use Rattle.model_values.specs.Outcomes.{Outcome, gathered, operated, outcome_of, outcome_step}
use Rattle.model_values.specs.Dependence.{marked}
use Rattle.model_values.specs.Support.{AreReached, failure_below, one_depends, roots_in, supports}
use Rattle.model_values.specs.declared.evaluation.Failing.{Failing}
use Rattle.model_values.specs.declared.failure.Failure.{Failure}
use Rattle.model_values.specs.declared.wholes.Whole.{Whole}
use Rattle.term_model.specs.Kinds.{kinds_in, kind_of_term}
use Rattle.term_model.specs.Posting.{term_posted}
use Rattle.term_model.specs.SameOperations.{same_operation}
use Rattle.term_model.specs.SameTerms.{all_pass, same_layer, same_term}
use Rattle.term_model.specs.Subterms.{distinct_subterms, joined_terms, once, subterms, subterms_posted, subterms_where}
use Rattle.term_model.specs.Wellformed.{IsWellFormed, IsMember}
use Rattle.term_model.specs.declared.model.Definition.{Definition}
use Rattle.term_model.specs.declared.model.Member.{Member}
use Rattle.term_model.specs.declared.model.Model.{Model}
use Rattle.term_model.specs.declared.model.Posted.{Posted}
use Rattle.term_model.specs.declared.model.Posted.TheVariants.{Define, Constrain, Part}
use Rattle.term_model.specs.declared.model.Total.{Total}
use Rattle.term_model.specs.declared.term.Term.{Term}
use Rattle.term_model.specs.declared.term.Term.TheOpen.{Term-F}
use Rattle.term_model.specs.declared.term.Term.TheViews.{Node, out-Term, out-roll-Term, roll-Term}
use Rattle.term_model.specs.declared.term.Term.TheVariants.{rolls-Node}
use Rattle.term_model.specs.declared.term.Term.TheFolds.{fold-roll-Term, ind-Term, map-Term}
use Rattle.term_model.proofs.EqualTerms.{eq_of, roll_out, same_congruent, same_out}
use Rattle.term_model.proofs.OperationLaws.{same_is_equal}
use Rattle.term_model.proofs.SameLaws.{same_roll}
use Rattle.term_model.proofs.SubtermLaws.{any_same, once_find, subterms_node}
use Rattle.term_model.proofs.NamingLaws.{last_or}
use Rattle.term_model.proofs.VarLaws.{kind_within}

abbrev Test : Type 0
Test = Term → Bool

-- ---- terms that were posted are well kinded
some_of : {X : Type 0} (o : Option X) (x : X) → o ≡ Some x → IsSome o
some_of o x e = ap is_some e

module _ (M : Model) (formed : IsWellFormed M) (t : Term) where
  abbrev IsKinded : Type 0
  IsKinded = IsSome (kind_of_term (kinds_in M.vars.items) t)

  of_definition : (d : ℕ) (def : Option Definition) → slice_get M.defs.items d ≡ def → option_map (λ (d : Definition). d.term) def ≡ Some t → IsKinded
  of_definition d (Some def) there e =
      let one = formed.defs d def there in
      let same : def.term ≡ t = ap (λ o. unwrap_or o t) e in
      subst (λ u. IsSome (kind_of_term (kinds_in M.vars.items) u)) same (subst IsSome (sym one.kind) (kind_within M.vars.items def.var.index one.var))
  of_definition d None there e = let c : None ≡ Some t = e in cc

  module _ (totals : List Total) (each : (s : ℕ) (total : Total) (k : ℕ) (member : Member) → slice_get totals s ≡ Some total → slice_get total.members.items k ≡ Some member → IsMember M member) where
    of_member : (s k : ℕ) (total : Total) → slice_get totals s ≡ Some total → (member : Option Member) → slice_get total.members.items k ≡ member → option_map (λ (m : Member). m.term) member ≡ Some t → IsKinded
    of_member s k total there (Some member) at e =
        let same : member.term ≡ t = ap (λ o. unwrap_or o t) e in
        subst (λ u. IsSome (kind_of_term (kinds_in M.vars.items) u)) same (ap is_some (each s total k member there at).kind)
    of_member s k total there None at e = let c : None ≡ Some t = e in cc

    of_total : (s k : ℕ) (total : Option Total) → slice_get totals s ≡ total → option_map (λ (m : Member). m.term) (option_and_then (λ (t : Total). slice_get t.members.items k) total) ≡ Some t → IsKinded
    of_total s k (Some total) there e = of_member s k total there (slice_get total.members.items k) refl e
    of_total s k None there e = let c : None ≡ Some t = e in cc

  pub posted_kinded : (p : Posted) → Some t ≡ term_posted M p → IsKinded
  posted_kinded (Define d) e = of_definition d (slice_get M.defs.items d) refl (sym e)
  posted_kinded (Constrain s k) e = of_total M.systems.items formed.systems s k (slice_get M.systems.items s) refl (sym e)
  posted_kinded (Part o k) e = of_total M.objectives.items formed.objectives o k (slice_get M.objectives.items o) refl (sym e)

-- ---- equal terms come to the same, and fail alike
module _ (users : ℕ → NumberRule) (env : ℕ → Outcome) where
  abbrev IsAlike : Term → Type 0
  IsAlike t = (u : Term) → same_term t u ≡ true → outcome_of users env t ≡ outcome_of users env u

  abbrev Known : Type 0
  Known = (t : Term) × IsAlike t

  abbrev terms_of : List Known → List Term
  terms_of es = map (λ e. e.0) es

  args_alike : (es : List Known) (us : List Term) → all_pass (map same_term (terms_of es)) us ≡ true → map (outcome_of users env) (terms_of es) ≡ map (outcome_of users env) us
  args_alike [] [] h = refl
  args_alike [] (u ∷ us) h = let c : false ≡ true = h in cc
  args_alike (e ∷ es) [] h = let c : false ≡ true = h in cc
  args_alike (e ∷ es) (u ∷ us) h =
      let parts = and_parts (same_term e.0 u) (all_pass (map same_term (terms_of es)) us) h in
      ap (λ o. o ∷ map (outcome_of users env) (terms_of es)) (e.1 u parts.0) ∙ ap (λ os. outcome_of users env u ∷ os) (args_alike es us parts.1)

  abbrev step : Term-F Term → Outcome
  step y = outcome_step users env (map-Term Term Outcome (outcome_of users env) y)

  layer_alike : (y : Term-F Known) (z : Term-F Term) → same_layer (map-Term Term Test same_term (map-Term Known Term (λ e. e.0) y)) z ≡ true → step (map-Term Known Term (λ e. e.0) y) ≡ step z
  layer_alike (Term-F.Const x) (Term-F.Const x') h = ap (λ n. Some (Int n)) (sym ((Decides-int_eq x' x).0 h))
  layer_alike (Term-F.Const x) (Term-F.ConstSet s) h = let c : false ≡ true = h in cc
  layer_alike (Term-F.Const x) (Term-F.Var v) h = let c : false ≡ true = h in cc
  layer_alike (Term-F.Const x) (Term-F.Node op args place) h = let c : false ≡ true = h in cc
  layer_alike (Term-F.ConstSet s) (Term-F.Const x) h = let c : false ≡ true = h in cc
  layer_alike (Term-F.ConstSet s) (Term-F.ConstSet s') h = ap (λ n. Some (Set n)) (sym ((signed_items s' s).0 h))
  layer_alike (Term-F.ConstSet s) (Term-F.Var v) h = let c : false ≡ true = h in cc
  layer_alike (Term-F.ConstSet s) (Term-F.Node op args place) h = let c : false ≡ true = h in cc
  layer_alike (Term-F.Var v) (Term-F.Const x) h = let c : false ≡ true = h in cc
  layer_alike (Term-F.Var v) (Term-F.ConstSet s) h = let c : false ≡ true = h in cc
  layer_alike (Term-F.Var v) (Term-F.Var v') h = ap env (sym (eq_of v'.index v.index h))
  layer_alike (Term-F.Var v) (Term-F.Node op args place) h = let c : false ≡ true = h in cc
  layer_alike (Term-F.Node op args place) (Term-F.Const x) h = let c : false ≡ true = h in cc
  layer_alike (Term-F.Node op args place) (Term-F.ConstSet s) h = let c : false ≡ true = h in cc
  layer_alike (Term-F.Node op args place) (Term-F.Var v) h = let c : false ≡ true = h in cc
  layer_alike (Term-F.Node op args place) (Term-F.Node op' args' place') h =
      let parts = and_parts (same_operation op' op) (all_pass (map same_term (terms_of args.items)) args'.items) h in
      ap (λ os. operated users op (gathered os)) (args_alike args.items args'.items parts.1) ∙ ap (λ o. operated users o (gathered (map (outcome_of users env) args'.items))) (sym (same_is_equal op' op parts.0))

  rolled_alike : (z : Term-F Term) → ((u : Term-F Term) → same_layer (map-Term Term Test same_term z) u ≡ true → step z ≡ step u) → IsAlike (roll-Term z)
  rolled_alike z h u same =
      fold-roll-Term Outcome (outcome_step users env) z ∙ h (out-Term u) (sym (same_roll z u) ∙ same)
      ∙ sym (ap (outcome_of users env) (sym (roll_out u)) ∙ fold-roll-Term Outcome (outcome_step users env) (out-Term u))

  pub outcomes_alike : (t : Term) → IsAlike t
  outcomes_alike = ind-Term IsAlike (λ x y is. subst (λ z. IsAlike (roll-Term z)) is (rolled_alike (map-Term Known Term (λ e. e.0) y) (layer_alike y)))

  all_alike : (ts us : List Term) → all_pass (map same_term ts) us ≡ true → map (outcome_of users env) ts ≡ map (outcome_of users env) us
  all_alike [] [] h = refl
  all_alike [] (u ∷ us) h = let c : false ≡ true = h in cc
  all_alike (t ∷ ts) [] h = let c : false ≡ true = h in cc
  all_alike (t ∷ ts) (u ∷ us) h =
      let parts = and_parts (same_term t u) (all_pass (map same_term ts) us) h in
      ap (λ o. o ∷ map (outcome_of users env) ts) (outcomes_alike t u parts.0) ∙ ap (λ os. outcome_of users env u ∷ os) (all_alike ts us parts.1)

  in_alike : (place place' : Place) (value : Result Input RunFault) → is_some (failure_in place value) ≡ is_some (failure_in place' value)
  in_alike place place' (Ok x) = refl
  in_alike place place' (Err fault) = refl

  by_alike : (op : Op) (place place' : Place) (values : Option (List Input)) → is_some (failure_by users op place values) ≡ is_some (failure_by users op place' values)
  by_alike op place place' (Some xs) = in_alike place place' ((rule_of users op).value xs)
  by_alike op place place' None = refl

  at_alike : (y z : Term-F Term) → same_layer (map-Term Term Test same_term y) z ≡ true → is_some (failure_at users env y) ≡ is_some (failure_at users env z)
  at_alike (Term-F.Const x) (Term-F.Const x') h = refl
  at_alike (Term-F.Const x) (Term-F.ConstSet s) h = refl
  at_alike (Term-F.Const x) (Term-F.Var v) h = refl
  at_alike (Term-F.Const x) (Term-F.Node op args place) h = let c : false ≡ true = h in cc
  at_alike (Term-F.ConstSet s) (Term-F.Const x) h = refl
  at_alike (Term-F.ConstSet s) (Term-F.ConstSet s') h = refl
  at_alike (Term-F.ConstSet s) (Term-F.Var v) h = refl
  at_alike (Term-F.ConstSet s) (Term-F.Node op args place) h = let c : false ≡ true = h in cc
  at_alike (Term-F.Var v) (Term-F.Const x) h = refl
  at_alike (Term-F.Var v) (Term-F.ConstSet s) h = refl
  at_alike (Term-F.Var v) (Term-F.Var v') h = refl
  at_alike (Term-F.Var v) (Term-F.Node op args place) h = let c : false ≡ true = h in cc
  at_alike (Term-F.Node op args place) (Term-F.Const x) h = let c : false ≡ true = h in cc
  at_alike (Term-F.Node op args place) (Term-F.ConstSet s) h = let c : false ≡ true = h in cc
  at_alike (Term-F.Node op args place) (Term-F.Var v) h = let c : false ≡ true = h in cc
  at_alike (Term-F.Node op args place) (Term-F.Node op' args' place') h =
      let parts = and_parts (same_operation op' op) (all_pass (map same_term args.items) args'.items) h in
      ap (λ os. is_some (failure_by users op place (gathered os))) (all_alike args.items args'.items parts.1)
      ∙ ap (λ o. is_some (failure_by users o place (gathered (map (outcome_of users env) args'.items)))) (sym (same_is_equal op' op parts.0))
      ∙ by_alike op' place place' (gathered (map (outcome_of users env) args'.items))

  pub fails_alike : (t u : Term) → same_term t u ≡ true → fails users env t ≡ fails users env u
  fails_alike t u h = at_alike (out-Term t) (out-Term u) (sym (same_out t u) ∙ h)

-- ---- the first with two properties
filter_at : (q : Test) (x : Term) (xs : List Term) (b : Bool) → q x ≡ b → filter q (x ∷ xs) ≡ cond b (x ∷ filter q xs) (filter q xs)
filter_at q x xs b e = ap (λ c. cond c (x ∷ filter q xs) (filter q xs)) e

find_at : (p : Test) (x : Term) (xs : List Term) (b : Bool) → p x ≡ b → find p (x ∷ xs) ≡ cond b (Some x) (find p xs)
find_at p x xs b e = ap (λ c. cond c (Some x) (find p xs)) e

pub find_filter : (p q : Test) (xs : List Term) → find p (filter q xs) ≡ find (λ x. q x && p x) xs
find_filter p q [] = refl
find_filter p q (x ∷ xs) = cases (q x) refl (find_filter p q xs)
  where
    cases : (b : Bool) → q x ≡ b → find p (filter q xs) ≡ find (λ y. q y && p y) xs → find p (filter q (x ∷ xs)) ≡ find (λ y. q y && p y) (x ∷ xs)
    cases true e later =
        ap (find p) (filter_at q x xs true e) ∙ ap (cond (p x) (Some x)) later ∙ sym (ap (λ b. cond (b && p x) (Some x) (find (λ y. q y && p y) xs)) e)
    cases false e later = ap (find p) (filter_at q x xs false e) ∙ later ∙ sym (ap (λ b. cond (b && p x) (Some x) (find (λ y. q y && p y) xs)) e)

find_same : (p q : Test) → ((t : Term) → p t ≡ q t) → (xs : List Term) → find p xs ≡ find q xs
find_same p q same [] = refl
find_same p q same (x ∷ xs) = ap (λ b. cond b (Some x) (find p xs)) (same x) ∙ ap (cond (q x) (Some x)) (find_same p q same xs)

pub find_first : (p : Test) (xs : List Term) → find p xs ≡ slice_get (filter p xs) 0
find_first p [] = refl
find_first p (x ∷ xs) = cases (p x) refl (find_first p xs)
  where
    cases : (b : Bool) → p x ≡ b → find p xs ≡ slice_get (filter p xs) 0 → find p (x ∷ xs) ≡ slice_get (filter p (x ∷ xs)) 0
    cases true e later = find_at p x xs true e ∙ sym (ap (λ ts. slice_get ts 0) (filter_at p x xs true e))
    cases false e later = find_at p x xs false e ∙ later ∙ sym (ap (λ ts. slice_get ts 0) (filter_at p x xs false e))

any_filter : (p q : Test) (xs : List Term) → ((x : Term) → p x ≡ true → q x ≡ true) → list_any p xs ≡ list_any p (filter q xs)
any_filter p q [] within = refl
any_filter p q (x ∷ xs) within = cases (q x) refl (any_filter p q xs within)
  where
    not_p : (b : Bool) → p x ≡ b → q x ≡ false → b ≡ false
    not_p true e f = let c : true ≡ false = sym (within x e) ∙ f in cc
    not_p false e f = refl

    cases : (b : Bool) → q x ≡ b → list_any p xs ≡ list_any p (filter q xs) → list_any p (x ∷ xs) ≡ list_any p (filter q (x ∷ xs))
    cases true e later = ap (λ b. p x || b) later ∙ sym (ap (list_any p) (filter_at q x xs true e))
    cases false e later = ap (λ b. b || list_any p xs) (not_p (p x) refl e) ∙ later ∙ sym (ap (list_any p) (filter_at q x xs false e))

module _ (users : ℕ → NumberRule) (env : ℕ → Outcome) (supporting : List Term) where
  abbrev stands : Test
  stands t = list_any (same_term t) supporting

  stands_alike : (t u : Term) → same_term t u ≡ true → stands t ≡ stands u
  stands_alike t u h = any_same (same_term t) (same_term u) (λ v. same_congruent t u v h) supporting

  both_alike : (t u : Term) → same_term t u ≡ true → (stands t && fails users env t) ≡ (stands u && fails users env u)
  both_alike t u h = ap (λ b. b && fails users env t) (stands_alike t u h) ∙ ap (λ b. stands u && b) (fails_alike users env t u h)

  same_test : (t : Term) → (stands t && fails users env t) ≡ (fails users env t && list_any (same_term t) (filter (fails users env) supporting))
  same_test t = cases (fails users env t) refl
    where
      last : (a b : Bool) → a ≡ b → (a && true) ≡ b
      last true b e = e
      last false b e = e

      none : (a : Bool) → (a && false) ≡ false
      none true = refl
      none false = refl

      cases : (b : Bool) → fails users env t ≡ b → (stands t && b) ≡ (b && list_any (same_term t) (filter (fails users env) supporting))
      cases true e = last (stands t) (list_any (same_term t) (filter (fails users env) supporting)) (any_filter (same_term t) (fails users env) supporting (λ s h. sym (fails_alike users env t s h) ∙ e))
      cases false e = none (stands t)

  pub least_among : (ts : List Term) → find (fails users env) (filter stands (once ts)) ≡ find (λ t. list_any (same_term t) (filter (fails users env) supporting)) (filter (fails users env) ts)
  least_among ts =
      find_filter (fails users env) stands (once ts)
      ∙ once_find (λ t. stands t && fails users env t) ts both_alike
      ∙ find_same (λ t. stands t && fails users env t) (λ t. fails users env t && list_any (same_term t) (filter (fails users env) supporting)) same_test ts
      ∙ sym (find_filter (λ t. list_any (same_term t) (filter (fails users env) supporting)) (fails users env) ts)

pub first_failing : (users : ℕ → NumberRule) (env : ℕ → Outcome) (M : Model) (found : Option Failure) (none : Failure) →
    option_and_then (failure_of users env) (slice_get (filter (fails users env) (subterms_posted M M.posted.items)) 0) ≡ found → unwrap_or found none ≡ unwrap_or (first_failure users env (distinct_subterms M)) none
first_failing users env M found none e =
    ap (λ o. unwrap_or o none) (sym e ∙ ap (option_and_then (failure_of users env))
    (sym (once_find (fails users env) (subterms_posted M M.posted.items) (fails_alike users env) ∙ find_first (fails users env) (subterms_posted M M.posted.items))))

pub first_below : (users : ℕ → NumberRule) (env : ℕ → Outcome) (M : Model) (whole : Whole) (found : Option Failure) (none : Failure) →
    option_and_then (failure_of users env) (find (λ t. list_any (same_term t) (filter (fails users env) (subterms_posted M (filter (supports M whole) M.posted.items)))) (filter (fails users env) (subterms_posted M M.posted.items))) ≡ found →
    unwrap_or found none ≡ unwrap_or (failure_below users M env whole) none
first_below users env M whole found none e =
    ap (λ o. unwrap_or o none) (sym e ∙ ap (option_and_then (failure_of users env))
    (sym (least_among users env (subterms_posted M (filter (supports M whole) M.posted.items)) (subterms_posted M M.posted.items))))

-- ---- subterms that fail, one after another
module _ (users : ℕ → NumberRule) (env : ℕ → Outcome) where
  abbrev failing_in : List Term → List Term
  failing_in ts = filter (fails users env) ts

  pub adds_none : (before ts : List Term) (found : List Failing) → failing_in ts ≡ [] → AreFailing users env found before → AreFailing users env found (before ++ failing_in ts)
  adds_none before ts found none are = subst (λ us. AreFailing users env found us) (sym (ap (λ us. before ++ us) none ∙ append-nil before)) are

  joined-append : (tss : List (List Term)) (ts : List Term) → joined_terms (tss ++ ts ∷ []) ≡ joined_terms tss ++ ts
  joined-append [] ts = append-nil ts
  joined-append (us ∷ tss) ts = ap (λ vs. us ++ vs) (joined-append tss ts) ∙ sym (append_assoc us (joined_terms tss) ts)

  pub failing_more : {X : Type 0} (f : X → List Term) (items : List X) (i : ℕ) (item : X) (before : List Term) → i < length items → item ≡ get_or items i item →
      (before ++ failing_in (joined_terms (map f (take i items)))) ++ failing_in (f item) ≡ before ++ failing_in (joined_terms (map f (take (i + 1) items)))
  failing_more f items i item before lt is =
      let so_far = joined_terms (map f (take i items)) in
      let more : joined_terms (map f (take (i + 1) items)) ≡ so_far ++ f item =
      ap joined_terms (map_more f items i item lt) ∙ joined-append (map f (take i items)) (f (get_or items i item)) ∙ ap (λ u. so_far ++ f u) (sym is) in
      append_assoc before (failing_in so_far) (failing_in (f item)) ∙ ap (λ us. before ++ us) (sym (ap failing_in more ∙ filter-append (fails users env) so_far (f item)))

  -- a node fails where its operation has no value of its arguments' values
  pub failure_of_node : (t : Term) (op : Op) (args : Vec Term Global) (place : Place) (items : List Term) (values : Option (List Input)) → t ≡ Node op args place → items ≡ args.items →
      values ≡ gathered (map (outcome_of users env) items) → failure_of users env t ≡ failure_by users op place values
  failure_of_node t op args place items values e same h =
      ap (failure_at users env) (ap out-Term (e ∙ sym (rolls-Node op args place)) ∙ out-roll-Term (Term-F.Node op args place))
      ∙ ap (failure_by users op place) (sym (h ∙ ap (λ ts. gathered (map (outcome_of users env) ts)) same))

  one_filtered : (t : Term) (b : Bool) → fails users env t ≡ b → failing_in (t ∷ []) ≡ cond b (t ∷ []) []
  one_filtered t b e = filter_at (fails users env) t [] b e

  failing_node : (t : Term) (op : Op) (args : Vec Term Global) (place : Place) (items : List Term) (before : List Term) (b : Bool) → t ≡ Node op args place → items ≡ args.items → fails users env t ≡ b →
      (before ++ failing_in (joined_terms (map subterms items))) ++ cond b (t ∷ []) [] ≡ before ++ failing_in (subterms t)
  failing_node t op args place items before b e same is =
      append_assoc before (failing_in (joined_terms (map subterms items))) (cond b (t ∷ []) [])
      ∙ ap (λ us. before ++ us) (sym (ap failing_in (subterms_node t op args place e ∙ ap (λ ts. joined_terms (map subterms ts) ++ t ∷ []) (sym same))
      ∙ filter-append (fails users env) (joined_terms (map subterms items)) (t ∷ [])
      ∙ ap (λ us. failing_in (joined_terms (map subterms items)) ++ us) (one_filtered t b is)))

  -- one that doesn't fail adds nothing behind its arguments' subterms, one that does itself
  pub node_has_value : (t : Term) (op : Op) (args : Vec Term Global) (place : Place) (items : List Term) (values : Option (List Input)) (found : List Failing) (before : List Term) → t ≡ Node op args place → items ≡ args.items →
      values ≡ gathered (map (outcome_of users env) items) → failure_by users op place values ≡ None → AreFailing users env found (before ++ failing_in (joined_terms (map subterms items))) →
      AreFailing users env found (before ++ failing_in (subterms t))
  node_has_value t op args place items values found before e same h none are =
      let not : fails users env t ≡ false = ap is_some (failure_of_node t op args place items values e same h ∙ none) in
      subst (AreFailing users env found) (sym (append-nil _) ∙ failing_node t op args place items before false e same not) are

  pub found_push : (found after : List Failing) (terms : List Term) (t : Term) (f : Failing) → f.term.now ≡ t → failure_of users env t ≡ Some f.failure → after ≡ found ++ f ∷ [] → AreFailing users env found terms → AreFailing users env after (terms ++ t ∷ [])
  found_push found after terms t f is fails' next are = subst (λ fs. AreFailing users env fs (terms ++ t ∷ [])) (sym next) (record {
    named = map-push found f ∙ ap (λ ts. ts ++ f.term.now ∷ []) are.named ∙ ap (λ u. terms ++ u ∷ []) is;
    failures = λ k g there. one (last_or found f k g there);
  })
    where
      map-push : (fs : List Failing) (g : Failing) → map (λ (h : Failing). h.term.now) (fs ++ g ∷ []) ≡ map (λ (h : Failing). h.term.now) fs ++ g.term.now ∷ []
      map-push [] g = refl
      map-push (h ∷ fs) g = ap (λ ts. h.term.now ∷ ts) (map-push fs g)

      one : {k : ℕ} {g : Failing} → (slice_get found k ≡ Some g) ⊎ ((k ≡ length found) × (g ≡ f)) → failure_of users env g.term.now ≡ Some g.failure
      one {k} {g} (inl there) = are.failures k g there
      one {k} {g} (inr last) = subst (λ (h : Failing). failure_of users env h.term.now ≡ Some h.failure) (sym last.1) (ap (failure_of users env) is ∙ fails')

  pub node_fails : (t : Term) (op : Op) (args : Vec Term Global) (place : Place) (items : List Term) (values : Option (List Input)) (found after : List Failing) (before : List Term) (f : Failing) → t ≡ Node op args place → items ≡ args.items →
      values ≡ gathered (map (outcome_of users env) items) → failure_by users op place values ≡ Some f.failure → f.term.now ≡ t → after ≡ found ++ f ∷ [] →
      AreFailing users env found (before ++ failing_in (joined_terms (map subterms items))) → AreFailing users env after (before ++ failing_in (subterms t))
  node_fails t op args place items values found after before f e same h some is next are =
      let whole = failure_of_node t op args place items values e same h ∙ some in
      subst (AreFailing users env after) (failing_node t op args place items before true e same (ap is_some whole)) (found_push found after (before ++ failing_in (joined_terms (map subterms items))) t f is whole next are)

  -- a leaf never fails
  pub leaf_adds : (t : Term) (found : List Failing) (before : List Term) → failure_of users env t ≡ None → (subterms t ≡ t ∷ []) → AreFailing users env found before → AreFailing users env found (before ++ failing_in (subterms t))
  leaf_adds t found before none alone are = adds_none before (subterms t) found (ap failing_in alone ∙ one_filtered t false (ap is_some none)) are

-- ---- what was posted
pub none_posted : (users : ℕ → NumberRule) (env : ℕ → Outcome) (found : List Failing) (term : Option Term) → None ≡ term → (before : List Term) → AreFailing users env found before → AreFailing users env found (before ++ filter (fails users env) (subterms_where term))
none_posted users env found term e before are = subst (λ o. AreFailing users env found (before ++ filter (fails users env) (subterms_where o))) e (subst (AreFailing users env found) (sym (append-nil before)) are)

pub some_posted : (users : ℕ → NumberRule) (env : ℕ → Outcome) (found : List Failing) (t : Term) (term : Option Term) (before : List Term) → Some t ≡ term → AreFailing users env found (before ++ filter (fails users env) (subterms t)) →
    AreFailing users env found (before ++ filter (fails users env) (subterms_where term))
some_posted users env found t term before e are = subst (λ o. AreFailing users env found (before ++ filter (fails users env) (subterms_where o))) e are

module _ (users : ℕ → NumberRule) (env : ℕ → Outcome) (M : Model) (whole : Whole) (p : Posted) where
  posted_if : (b : Bool) → supports M whole p ≡ b → subterms_posted M (filter (supports M whole) (p ∷ [])) ≡ subterms_posted M (cond b (p ∷ []) [])
  posted_if b e = ap (λ c. subterms_posted M (cond c (p ∷ []) [])) e

  pub one_supports : (found : List Failing) (before : List Term) → supports M whole p ≡ true → AreFailing users env found (before ++ filter (fails users env) (subterms_where (term_posted M p))) →
      AreFailing users env found (before ++ filter (fails users env) (subterms_posted M (filter (supports M whole) (p ∷ []))))
  one_supports found before e are =
      subst (λ ts. AreFailing users env found (before ++ filter (fails users env) ts)) (sym (posted_if true e ∙ append-nil (subterms_where (term_posted M p)))) are

  pub none_supports : (found : List Failing) (before : List Term) → supports M whole p ≡ false → AreFailing users env found before →
      AreFailing users env found (before ++ filter (fails users env) (subterms_posted M (filter (supports M whole) (p ∷ []))))
  none_supports found before e are =
      subst (λ ts. AreFailing users env found (before ++ filter (fails users env) ts)) (sym (posted_if false e)) (subst (AreFailing users env found) (sym (append-nil before)) are)

or_none : (a b : Bool) → a ≡ false → b ≡ false → (a || b) ≡ false
or_none true b e f = let c : true ≡ false = e in cc
or_none false b e f = f

or_second : (a b : Bool) → b ≡ true → (a || b) ≡ true
or_second true b f = refl
or_second false b f = f

cond_none : (b : Bool) (t : Term) (o : Option Term) → cond b (Some t) o ≡ None → (b ≡ false) × (o ≡ None)
cond_none true t o h = let c : Some t ≡ None = h in cc
cond_none false t o h = (refl, h)

-- one turn more
pub failing_turn : (users : ℕ → NumberRule) (env : ℕ → Outcome) (M : Model) (k : ℕ) (p : Posted) → k < length M.posted.items → p ≡ get_or M.posted.items k p →
    filter (fails users env) (subterms_posted M (take k M.posted.items)) ++ filter (fails users env) (subterms_where (term_posted M p)) ≡ filter (fails users env) (subterms_posted M (take (k + 1) M.posted.items))
failing_turn users env M k p lt is = failing_more users env (λ q. subterms_where (term_posted M q)) M.posted.items k p [] lt is

joined-both : (xss yss : List (List Term)) → joined_terms (xss ++ yss) ≡ joined_terms xss ++ joined_terms yss
joined-both [] yss = refl
joined-both (xs ∷ xss) yss = ap (λ ts. xs ++ ts) (joined-both xss yss) ∙ sym (append_assoc xs (joined_terms xss) (joined_terms yss))

posted-both : (M : Model) (ps qs : List Posted) → subterms_posted M (ps ++ qs) ≡ subterms_posted M ps ++ subterms_posted M qs
posted-both M ps qs = ap joined_terms (map-append (λ q. subterms_where (term_posted M q)) ps qs) ∙ joined-both (map (λ q. subterms_where (term_posted M q)) ps) (map (λ q. subterms_where (term_posted M q)) qs)

pub supporting_turn : (users : ℕ → NumberRule) (env : ℕ → Outcome) (M : Model) (whole : Whole) (k : ℕ) (p : Posted) → k < length M.posted.items → p ≡ get_or M.posted.items k p →
    filter (fails users env) (subterms_posted M (filter (supports M whole) (take k M.posted.items))) ++ filter (fails users env) (subterms_posted M (filter (supports M whole) (p ∷ [])))
    ≡ filter (fails users env) (subterms_posted M (filter (supports M whole) (take (k + 1) M.posted.items)))
supporting_turn users env M whole k p lt is =
    sym (ap (λ ps. filter (fails users env) (subterms_posted M (filter (supports M whole) ps))) (take_more M.posted.items k p lt ∙ ap (λ q. take k M.posted.items ++ q ∷ []) (sym is))
    ∙ ap (λ ps. filter (fails users env) (subterms_posted M ps)) (filter-append (supports M whole) (take k M.posted.items) (p ∷ []))
    ∙ ap (filter (fails users env)) (posted-both M (filter (supports M whole) (take k M.posted.items)) (filter (supports M whole) (p ∷ [])))
    ∙ filter-append (fails users env) (subterms_posted M (filter (supports M whole) (take k M.posted.items))) (subterms_posted M (filter (supports M whole) (p ∷ []))))

pub none_found : (users : ℕ → NumberRule) (env : ℕ → Outcome) (found : List Failing) → found ≡ [] → AreFailing users env found []
none_found users env found e = subst (λ fs. AreFailing users env fs []) (sym e) (record { named = refl; failures = λ k f there. let c : None ≡ Some f = there in cc })

pub any_here : (p : Test) (found : List Failing) (k : ℕ) (f : Failing) → k < length found → f ≡ get_or found k f → p f.term.now ≡ true → list_any p (map (λ (g : Failing). g.term.now) found) ≡ true
any_here p [] k f lt is one = absurd (omega (arith, lt))
any_here p (g ∷ found) zero f lt is one = ap (λ b. b || list_any p (map (λ (g : Failing). g.term.now) found)) (ap (λ (h : Failing). p h.term.now) (sym is) ∙ one)
any_here p (g ∷ found) (suc k) f lt is one = or_second (p g.term.now) (list_any p (map (λ (g : Failing). g.term.now) found)) (any_here p found k f (omega (arith, lt)) is one)

pub find_more : (p : Test) (found : List Failing) (k : ℕ) (f : Failing) → k < length found → f ≡ get_or found k f → find p (map (λ (g : Failing). g.term.now) (take k found)) ≡ None → p f.term.now ≡ false →
    find p (map (λ (g : Failing). g.term.now) (take (k + 1) found)) ≡ None
find_more p [] k f lt is all one = absurd (omega (arith, lt))
find_more p (g ∷ found) zero f lt is all one = ap (λ b. cond b (Some g.term.now) None) (ap (λ (h : Failing). p h.term.now) (sym is) ∙ one)
find_more p (g ∷ found) (suc k) f lt is all one =
    let step : suc k + 1 ≡ suc (k + 1) = omega arith in
    let parts = cond_none (p g.term.now) g.term.now (find p (map (λ (g : Failing). g.term.now) (take k found))) all in
    rw step (ap (λ b. cond b (Some g.term.now) (find p (map (λ (g : Failing). g.term.now) (take (k + 1) found)))) parts.0 ∙ find_more p found k f (omega (arith, lt)) is parts.1 one)

pub find_here : (p : Test) (found : List Failing) (k : ℕ) (f : Failing) → k < length found → f ≡ get_or found k f → find p (map (λ (g : Failing). g.term.now) (take k found)) ≡ None → p f.term.now ≡ true →
    find p (map (λ (g : Failing). g.term.now) found) ≡ Some f.term.now
find_here p [] k f lt is all one = absurd (omega (arith, lt))
find_here p (g ∷ found) zero f lt is all one =
    ap (λ b. cond b (Some g.term.now) (find p (map (λ (g : Failing). g.term.now) found))) (ap (λ (h : Failing). p h.term.now) (sym is) ∙ one) ∙ ap (λ (h : Failing). Some h.term.now) (sym is)
find_here p (g ∷ found) (suc k) f lt is all one =
    let parts = cond_none (p g.term.now) g.term.now (find p (map (λ (g : Failing). g.term.now) (take k found))) all in
    ap (λ b. cond b (Some g.term.now) (find p (map (λ (g : Failing). g.term.now) found))) parts.0 ∙ find_here p found k f (omega (arith, lt)) is parts.1 one

got_at : (found : List Failing) (k : ℕ) (f : Failing) → k < length found → f ≡ get_or found k f → slice_get found k ≡ Some f
got_at [] k f lt is = absurd (omega (arith, lt))
got_at (g ∷ found) zero f lt is = ap Some (sym is)
got_at (g ∷ found) (suc k) f lt is = got_at found k f (omega (arith, lt)) is

module _ (users : ℕ → NumberRule) (env : ℕ → Outcome) (failing others : List Failing) (ts us : List Term) (are : AreFailing users env failing ts) (those : AreFailing users env others us) where
  pub among_here : (k : ℕ) (f : Failing) → k < length failing → f ≡ get_or failing k f →
      find (λ t. list_any (same_term t) (map (λ (g : Failing). g.term.now) others)) (map (λ (g : Failing). g.term.now) (take k failing)) ≡ None → list_any (same_term f.term.now) (map (λ (g : Failing). g.term.now) others) ≡ true →
      option_and_then (failure_of users env) (find (λ t. list_any (same_term t) us) ts) ≡ Some f.failure
  among_here k f lt is all one =
      ap (λ vs. option_and_then (failure_of users env) (find (λ t. list_any (same_term t) vs) ts)) (sym those.named)
      ∙ ap (λ vs. option_and_then (failure_of users env) (find (λ t. list_any (same_term t) (map (λ (g : Failing). g.term.now) others)) vs)) (sym are.named)
      ∙ ap (option_and_then (failure_of users env)) (find_here (λ t. list_any (same_term t) (map (λ (g : Failing). g.term.now) others)) failing k f lt is all one)
      ∙ are.failures k f (got_at failing k f lt is)

  pub among_none : (k : ℕ) → length failing ≤ k → find (λ t. list_any (same_term t) (map (λ (g : Failing). g.term.now) others)) (map (λ (g : Failing). g.term.now) (take k failing)) ≡ None →
      option_and_then (failure_of users env) (find (λ t. list_any (same_term t) us) ts) ≡ None
  among_none k le all =
      ap (λ vs. option_and_then (failure_of users env) (find (λ t. list_any (same_term t) vs) ts)) (sym those.named)
      ∙ ap (λ vs. option_and_then (failure_of users env) (find (λ t. list_any (same_term t) (map (λ (g : Failing). g.term.now) others)) vs)) (sym are.named)
      ∙ ap (λ fs. option_and_then (failure_of users env) (find (λ t. list_any (same_term t) (map (λ (g : Failing). g.term.now) others)) (map (λ (g : Failing). g.term.now) fs))) (sym (take_all k failing le))
      ∙ ap (option_and_then (failure_of users env)) all

pub first_there : (users : ℕ → NumberRule) (env : ℕ → Outcome) (failing : List Failing) (ts : List Term) (f : Failing) → AreFailing users env failing ts → slice_get failing 0 ≡ Some f → option_and_then (failure_of users env) (slice_get ts 0) ≡ Some f.failure
first_there users env [] ts f are there = let c : None ≡ Some f = there in cc
first_there users env (g ∷ failing) ts f are there =
    ap (λ us. option_and_then (failure_of users env) (slice_get us 0)) (sym are.named) ∙ are.failures 0 g refl ∙ ap (λ (o : Option Failing). option_map (λ (h : Failing). h.failure) o) there

-- ---- what supports a system or an objective, by the marks on the variables that are reached
module _ (M : Model) (formed : IsWellFormed M) (whole : Whole) (marks : List Bool) (are : AreReached M (roots_in M whole M.posted.items) marks) (number : ℕ) (p : Posted) (posted : p ≡ Define number) where
  by_found : (found : Option Definition) → slice_get M.defs.items number ≡ found → unwrap_or (option_map (λ (d : Definition). one_depends M (roots_in M whole M.posted.items) d.var.index) found) false ≡ supports M whole p
  by_found found here = sym (ap (supports M whole) posted ∙ ap (λ o. unwrap_or (option_map (λ (d : Definition). one_depends M (roots_in M whole M.posted.items) d.var.index) o) false) here)

  pub supports_define : (var : ℕ) → Some var ≡ option_map (λ (d : Definition). d.var.index) (slice_get M.defs.items number) → marked marks var ≡ supports M whole p
  supports_define var there = at (slice_get M.defs.items number) refl there
    where
      at : (found : Option Definition) → slice_get M.defs.items number ≡ found → Some var ≡ option_map (λ (d : Definition). d.var.index) found → marked marks var ≡ supports M whole p
      at None here e = let c : Some var ≡ None = e in cc
      at (Some def) here e =
          ap (λ o. marked marks (unwrap_or o var)) e
          ∙ ap (λ o. unwrap_or o false) (are def.var.index (formed.defs number def here).var)
          ∙ by_found (Some def) here

  pub supports_none : None ≡ option_map (λ (d : Definition). d.var.index) (slice_get M.defs.items number) → false ≡ supports M whole p
  supports_none there = at (slice_get M.defs.items number) refl there
    where
      at : (found : Option Definition) → slice_get M.defs.items number ≡ found → None ≡ option_map (λ (d : Definition). d.var.index) found → false ≡ supports M whole p
      at None here e = by_found None here
      at (Some def) here e = let c : None ≡ Some def.var.index = e in cc
