-- A total stands on the ids of the variables and subterms on which its system or objective stands, and on no others
-- but itself and its weights.
use Rattle.std.proofs.Common.{◌≡◌, ◌⊎◌, inl, inr, ℕ, ℤ, zero, suc, ◌+◌, ◌-◌, ◌<◌, ◌≤◌, Bool, true, false, cond, List, [], ◌∷◌, ◌++◌, map, fold, Option, Some, None, is_some, length, refl, sym, ap, ◌∙◌, subst, slice_get, All, Contains, arith}
use Rattle.std.specs.Prelude.{filter, nat_eq, unwrap_or, if◌then◌else◌}
use Rattle.std.specs.Option.{option_and_then, option_map}
use Rattle.std.specs.List.{cons_option, list_any, list_all, filter_map, range_with_len}
use Rattle.std.proofs.lemmas.Option.{slice_get_within}
use Rattle.std.proofs.lemmas.List.Elements.{All-nil, All-cons, All-head, All-tail, All-append, All-weaker, All-contains, All-contains_itself, Contains-append_cases, Contains-append_left, Contains-append_right, Contains-push}
use Rattle.cbl_base.specs.NumberRule.{NumberRule}
use Rattle.model_values.specs.Dependence.{depends_through, var_depends}
use Rattle.model_values.specs.Support.{member_in, one_depends, roots_in, stands_on, supports, vars_in}
use Rattle.model_values.specs.declared.wholes.Whole.{Whole}
use Rattle.model_values.specs.declared.wholes.Whole.TheVariants.{System, Objective}
use Rattle.model_values.proofs.FailureLaws.{posted_kinded}
use Rattle.model_values.proofs.MarkLaws.{depends_step}
use Rattle.model_values.proofs.ReachLaws.{roots_within}
use Rattle.store_build.proofs.GatherLemmas.{before_first, past_first}
use Rattle.store_turns.specs.Cones.{Among, StandsOn, itself, below}
use Rattle.store_turns.specs.Meaning.{Graph}
use Rattle.term_count.specs.Codes.{IsNode, is_known}
use Rattle.term_count.proofs.PlaceLaws.{and_parts, known_front}
use Rattle.term_graph.proofs.SharedLaws.{ids_alike}
use Rattle.term_model.specs.Definitions.{IsAcyclic, definition_of, is_of, joined, named_by, note, term_of, vars_named, vars_of, vars_step}
use Rattle.term_model.specs.Kinds.{kinds_in}
use Rattle.term_model.specs.Posting.{term_posted}
use Rattle.term_model.specs.SameTerms.{same_term}
use Rattle.term_model.specs.Subterms.{arguments_of, distinct_subterms, joined_terms, subterms, subterms_posted, subterms_where}
use Rattle.term_model.specs.Wellformed.{IsWellFormed}
use Rattle.term_model.specs.declared.model.Definition.{Definition}
use Rattle.term_model.specs.declared.model.Member.{Member}
use Rattle.term_model.specs.declared.model.Model.{Model}
use Rattle.term_model.specs.declared.model.Posted.{Posted}
use Rattle.term_model.specs.declared.model.Posted.TheVariants.{Define, Constrain, Part}
use Rattle.term_model.specs.declared.posting.Side.TheVariants.{Systems}
use Rattle.term_model.specs.declared.term.Term.{Term}
use Rattle.term_model.specs.declared.term.Term.TheOpen.{Term-F}
use Rattle.term_model.specs.declared.term.Term.TheViews.{out-Term, out-roll-Term, roll-Term}
use Rattle.term_model.specs.declared.term.Term.TheFolds.{fold-roll-Term, ind-Term, map-Term}
use Rattle.term_model.proofs.SubtermLaws.{once_all, subterms_roll}
use Rattle.term_model.proofs.UsableLaws.{no_member}
use Rattle.term_model.proofs.VarLaws.{definition_found}
use Rattle.graph_values.specs.Graphs.{HoldsTerms, id_of, inputs_of_cell, inputs_of_node, term_at, term_defined}
use Rattle.graph_values.specs.Members.{cells_of, members_before, members_of, variables_of}
use Rattle.graph_values.specs.Totals.{AreConstants, AreWeights, IsConstant, IsTotal}
use Rattle.graph_values.proofs.Arguments.{IsPlaced, any_back, arguments_there, closed, known_back, placed_posted}
use Rattle.term_graph.specs.Ids.{id_by}
use Rattle.graph_values.proofs.KindedTerms.{HasKind, arguments_kinded, deep}
use Rattle.graph_values.proofs.ModelTotals.{all_filtered, member_term}
use Rattle.graph_values.proofs.WeightCells.{no_definition, weight_within}
use Rattle.store_laws.specs.Standing.{IsBelow, IsWeightBelow}
use Rattle.store_laws.proofs.Depends.{any_out, at_zero, either, eq_of, reach_on, root_reached}
use Rattle.store_laws.proofs.Terms.{OfVars, StandsIn, all_itself, any_all, id_at, inputs_alike, known_more, known_of, of_arguments, of_subterms, of_variable, one_or, other_or, stands_alike, stands_of, view}

-- ---- lists
all_both : {X : Type 0} (P Q : X → Type 0) (xs : List X) → All P xs → All Q xs → All (λ x. P x × Q x) xs
all_both P Q [] p q = All-nil (λ x. P x × Q x)
all_both P Q (x ∷ xs) p q = All-cons (λ x. P x × Q x) x xs (All-head P x xs p, All-head Q x xs q) (all_both P Q xs (All-tail P x xs p) (All-tail Q x xs q))

left_all : {X : Type 0} (P : X → Type 0) (xs ys : List X) → All P (xs ++ ys) → All P xs
left_all P [] ys all = All-nil P
left_all P (x ∷ xs) ys all = All-cons P x xs (All-head P x (xs ++ ys) all) (left_all P xs ys (All-tail P x (xs ++ ys) all))

right_all : {X : Type 0} (P : X → Type 0) (xs ys : List X) → All P (xs ++ ys) → All P ys
right_all P [] ys all = all
right_all P (x ∷ xs) ys all = right_all P xs ys (All-tail P x (xs ++ ys) all)

among_cases : (i : ℕ) (xs ys : List ℕ) → Among i (xs ++ ys) → Among i xs ⊎ Among i ys
among_cases i [] ys m = inr m
among_cases i (x ∷ xs) ys m = elim m [
  | inl e ↦ inl (inl e)
  | inr r ↦ elim (among_cases i xs ys r) [ inl a ↦ inl (inr a) | inr b ↦ inr b ]
]

among_left : (i : ℕ) (xs ys : List ℕ) → Among i xs → Among i (xs ++ ys)
among_left i [] ys m = absurd m
among_left i (x ∷ xs) ys m = elim m [ inl e ↦ inl e | inr r ↦ inr (among_left i xs ys r) ]

from_map : {X : Type 0} (P : X → Type 0) (f : X → ℕ) (i : ℕ) (xs : List X) → All P xs → Among i (map f xs) → (x : X) × P x × (f x ≡ i)
from_map P f i [] all m = absurd m
from_map P f i (x ∷ xs) all m = elim m [
  | inl e ↦ (x, All-head P x xs all, e)
  | inr r ↦ from_map P f i xs (All-tail P x xs all) r
]

all_map : {X : Type 0} (R : ℕ → Type 0) (f : X → ℕ) (xs : List X) → ((i : ℕ) → Among i (map f xs) → R i) → All (λ x. R (f x)) xs
all_map R f [] h = All-nil (λ x. R (f x))
all_map R f (x ∷ xs) h = All-cons (λ x. R (f x)) x xs (h (f x) (inl refl)) (all_map R f xs (λ i m. h i (inr m)))

list_all_all : {X : Type 0} (p : X → Bool) (xs : List X) → list_all p xs ≡ true → All (λ x. p x ≡ true) xs
list_all_all p [] h = All-nil (λ x. p x ≡ true)
list_all_all p (x ∷ xs) h = let parts = and_parts (p x) (list_all p xs) h in All-cons (λ x. p x ≡ true) x xs parts.0 (list_all_all p xs parts.1)

constant_among : (g : Graph) (id : ℕ) (ids : List ℕ) (ws : List ℤ) → AreConstants g ids ws → Among id ids → (x : ℤ) × IsConstant g id x
constant_among g id [] ws c m = absurd m
constant_among g id (i ∷ ids) [] c m = absurd c
constant_among g id (i ∷ ids) (w ∷ ws) c m = elim m [
  | inl e ↦ subst (λ k. (x : ℤ) × IsConstant g k x) e (w, c.0)
  | inr r ↦ constant_among g id ids ws c.1 r
]

range_among : (i n len : ℕ) → Among i (range_with_len n len) → (n ≤ i) × (i < n + len)
range_among i n zero m = absurd m
range_among i n (suc len) m = elim m [
  | inl e ↦ (omega (arith, e), omega (arith, e))
  | inr r ↦ (let own = range_among i (n + 1) len r in let low = own.0 in let high = own.1 in (omega (arith, low), omega (arith, high)))
]

weight_among : (M : Model) (g : Graph) (whole : Whole) (ids : List ℕ) (id : ℕ) → AreWeights M g whole ids → Among id ids → IsWeightBelow M g id
weight_among M g (System s) ids id are m =
    let own = range_among id (variables_of M + length (members_before M Systems s)) (length (members_of M (System s))) (subst (λ is. Among id is) are m) in inr (weight_within M s id own.0 own.1)
weight_among M g (Objective o) ids id are m = inl (constant_among g id ids (map (λ (m : Member). m.weight) (members_of M (Objective o))) are m)

stands_more : (inputs : ℕ → List ℕ) (j i k : ℕ) → StandsOn inputs j i → Among k (inputs i) → StandsOn inputs j k
stands_more inputs j i k (itself) m = below m itself
stands_more inputs j i k (below {i = h} n s) m = below n (stands_more inputs h i k s m)

-- ---- definitions that were posted
module _ (M : Model) (formed : IsWellFormed M) where
  abbrev defs : List Definition
  defs = M.defs.items

  by_define : (i d : ℕ) (so_far : Option ℕ) (b : Bool) → is_some so_far ≡ true → is_some (if b then Some d else so_far) ≡ true
  by_define i d so_far true h = refl
  by_define i d so_far false h = h

  noted_stays : (i : ℕ) (posted : List Posted) (so_far : Option ℕ) → is_some so_far ≡ true → is_some (fold (note defs i) so_far posted) ≡ true
  noted_stays i [] so_far h = h
  noted_stays i (Define d ∷ posted) so_far h = noted_stays i posted (note defs i so_far (Define d)) (by_define i d so_far (is_of defs i d) h)
  noted_stays i (Constrain s k ∷ posted) so_far h = noted_stays i posted so_far h
  noted_stays i (Part o k ∷ posted) so_far h = noted_stays i posted so_far h

  noted_here : (i d : ℕ) (posted : List Posted) (so_far : Option ℕ) → is_of defs i d ≡ true → Contains posted (Define d) → is_some (fold (note defs i) so_far posted) ≡ true
  noted_here i d [] so_far is c = absurd (no_posted c)
    where
      no_posted : Contains [] (Define d) → ⊥
      no_posted c = let lt = c.1 in omega arith
  noted_here i d (p ∷ posted) so_far is c = cases (Contains-append_cases (p ∷ []) posted (Define d) c) (λ so h. noted_here i d posted so is h)
    where
      first : Define d ≡ p → is_some (fold (note defs i) so_far (p ∷ posted)) ≡ true
      first e =
          let now : note defs i so_far p ≡ Some d = ap (note defs i so_far) (sym e) ∙ ap (λ b. if b then Some d else so_far) is in
          noted_stays i posted (note defs i so_far p) (ap is_some now)

      one : Contains (p ∷ []) (Define d) → Define d ≡ p
      one c = All-contains (λ q. q ≡ p) (p ∷ []) (Define d) (All-cons (λ q. q ≡ p) p [] refl (All-nil (λ q. q ≡ p))) c

      cases : Contains (p ∷ []) (Define d) ⊎ Contains posted (Define d) → ((so : Option ℕ) → Contains posted (Define d) → is_some (fold (note defs i) so posted) ≡ true) → is_some (fold (note defs i) so_far (p ∷ posted)) ≡ true
      cases (inl here) later = first (one here)
      cases (inr there) later = later (note defs i so_far p) there

  -- each is its variable's definition
  define_is : (d : ℕ) (def : Definition) → Contains M.posted.items (Define d) → slice_get defs d ≡ Some def → definition_of M def.var.index ≡ Some d
  define_is d def c at = by (definition_of M def.var.index) refl (noted_here def.var.index d M.posted.items None is c)
    where
      is : is_of defs def.var.index d ≡ true
      is = ap (λ o. unwrap_or (option_map (λ (f : Definition). nat_eq f.var.index def.var.index) o) false) at ∙ grind arith

      by : (e : Option ℕ) → definition_of M def.var.index ≡ e → is_some (definition_of M def.var.index) ≡ true → definition_of M def.var.index ≡ Some d
      by (Some e) eq h =
          let found = definition_found M def.var.index e eq in
          eq ∙ ap (λ n. Some n) (formed.distinct e d found.0 def found.1 at found.2)
      by None eq h = let c : false ≡ true = sym (ap is_some eq) ∙ h in cc

  noted_from : (i d : ℕ) (posted : List Posted) (so_far : Option ℕ) → fold (note defs i) so_far posted ≡ Some d → (so_far ≡ Some d) ⊎ Contains posted (Define d)
  noted_from i d [] so_far e = inl e
  noted_from i d (p ∷ posted) so_far e = elim (noted_from i d posted (note defs i so_far p) e) [
    | inl now ↦ first p now
    | inr later ↦ inr (Contains-append_right (p ∷ []) posted (Define d) later)
  ]
    where
      by_test : (d' : ℕ) (b : Bool) → (if b then Some d' else so_far) ≡ Some d → (so_far ≡ Some d) ⊎ Contains (Define d' ∷ posted) (Define d)
      by_test d' true now =
          let same : d' ≡ d = ap (λ o. unwrap_or o d) now in
          inr (Contains-append_left (Define d' ∷ []) posted (Define d) (subst (λ n. Contains (Define d' ∷ []) (Define n)) same (Contains-push [] (Define d'))))
      by_test d' false now = inl now

      first : (q : Posted) → note defs i so_far q ≡ Some d → (so_far ≡ Some d) ⊎ Contains (q ∷ posted) (Define d)
      first (Define d') now = by_test d' (is_of defs i d') now
      first (Constrain system member) now = inl now
      first (Part objective member) now = inl now

  definition_posted : (i d : ℕ) → definition_of M i ≡ Some d → Contains M.posted.items (Define d)
  definition_posted i d e = elim (noted_from i d M.posted.items None e) [
    | inl none ↦ (let c : None ≡ Some d = none in cc)
    | inr there ↦ there
  ]

-- ---- what was posted and supports a system or an objective
module _ (M : Model) (formed : IsWellFormed M) (acyclic : IsAcyclic M) (whole : Whole) where
  abbrev pub roots : List ℕ
  roots = roots_in M whole M.posted.items

  abbrev pub Depended : ℕ → Type 0
  Depended i = one_depends M roots i ≡ true

  abbrev pub supporting : List Term
  supporting = subterms_posted M (filter (supports M whole) M.posted.items)

  abbrev pub ts : List Term
  ts = distinct_subterms M

  -- ---- its terms stand among the subterms
  abbrev IsKnownIn : List Term → Posted → Type 0
  IsKnownIn us p = supports M whole p ≡ true → (t : Term) → term_posted M p ≡ Some t → is_known us t ≡ true

  chosen_known : (ps : List Posted) → All (IsKnownIn (subterms_posted M (filter (supports M whole) ps))) ps
  chosen_known [] = All-nil (IsKnownIn [])
  chosen_known (p ∷ ps) = by (supports M whole p) refl (chosen_known ps)
    where
      rest : List Posted
      rest = filter (supports M whole) ps

      by : (b : Bool) → supports M whole p ≡ b → All (IsKnownIn (subterms_posted M (filter (supports M whole) ps))) ps → All (IsKnownIn (subterms_posted M (filter (supports M whole) (p ∷ ps)))) (p ∷ ps)
      by true e all =
          let same : filter (supports M whole) (p ∷ ps) ≡ p ∷ filter (supports M whole) ps = ap (λ b. cond b (p ∷ filter (supports M whole) ps) (filter (supports M whole) ps)) e in
          subst (λ qs. All (IsKnownIn (subterms_posted M qs)) (p ∷ ps)) (sym same)
          (All-cons (IsKnownIn (subterms_posted M (p ∷ filter (supports M whole) ps))) p ps
          (λ is t at. ap (λ o. is_known (subterms_where o ++ subterms_posted M (filter (supports M whole) ps)) t) at ∙ known_front (subterms t) (subterms_posted M (filter (supports M whole) ps)) t (closed t).1)
          (All-weaker (IsKnownIn (subterms_posted M (filter (supports M whole) ps))) (IsKnownIn (subterms_posted M (p ∷ filter (supports M whole) ps)))
          (λ q h is t at. known_back (subterms_where (term_posted M p)) (subterms_posted M (filter (supports M whole) ps)) t (h is t at)) ps all))
      by false e all =
          let same : filter (supports M whole) (p ∷ ps) ≡ filter (supports M whole) ps = ap (λ b. cond b (p ∷ filter (supports M whole) ps) (filter (supports M whole) ps)) e in
          subst (λ qs. All (IsKnownIn (subterms_posted M qs)) (p ∷ ps)) (sym same)
          (All-cons (IsKnownIn (subterms_posted M (filter (supports M whole) ps))) p ps (λ is. (let c : false ≡ true = sym e ∙ is in cc)) all)

  chosen_stand : (ps : List Posted) (t : Term) → StandsIn (subterms_posted M (filter (supports M whole) ps)) t → StandsIn (subterms_posted M ps) t
  chosen_stand [] t h = h
  chosen_stand (p ∷ ps) t h = by (supports M whole p) refl (chosen_stand ps t)
    where
      fs : List Posted
      fs = filter (supports M whole) ps

      split : (us vs ws : List Term) → list_any (same_term t) (us ++ vs) ≡ true → (list_any (same_term t) vs ≡ true → list_any (same_term t) ws ≡ true) → list_any (same_term t) (us ++ ws) ≡ true
      split [] vs ws k more = more k
      split (u ∷ us) vs ws k more = elim (either (same_term t u) (list_any (same_term t) (us ++ vs)) k) [
        | inl here ↦ one_or (same_term t u) (list_any (same_term t) (us ++ ws)) here
        | inr there ↦ other_or (same_term t u) (list_any (same_term t) (us ++ ws)) (split us vs ws there more)
      ]

      by : (b : Bool) → supports M whole p ≡ b → (StandsIn (subterms_posted M (filter (supports M whole) ps)) t → StandsIn (subterms_posted M ps) t) → StandsIn (subterms_posted M (p ∷ ps)) t
      by true e more =
          let same : filter (supports M whole) (p ∷ ps) ≡ p ∷ filter (supports M whole) ps = ap (λ b. cond b (p ∷ filter (supports M whole) ps) (filter (supports M whole) ps)) e in
          split (subterms_where (term_posted M p)) (subterms_posted M (filter (supports M whole) ps)) (subterms_posted M ps) (sym (ap (λ qs. list_any (same_term t) (subterms_posted M qs)) same) ∙ h) more
      by false e more =
          let same : filter (supports M whole) (p ∷ ps) ≡ filter (supports M whole) ps = ap (λ b. cond b (p ∷ filter (supports M whole) ps) (filter (supports M whole) ps)) e in
          any_back (same_term t) (subterms_where (term_posted M p)) (subterms_posted M ps) (more (sym (ap (λ qs. list_any (same_term t) (subterms_posted M qs)) same) ∙ h))

  supporting_there : (t : Term) → StandsIn supporting t → StandsIn ts t
  supporting_there t h = once_all t (subterms_posted M M.posted.items) ∙ chosen_stand M.posted.items t h

  -- ---- its variables are depended on
  abbrev IsDepended : Posted → Type 0
  IsDepended p = supports M whole p ≡ true → (t : Term) → term_posted M p ≡ Some t → OfVars Depended t

  within : All (λ u. u < length M.vars.items) roots
  within = roots_within M formed whole M.posted.items

  root_all : (ps : List Posted) (p : Posted) (m : Member) → Contains ps p → member_in M whole p ≡ Some m → (i : ℕ) → Contains (vars_of m.term) i → Contains (roots_in M whole ps) i
  root_all [] p m c is i in' = let lt = c.1 in absurd (omega arith)
  root_all (q ∷ ps) p m c is i in' = elim (Contains-append_cases (q ∷ []) ps p c) [
    | inl here ↦ (let same : p ≡ q = All-contains (λ r. r ≡ q) (q ∷ []) p (All-cons (λ r. r ≡ q) q [] refl (All-nil (λ r. r ≡ q))) here in
        let own : vars_in (member_in M whole q) ≡ vars_of m.term = ap (λ r. vars_in (member_in M whole r)) (sym same) ∙ ap vars_in is in
        Contains-append_left (vars_in (member_in M whole q)) (roots_in M whole ps) i (subst (λ vs. Contains vs i) (sym own) in'))
    | inr there ↦ Contains-append_right (vars_in (member_in M whole q)) (roots_in M whole ps) i (root_all ps p m there is i in')
  ]

  all_of : (P : ℕ → Type 0) (xs : List ℕ) → ((i : ℕ) → Contains xs i → P i) → All P xs
  all_of P xs f = All-weaker (Contains xs) P f xs (All-contains_itself xs)

  member_depended : (p : Posted) (m : Member) → Contains M.posted.items p → member_in M whole p ≡ Some m → OfVars Depended m.term
  member_depended p m c is = all_of Depended (vars_of m.term) (λ i in'. root_reached M formed acyclic roots within i (root_all M.posted.items p m c is i in'))

  -- a member's term is the one that was posted
  some_same : (t u : Term) → Some t ≡ Some u → t ≡ u
  some_same t u e = ap (λ o. unwrap_or o t) e

  by_member : (p : Posted) → Contains M.posted.items p → (o : Option Member) → member_in M whole p ≡ o → is_some o ≡ true → (t : Term) → term_posted M p ≡ Some t → OfVars Depended t
  by_member p c (Some m) is h t at = subst (OfVars Depended) (some_same m.term t (sym (member_term M whole p m is) ∙ at)) (member_depended p m c is)
  by_member p c None is h t at = let x : false ≡ true = h in cc

  by_definition : (d : ℕ) (o : Option Definition) → Contains M.posted.items (Define d) → slice_get M.defs.items d ≡ o → unwrap_or (option_map (λ (def : Definition). one_depends M roots def.var.index) o) false ≡ true →
      (t : Term) → option_map (λ (def : Definition). def.term) o ≡ Some t → OfVars Depended t
  by_definition d (Some def) c at on t e =
      let i = def.var.index in
      let there : term_of M.defs.items d ≡ Some def.term = ap (option_map (λ (f : Definition). f.term)) at in
      let names : named_by M.defs.items (definition_of M i) ≡ vars_of def.term = ap (named_by M.defs.items) (define_is M formed d def c at) ∙ ap vars_named there in
      subst (OfVars Depended) (some_same def.term t e)
      (all_of Depended (vars_of def.term) (λ v in'. reach_on M formed acyclic roots within i v (subst (λ vs. Contains vs v) (sym names) in') on))
  by_definition d None c at on t e = let x : false ≡ true = on in cc

  posted_depended : (p : Posted) → Contains M.posted.items p → IsDepended p
  posted_depended (Define d) c is t at = by_definition d (slice_get M.defs.items d) c refl is t at
  posted_depended (Constrain s k) c is t at = by_member (Constrain s k) c (member_in M whole (Constrain s k)) refl is t at
  posted_depended (Part o k) c is t at = by_member (Part o k) c (member_in M whole (Part o k)) refl is t at

  -- ---- a term that is known, depends so, and has a kind
  abbrev pub IsGood : Term → Type 0
  IsGood t = (is_known supporting t ≡ true) × OfVars Depended t × HasKind M t

  good_posted : (p : Posted) → Contains M.posted.items p → supports M whole p ≡ true → (t : Term) → term_posted M p ≡ Some t → IsGood t
  good_posted p c is t at = (All-contains (IsKnownIn supporting) M.posted.items p (chosen_known M.posted.items) c is t at, posted_depended p c is t at, posted_kinded M formed t p (sym at))

  abbrev IsFit : Term → Type 0
  IsFit t = OfVars Depended t × HasKind M t

  fit_where : (p : Posted) → Contains M.posted.items p → supports M whole p ≡ true → (o : Option Term) → term_posted M p ≡ o → All IsFit (subterms_where o)
  fit_where p c is (Some t) at =
      let good = good_posted p c is t at in
      all_both (OfVars Depended) (HasKind M) (subterms t) (of_subterms Depended t good.1) (deep (kinds_in M.vars.items) t good.2)
  fit_where p c is None at = All-nil IsFit

  fit_all : (ps : List Posted) → All (Contains M.posted.items) ps → All IsFit (subterms_posted M (filter (supports M whole) ps))
  fit_all [] all = All-nil IsFit
  fit_all (p ∷ ps) all = by (supports M whole p) refl (fit_all ps (All-tail (Contains M.posted.items) p ps all))
    where
      by : (b : Bool) → supports M whole p ≡ b → All IsFit (subterms_posted M (filter (supports M whole) ps)) → All IsFit (subterms_posted M (filter (supports M whole) (p ∷ ps)))
      by true e rest =
          subst (λ qs. All IsFit (subterms_posted M qs)) (sym (ap (λ b. cond b (p ∷ filter (supports M whole) ps) (filter (supports M whole) ps)) e))
          (All-append IsFit (subterms_where (term_posted M p)) (subterms_posted M (filter (supports M whole) ps)) (fit_where p (All-head (Contains M.posted.items) p ps all) e (term_posted M p) refl) rest)
      by false e rest = subst (λ qs. All IsFit (subterms_posted M qs)) (sym (ap (λ b. cond b (p ∷ filter (supports M whole) ps) (filter (supports M whole) ps)) e)) rest

  abbrev pub IsSupporting : Term → Type 0
  IsSupporting u = IsPlaced supporting u × IsFit u

  all_supporting : All IsSupporting supporting
  all_supporting = all_both (IsPlaced supporting) IsFit supporting (placed_posted M (filter (supports M whole) M.posted.items)) (fit_all M.posted.items (All-contains_itself M.posted.items))

  -- so are the arguments of those that support it
  good_arguments : (u : Term) → IsSupporting u → All IsGood (arguments_of (out-Term u))
  good_arguments u is =
      let args = arguments_of (out-Term u) in
      All-weaker (λ w. (is_known supporting w ≡ true) × IsFit w) IsGood (λ w h. (h.0, h.1.0, h.1.1)) args
      (all_both (λ w. is_known supporting w ≡ true) IsFit args (list_all_all (is_known supporting) args is.0.1)
      (all_both (OfVars Depended) (HasKind M) args (of_arguments Depended u is.1.0) (arguments_kinded (kinds_in M.vars.items) u is.1.1)))

  -- ---- members
  supports_member : (p : Posted) (m : Member) → member_in M whole p ≡ Some m → supports M whole p ≡ true
  supports_member (Define d) m e = no_define whole e
    where
      no_define : (w : Whole) → member_in M w (Define d) ≡ Some m → supports M whole (Define d) ≡ true
      no_define (System s) e = let c : None ≡ Some m = e in cc
      no_define (Objective o) e = let c : None ≡ Some m = e in cc
  supports_member (Constrain s k) m e = ap is_some e
  supports_member (Part o k) m e = ap is_some e

  pub good_members : All (λ (m : Member). IsGood m.term) (members_of M whole)
  good_members =
      all_filtered (Contains M.posted.items) (λ (m : Member). IsGood m.term) (member_in M whole)
      (λ p m c e. good_posted p c (supports_member p m e) m.term (member_term M whole p m e)) M.posted.items (All-contains_itself M.posted.items)

  -- ---- in a graph that holds the model
  module _ (users : ℕ → NumberRule) (g : Graph) (holds : HoldsTerms users M g) (target : ℕ) (total : IsTotal M g whole target) where
    no_less : (k n : ℕ) → (n + k) - n ≡ k
    no_less k n = omega arith

    abbrev pub Below : ℕ → Type 0
    Below id = IsBelow M g whole target id

    good_below : (t : Term) → IsGood t → Below (id_of M t)
    good_below t good = elim (view M t (known_more supporting ts supporting_there t good.0) good.2) [
      | inl v ↦ subst (λ i. Below i) (sym v.2) (inr (inr (inl (v.3, of_variable Depended t v.0 v.1 good.1))))
      | inr n ↦ subst (λ i. Below i) (sym n.4)
          (inr (inr (inr (omega arith, n.1, ap (slice_get ts) (no_less n.0 (cells_of M)) ∙ n.2, stands_alike supporting t n.1 n.3 (stands_of supporting t n.5 good.0)))))
    ]

    cell_inputs : (i : ℕ) → i < cells_of M → g.inputs i ≡ inputs_of_cell M (term_defined M i)
    cell_inputs i lt = holds.inputs i (omega (arith, lt)) ∙ ap (λ b. cond b (inputs_of_cell M (term_defined M i)) (inputs_of_node M (term_at M i))) (before_first i (cells_of M) lt)

    node_inputs : (id : ℕ) (u : Term) → cells_of M ≤ id → term_at M id ≡ Some u → g.inputs id ≡ map (id_of M) (arguments_of (out-Term u))
    node_inputs id u le at =
        let lt = slice_get_within ts (id - cells_of M) u at in
        holds.inputs id (omega (arith, le, lt)) ∙ ap (λ b. cond b (inputs_of_cell M (term_defined M id)) (inputs_of_node M (term_at M id))) (past_first id (cells_of M) le) ∙ ap (inputs_of_node M) at

    -- ---- what a total stands on is below
    from_total : (i : ℕ) → Among i (g.inputs target) → Below i
    from_total i m = elim (among_cases i (map (λ (m : Member). id_of M m.term) (members_of M whole)) total.weights (subst (λ is. Among i is) total.inputs m)) [
      | inl a ↦ (let found = from_map (λ (m : Member). IsGood m.term) (λ (m : Member). id_of M m.term) i (members_of M whole) good_members a in subst (λ k. Below k) found.2 (good_below found.0.term found.1))
      | inr b ↦ inr (inl (weight_among M g whole total.weights i total.weighed b))
    ]

    from_cell : (j i : ℕ) → j < variables_of M → Depended j → (entry : Option ℕ) → definition_of M j ≡ entry → Among i (inputs_of_cell M (option_and_then (term_of M.defs.items) entry)) → Below i
    from_cell j i lt on None e m = absurd m
    from_cell j i lt on (Some d) e m =
        let found = definition_found M j d e in
        let there : term_of M.defs.items d ≡ Some found.0.term = ap (option_map (λ (def : Definition). def.term)) found.1 in
        let is : supports M whole (Define d) ≡ true = ap (λ o. unwrap_or (option_map (λ (def : Definition). one_depends M roots def.var.index) o) false) found.1 ∙ ap (one_depends M roots) found.2 ∙ on in
        let good = good_posted (Define d) (definition_posted M formed j d e) is found.0.term there in
        elim (subst (λ u. Among i (inputs_of_cell M u)) there m) [
          | inl same ↦ subst (λ k. Below k) same (good_below found.0.term good)
          | inr none ↦ absurd none
        ]

    from_node : (j i : ℕ) (u : Term) → cells_of M ≤ j → term_at M j ≡ Some u → StandsIn supporting u → Among i (g.inputs j) → Below i
    from_node j i u le at stands m =
        let other = any_all IsSupporting u supporting all_supporting stands in
        let same : g.inputs j ≡ map (id_of M) (arguments_of (out-Term other.0)) = node_inputs j u le at ∙ inputs_alike M u other.0 other.1 in
        let found = from_map IsGood (id_of M) i (arguments_of (out-Term other.0)) (good_arguments other.0 other.2) (subst (λ is. Among i is) same m) in
        subst (λ k. Below k) found.2 (good_below found.0 found.1)

    -- a weight takes nothing
    pub weight_inputs : (j : ℕ) → IsWeightBelow M g j → g.inputs j ≡ []
    weight_inputs j w = elim w [
      | inl constant ↦ constant.1.2
      | inr cell ↦ cell_inputs j cell.1 ∙ ap (λ e. inputs_of_cell M (option_and_then (term_of M.defs.items) e)) (no_definition M formed j cell.0)
    ]

    pub from_below : (j i : ℕ) → Below j → Among i (g.inputs j) → Below i
    from_below j i is m = elim is [
      | inl e ↦ from_total i (subst (λ k. Among i (g.inputs k)) e m)
      | inr (inl w) ↦ absurd (subst (λ is. Among i is) (weight_inputs j w) m)
      | inr (inr (inl v)) ↦ (let lt = v.0 in from_cell j i v.0 v.1 (definition_of M j) refl (subst (λ is. Among i is) (cell_inputs j (omega (arith, lt))) m))
      | inr (inr (inr t)) ↦ from_node j i t.1 t.0 t.2 t.3 m
    ]

    follow : (j i : ℕ) → StandsOn g.inputs j i → Below j → Below i
    follow j i (itself) is = is
    follow j i (below {i = h} m s) is = follow h i s (from_below j h is m)

    pub total_below : (id : ℕ) → StandsOn g.inputs target id → Below id
    total_below id s = follow target id s (inl refl)

    -- ---- and on all that is below it stands
    abbrev Reached : ℕ → Type 0
    Reached id = StandsOn g.inputs target id

    abbrev IsReached : Term → Type 0
    IsReached t = Reached (id_of M t)

    onward : (j i : ℕ) → Reached j → Among i (g.inputs j) → Reached i
    onward j i s m = stands_more g.inputs target j i s m

    abbrev IsDeep : Term → Type 0
    IsDeep t = All (StandsIn ts) (subterms t) → HasKind M t → IsReached t → All IsReached (subterms t) × All Reached (vars_of t)

    abbrev Deep : Type 0
    Deep = (t : Term) × IsDeep t

    below_reached : (es : List Deep) → All (StandsIn ts) (joined_terms (map subterms (map (λ e. e.0) es))) → All (HasKind M) (map (λ e. e.0) es) → All IsReached (map (λ e. e.0) es) →
        All IsReached (joined_terms (map subterms (map (λ e. e.0) es))) × All Reached (joined (map vars_of (map (λ e. e.0) es)))
    below_reached [] known kinded reached = (All-nil IsReached, All-nil Reached)
    below_reached (e ∷ es) known kinded reached =
        let us = map (λ (e : Deep). e.0) es in
        let more = joined_terms (map subterms us) in
        let one = e.1 (left_all (StandsIn ts) (subterms e.0) more known) (All-head (HasKind M) e.0 us kinded) (All-head IsReached e.0 us reached) in
        let rest = below_reached es (right_all (StandsIn ts) (subterms e.0) more known) (All-tail (HasKind M) e.0 us kinded) (All-tail IsReached e.0 us reached) in
        (All-append IsReached (subterms e.0) more one.0 rest.0, All-append Reached (vars_of e.0) (joined (map vars_of us)) one.1 rest.1)

    leaf_reached : (t : Term) → subterms t ≡ [] ++ t ∷ [] → vars_of t ≡ [] → IsReached t → All IsReached (subterms t) × All Reached (vars_of t)
    leaf_reached t own none r = (subst (All IsReached) (sym own) (All-cons IsReached t [] r (All-nil IsReached)), subst (All Reached) (sym none) (All-nil Reached))

    -- the inputs of a term's node are those of its arguments
    term_inputs : (t : Term) → IsNode (out-Term t) → StandsIn ts t → HasKind M t → IsReached t → All IsReached (arguments_of (out-Term t))
    term_inputs t own stands kinded r = elim (view M t (known_of ts t own stands) kinded) [
      | inl v ↦ absurd (subst IsNode v.1 own)
      | inr n ↦ (let at : term_at M (cells_of M + n.0) ≡ Some n.1 = ap (slice_get ts) (no_less n.0 (cells_of M)) ∙ n.2 in
          let same : g.inputs (id_of M t) ≡ map (id_of M) (arguments_of (out-Term t)) =
          ap g.inputs n.4 ∙ node_inputs (cells_of M + n.0) n.1 (omega arith) at ∙ sym (inputs_alike M t n.1 n.3) in
          all_map Reached (id_of M) (arguments_of (out-Term t)) (λ i m. onward (id_of M t) i r (subst (λ is. Among i is) (sym same) m)))
    ]

    last_of : (us front : List Term) (t : Term) → us ≡ front ++ t ∷ [] → All (StandsIn ts) us → StandsIn ts t
    last_of us front t e all = All-head (StandsIn ts) t [] (right_all (StandsIn ts) front (t ∷ []) (subst (All (StandsIn ts)) e all))

    layer_reached : (y : Term-F Deep) → IsDeep (roll-Term (map-Term Deep Term (λ e. e.0) y))
    layer_reached (Term-F.Const x) known kinded r = let z = Term-F.Const x in leaf_reached (roll-Term z) (subterms_roll z) (fold-roll-Term (List ℕ) vars_step z) r
    layer_reached (Term-F.ConstSet s) known kinded r = let z = Term-F.ConstSet s in leaf_reached (roll-Term z) (subterms_roll z) (fold-roll-Term (List ℕ) vars_step z) r
    layer_reached (Term-F.Var v) known kinded r =
        let z = Term-F.Var v in
        let vars : vars_of (roll-Term z) ≡ v.index ∷ [] = fold-roll-Term (List ℕ) vars_step z in
        let same : id_of M (roll-Term z) ≡ v.index = ap (id_among_by (roll-Term z)) (out-roll-Term z) in (
          subst (All IsReached) (sym (subterms_roll z)) (All-nil IsReached),
          subst (All Reached) (sym vars) (All-cons Reached v.index [] (subst Reached same r) (All-nil Reached)),
        )
      where
        id_among_by : Term → Term-F Term → ℕ
        id_among_by t y = id_by (cells_of M) ts t y
    layer_reached (Term-F.Node op args place) known kinded r =
        let z = map-Term Deep Term (λ e. e.0) (Term-F.Node op args place) in
        let us = map (λ (e : Deep). e.0) args.items in
        let t = roll-Term z in
        let more = joined_terms (map subterms us) in
        let own : subterms t ≡ more ++ t ∷ [] = subterms_roll z in
        let vars : vars_of t ≡ joined (map vars_of us) = fold-roll-Term (List ℕ) vars_step z in
        let out : out-Term t ≡ z = out-roll-Term z in
        let node : IsNode (out-Term t) = subst IsNode (sym out) tt in
        let inputs : All IsReached us = subst (λ w. All IsReached (arguments_of w)) out (term_inputs t node (last_of (subterms t) more t own known) kinded r) in
        let kinds : All (HasKind M) us = subst (λ w. All (HasKind M) (arguments_of w)) out (arguments_kinded (kinds_in M.vars.items) t kinded) in
        let rest = below_reached args.items (left_all (StandsIn ts) more (t ∷ []) (subst (All (StandsIn ts)) own known)) kinds inputs in (
          subst (All IsReached) (sym own) (All-append IsReached more (t ∷ []) rest.0 (All-cons IsReached t [] r (All-nil IsReached))),
          subst (All Reached) (sym vars) rest.1,
        )

    term_reached : (t : Term) → IsDeep t
    term_reached = ind-Term IsDeep (λ x y is. subst (λ z. IsDeep (roll-Term z)) is (layer_reached y))

    -- the subterms of what was posted are there
    abbrev AreThereOf : List Term → Posted → Type 0
    AreThereOf us p = All (StandsIn us) (subterms_where (term_posted M p))

    posted_stand : (ps : List Posted) → All (AreThereOf (subterms_posted M ps)) ps
    posted_stand [] = All-nil (AreThereOf [])
    posted_stand (p ∷ ps) =
        let own = subterms_where (term_posted M p) in
        let rest = subterms_posted M ps in
        All-cons (AreThereOf (own ++ rest)) p ps
        (left_all (StandsIn (own ++ rest)) own rest (all_itself (own ++ rest)))
        (All-weaker (AreThereOf rest) (AreThereOf (own ++ rest)) (λ q h. All-weaker (StandsIn rest) (StandsIn (own ++ rest)) (λ u k. any_back (same_term u) own rest k) (subterms_where (term_posted M q)) h) ps (posted_stand ps))

    posted_there : (p : Posted) → Contains M.posted.items p → (t : Term) → term_posted M p ≡ Some t → All (StandsIn ts) (subterms t)
    posted_there p c t at =
        All-weaker (StandsIn (subterms_posted M M.posted.items)) (StandsIn ts) (λ u h. once_all u (subterms_posted M M.posted.items) ∙ h) (subterms t)
        (subst (λ o. All (StandsIn (subterms_posted M M.posted.items)) (subterms_where o)) at (All-contains (AreThereOf (subterms_posted M M.posted.items)) M.posted.items p (posted_stand M.posted.items) c))

    deep_posted : (p : Posted) → Contains M.posted.items p → (t : Term) → term_posted M p ≡ Some t → IsReached t → All IsReached (subterms t) × All Reached (vars_of t)
    deep_posted p c t at r = term_reached t (posted_there p c t at) (posted_kinded M formed t p (sym at)) r

    -- members
    among_members : (ps : List Posted) (p : Posted) (m : Member) → Contains ps p → member_in M whole p ≡ Some m → Among (id_of M m.term) (map (λ (n : Member). id_of M n.term) (filter_map (member_in M whole) ps))
    among_members [] p m c is = let lt = c.1 in absurd (omega arith)
    among_members (q ∷ ps) p m c is = elim (Contains-append_cases (q ∷ []) ps p c) [
      | inl here ↦ (let same : p ≡ q = All-contains (λ r. r ≡ q) (q ∷ []) p (All-cons (λ r. r ≡ q) q [] refl (All-nil (λ r. r ≡ q))) here in
          subst (λ o. Among (id_of M m.term) (map (λ (n : Member). id_of M n.term) (cons_option o (filter_map (member_in M whole) ps)))) (sym (ap (member_in M whole) (sym same) ∙ is)) (inl refl))
      | inr there ↦ behind_one (member_in M whole q) (among_members ps p m there is)
    ]
      where
        behind_one : (o : Option Member) → Among (id_of M m.term) (map (λ (n : Member). id_of M n.term) (filter_map (member_in M whole) ps)) → Among (id_of M m.term) (map (λ (n : Member). id_of M n.term) (cons_option o (filter_map (member_in M whole) ps)))
        behind_one (Some n) h = inr h
        behind_one None h = h

    member_reached : (p : Posted) (m : Member) → Contains M.posted.items p → member_in M whole p ≡ Some m → IsReached m.term
    member_reached p m c is =
        below (subst (λ is'. Among (id_of M m.term) is') (sym total.inputs) (among_left (id_of M m.term) (map (λ (n : Member). id_of M n.term) (members_of M whole)) total.weights (among_members M.posted.items p m c is))) itself

    member_vars : (p : Posted) (m : Member) → Contains M.posted.items p → member_in M whole p ≡ Some m → All Reached (vars_of m.term)
    member_vars p m c is = (deep_posted p c m.term (member_term M whole p m is) (member_reached p m c is)).1

    roots_reached : (ps : List Posted) → All (Contains M.posted.items) ps → All Reached (roots_in M whole ps)
    roots_reached [] all = All-nil Reached
    roots_reached (p ∷ ps) all =
        All-append Reached (vars_in (member_in M whole p)) (roots_in M whole ps) (by (member_in M whole p) refl) (roots_reached ps (All-tail (Contains M.posted.items) p ps all))
      where
        by : (o : Option Member) → member_in M whole p ≡ o → All Reached (vars_in o)
        by (Some m) e = member_vars p m (All-head (Contains M.posted.items) p ps all) e
        by None e = All-nil Reached

    -- variables, through definitions
    defined_reached : (r d : ℕ) → definition_of M r ≡ Some d → Reached r → (f : Definition) → slice_get M.defs.items d ≡ Some f → IsReached f.term
    defined_reached r d e s f at =
        let found = definition_found M r d e in
        let low : r < variables_of M = subst (λ n. n < variables_of M) found.2 (formed.defs d found.0 found.1).var in
        let lt : r < cells_of M = omega (arith, low) in
        let there : term_of M.defs.items d ≡ Some f.term = ap (option_map (λ (def : Definition). def.term)) at in
        let inputs : g.inputs r ≡ id_of M f.term ∷ [] =
        cell_inputs r lt ∙ ap (λ entry. inputs_of_cell M (option_and_then (term_of M.defs.items) entry)) e ∙ ap (inputs_of_cell M) there in
        onward r (id_of M f.term) s (subst (λ is. Among (id_of M f.term) is) (sym inputs) (inl refl))

    named_reached : (r v : ℕ) → Reached r → (entry : Option ℕ) → definition_of M r ≡ entry → Contains (named_by M.defs.items entry) v → Reached v
    named_reached r v s None e in' = absurd (no_member v in')
    named_reached r v s (Some d) e in' =
        let found = definition_found M r d e in
        let f = found.0 in
        let there : term_of M.defs.items d ≡ Some f.term = ap (option_map (λ (def : Definition). def.term)) found.1 in
        let deep = deep_posted (Define d) (definition_posted M formed r d e) f.term there (defined_reached r d e s f found.1) in
        All-contains Reached (vars_of f.term) v deep.1 (subst (λ vs. Contains vs v) (ap vars_named there) in')

    through : (x n r : ℕ) → Reached r → depends_through M x n r ≡ true → Reached x
    through x zero r s h = subst Reached (eq_of r x (sym (at_zero M formed acyclic x r) ∙ h)) s
    through x (suc n) r s h = cases (either (nat_eq r x) (list_any (depends_through M x n) (named_by M.defs.items (definition_of M r))) (sym (depends_step M formed acyclic x n r) ∙ h)) (λ e. through x n e)
      where
        cases : (nat_eq r x ≡ true) ⊎ (list_any (depends_through M x n) (named_by M.defs.items (definition_of M r)) ≡ true) → ((e : ℕ) → Reached e → depends_through M x n e ≡ true → Reached x) → Reached x
        cases (inl same) later = subst Reached (eq_of r x same) s
        cases (inr some) later =
            let found = any_out (depends_through M x n) (named_by M.defs.items (definition_of M r)) some in
            later found.0 (named_reached r found.0 s (definition_of M r) refl found.1) found.2

    pub var_reached : (x : ℕ) → Depended x → Reached x
    var_reached x h =
        let found = any_out (var_depends M x) roots h in
        through x (length M.vars.items) found.0 (All-contains Reached roots found.0 (roots_reached M.posted.items (All-contains_itself M.posted.items)) found.1) found.2

    -- all that supports it
    by_members : (p : Posted) → Contains M.posted.items p → (o : Option Member) → member_in M whole p ≡ o → is_some o ≡ true → (t : Term) → term_posted M p ≡ Some t → IsReached t
    by_members p c (Some m) is h t at = subst IsReached (some_same m.term t (sym (member_term M whole p m is) ∙ at)) (member_reached p m c is)
    by_members p c None is h t at = let x : false ≡ true = h in cc

    by_defined : (d : ℕ) (o : Option Definition) → Contains M.posted.items (Define d) → slice_get M.defs.items d ≡ o → unwrap_or (option_map (λ (def : Definition). one_depends M roots def.var.index) o) false ≡ true →
        (t : Term) → option_map (λ (def : Definition). def.term) o ≡ Some t → IsReached t
    by_defined d (Some f) c at on t e = subst IsReached (some_same f.term t e) (defined_reached f.var.index d (define_is M formed d f c at) (var_reached f.var.index on) f at)
    by_defined d None c at on t e = let x : false ≡ true = on in cc

    posted_reached : (p : Posted) → Contains M.posted.items p → supports M whole p ≡ true → (t : Term) → term_posted M p ≡ Some t → IsReached t
    posted_reached (Define d) c is t at = by_defined d (slice_get M.defs.items d) c refl is t at
    posted_reached (Constrain s k) c is t at = by_members (Constrain s k) c (member_in M whole (Constrain s k)) refl is t at
    posted_reached (Part o k) c is t at = by_members (Part o k) c (member_in M whole (Part o k)) refl is t at

    reached_where : (p : Posted) → Contains M.posted.items p → supports M whole p ≡ true → (o : Option Term) → term_posted M p ≡ o → All IsReached (subterms_where o)
    reached_where p c is (Some t) at = (deep_posted p c t at (posted_reached p c is t at)).0
    reached_where p c is None at = All-nil IsReached

    all_reached : (ps : List Posted) → All (Contains M.posted.items) ps → All IsReached (subterms_posted M (filter (supports M whole) ps))
    all_reached [] all = All-nil IsReached
    all_reached (p ∷ ps) all = by (supports M whole p) refl (all_reached ps (All-tail (Contains M.posted.items) p ps all))
      where
        by : (b : Bool) → supports M whole p ≡ b → All IsReached (subterms_posted M (filter (supports M whole) ps)) → All IsReached (subterms_posted M (filter (supports M whole) (p ∷ ps)))
        by true e rest =
            subst (λ qs. All IsReached (subterms_posted M qs)) (sym (ap (λ b. cond b (p ∷ filter (supports M whole) ps) (filter (supports M whole) ps)) e))
            (All-append IsReached (subterms_where (term_posted M p)) (subterms_posted M (filter (supports M whole) ps)) (reached_where p (All-head (Contains M.posted.items) p ps all) e (term_posted M p) refl) rest)
        by false e rest = subst (λ qs. All IsReached (subterms_posted M qs)) (sym (ap (λ b. cond b (p ∷ filter (supports M whole) ps) (filter (supports M whole) ps)) e)) rest

    pub subterm_reached : (k : ℕ) (u : Term) → slice_get ts k ≡ Some u → stands_on M whole u ≡ true → Reached (cells_of M + k)
    subterm_reached k u at stands =
        let other = any_all IsReached u supporting (all_reached M.posted.items (All-contains_itself M.posted.items)) stands in
        let own = arguments_there M k u at in
        subst Reached (sym (ids_alike (cells_of M) ts u other.0 other.1) ∙ id_at M k u at own.0 (supporting_there u stands)) other.2
