-- Each node of a graph that holds a model takes what its inputs come to.
use Rattle.std.proofs.Common.{◌≡◌, ℕ, ℤ, ◌+◌, Bool, true, false, cond, ◌-◌, ◌&&◌, List, [], ◌∷◌, ◌++◌, Option, Some, None, IsSome, All, fold, map, length, refl, sym, ap, ◌∙◌, subst, arith, slice_get, Result, Ok, Err}
use Rattle.std.specs.Prelude.{◌==◌, nat_eq}
use Rattle.std.specs.Option.{option_and_then}
use Rattle.std.proofs.lemmas.Bool.Decides.{nat_tests}
use Rattle.std.proofs.lemmas.List.{append_assoc, append-nil, length-append, length-map, map-append}
use Rattle.std.proofs.lemmas.List.Elements.{All-nil, All-cons, All-head, All-tail, All-weaker}
use Rattle.std.proofs.lemmas.Option.{slice_get_within}
use Rattle.cbl_base.specs.Inputs.{InputKind, all_numbers, kind_of, kinds_of, number_kind}
use Rattle.cbl_base.specs.NumberRule.{NumberRule}
use Rattle.cbl_base.specs.declared.input.Input.{Input}
use Rattle.cbl_base.specs.declared.input.Input.TheVariants.{Int}
use Rattle.cbl_violations.specs.Violations.Repeat.{repeat}
use Rattle.cbl_violations.specs.Violations.WeightedTotal.{weighted_total}
use Rattle.model_values.specs.Outcomes.{HasKinds, gathered, outcome_of}
use Rattle.model_values.specs.Support.{member_in}
use Rattle.model_values.specs.VarOutcomes.{outcome_of_var}
use Rattle.model_values.specs.Wholes.{IsOf, place_of, sum_in}
use Rattle.model_values.specs.declared.failure.Failure.{Failure}
use Rattle.model_values.specs.declared.wholes.Whole.{Whole}
use Rattle.model_values.specs.declared.wholes.Whole.TheVariants.{System, Objective}
use Rattle.store_build.specs.Aims.{start_of}
use Rattle.store_build.proofs.GatherLemmas.{past_first}
use Rattle.store_turns.specs.Meaning.{Graph, IsMeaning, values_of}
use Rattle.store_turns.specs.declared.outcome.Outcome.{Outcome}
use Rattle.term_count.specs.Codes.{IsNode}
use Rattle.term_model.specs.Definitions.{IsAcyclic}
use Rattle.term_model.specs.Kinds.{all_kinds, gather_kind, kind_of_term, kind_step, kinds_in, node_kind}
use Rattle.term_model.specs.Posting.{member_at}
use Rattle.term_model.specs.Subterms.{arguments_of, distinct_subterms}
use Rattle.term_model.specs.Users.{user_rules}
use Rattle.term_model.specs.Wellformed.{HasDefinedSets, IsMember, IsWellFormed}
use Rattle.term_model.specs.declared.model.Member.{Member}
use Rattle.term_model.specs.declared.model.Model.{Model}
use Rattle.term_model.specs.declared.model.Posted.{Posted}
use Rattle.term_model.specs.declared.model.Posted.TheVariants.{Define, Constrain, Part}
use Rattle.term_model.specs.declared.model.Total.{Total}
use Rattle.term_model.specs.declared.term.Term.{Term}
use Rattle.term_model.specs.declared.term.Term.TheOpen.{Term-F}
use Rattle.term_model.specs.declared.term.Term.TheViews.{out-Term, roll-Term}
use Rattle.term_model.specs.declared.term.Term.TheFolds.{fold-roll-Term}
use Rattle.term_model.proofs.EqualTerms.{roll_out}
use Rattle.term_model.proofs.Kinded.{takes_args}
use Rattle.graph_values.specs.Graphs.{id_of, inputs_of_cell, inputs_of_node, term_at, term_defined}
use Rattle.graph_values.specs.Taken.{AreTaken, takes_by}
use Rattle.graph_values.specs.Totals.{HoldsModel, came_total}
use Rattle.graph_values.specs.Members.{cells_of, members_of, numbers_of}
use Rattle.graph_values.proofs.Arguments.{arguments_there}
use Rattle.graph_values.proofs.FreshMeaning.{map_map, values_at_ids}
use Rattle.graph_values.proofs.Gathering.{value_part, values_gathered}
use Rattle.graph_values.proofs.KindedTerms.{HasKind, arguments_kinded, subterm_kinded}
use Rattle.graph_values.proofs.ModelTotals.{IsUsual, all_filtered, if_some, members_usual, members_values, nodes_held, total_is, vars_held, weights_are}
use Rattle.graph_values.proofs.TotalValues.{and_numbers, numbers_last}
use Rattle.graph_values.proofs.ValueKinds.{values_kinded, variables_kinded}

some_same : (xs ys : List Input) → ◌≡◌ {A = Option (List Input)} (Some xs) (Some ys) → xs ≡ ys
some_same xs ys e = cc

-- ---- members are numbers
module _ (M : Model) where
  abbrev kinds : ℕ → Option InputKind
  kinds = kinds_in M.vars.items

  abbrev IsNumber : Member → Type 0
  IsNumber m = kind_of_term kinds m.term ≡ Some number_kind

  member_at_is : (totals : List Total) → ((s : ℕ) (total : Total) (k : ℕ) (member : Member) → slice_get totals s ≡ Some total → slice_get total.members.items k ≡ Some member → IsMember M member) →
      (s k : ℕ) (m : Member) (total : Option Total) → slice_get totals s ≡ total → option_and_then (λ (t : Total). slice_get t.members.items k) total ≡ Some m → IsMember M m
  member_at_is totals each s k m (Some total) there e = each s total k m there e
  member_at_is totals each s k m None there e = let c : None ≡ Some m = e in cc

  member_is : IsWellFormed M → (whole : Whole) (p : Posted) (m : Member) → member_in M whole p ≡ Some m → IsMember M m
  member_is formed (System s) (Define d) m e = let c : None ≡ Some m = e in cc
  member_is formed (System s) (Constrain system k) m e = member_at_is M.systems.items formed.systems s k m (slice_get M.systems.items s) refl (if_some (nat_eq system s) (member_at M.systems.items s k) m e).1
  member_is formed (System s) (Part objective k) m e = let c : None ≡ Some m = e in cc
  member_is formed (Objective o) (Define d) m e = let c : None ≡ Some m = e in cc
  member_is formed (Objective o) (Constrain system k) m e = let c : None ≡ Some m = e in cc
  member_is formed (Objective o) (Part objective k) m e = member_at_is M.objectives.items formed.objectives o k m (slice_get M.objectives.items o) refl (if_some (nat_eq objective o) (member_at M.objectives.items o k) m e).1

  pub members_are : IsWellFormed M → (whole : Whole) → All (IsMember M) (members_of M whole)
  members_are formed whole = all_filtered (λ (p : Posted). Unit {0}) (IsMember M) (member_in M whole) (λ p m h e. member_is formed whole p m e) M.posted.items (λ i d lt. tt)

  members_numbers : IsWellFormed M → (whole : Whole) → All IsNumber (members_of M whole)
  members_numbers formed whole = All-weaker (IsMember M) IsNumber (λ m h. h.kind) (members_of M whole) (members_are formed whole)

  numbers_gathered : (ks : List InputKind) (ms : List Member) → All IsNumber ms → fold gather_kind (Some ks) (map (kind_of_term kinds) (map (λ m. m.term) ms)) ≡ Some (ks ++ map (λ m. number_kind) ms)
  numbers_gathered ks [] all = ap (λ qs. Some qs) (sym (append-nil ks))
  numbers_gathered ks (m ∷ ms) all =
      ap (λ q. fold gather_kind (gather_kind (Some ks) q) (map (kind_of_term kinds) (map (λ (n : Member). n.term) ms))) (All-head IsNumber m ms all)
      ∙ numbers_gathered (ks ++ number_kind ∷ []) ms (All-tail IsNumber m ms all) ∙ ap (λ qs. Some qs) (append_assoc ks (number_kind ∷ []) (map (λ (n : Member). number_kind) ms))

-- ---- lists of numbers
all_ahead : {X : Type 0} (xs : List X) (rest : List InputKind) → all_numbers (map (λ x. number_kind) xs ++ rest) ≡ all_numbers rest
all_ahead [] rest = refl
all_ahead (x ∷ xs) rest = all_ahead xs rest

kinds_of_numbers : (ws : List ℤ) → kinds_of (map Int ws) ≡ map (λ w. number_kind) ws
kinds_of_numbers [] = refl
kinds_of_numbers (w ∷ ws) = ap (λ ks. number_kind ∷ ks) (kinds_of_numbers ws)

same_numbers : (m n : ℕ) → m ≡ n → (m == n) ≡ true
same_numbers m n e = grind (arith, nat_tests, e)

both_true : (a b : Bool) → a ≡ true → b ≡ true → (a && b) ≡ true
both_true true b p q = q
both_true false b p q = p

total_takes : (ms : List Member) (ws : List ℤ) (ks : List InputKind) → length ws ≡ length ms → ks ≡ map (λ m. number_kind) ms ++ map (λ w. number_kind) ws → (weighted_total (length ms)).takes ks ≡ true
total_takes ms ws ks long e =
    let count : length ks ≡ length ms + length ms =
    ap length e ∙ length-append (map (λ (m : Member). number_kind) ms) (map (λ (w : ℤ). number_kind) ws)
    ∙ (let one = length-map ms (λ (m : Member). number_kind) in let two = length-map ws (λ (w : ℤ). number_kind) in omega (arith, one, two, long)) in
    let numbers : all_numbers ks ≡ true = ap all_numbers (e ∙ ap (λ qs. map (λ (m : Member). number_kind) ms ++ qs) (sym (append-nil (map (λ (w : ℤ). number_kind) ws)))) ∙ all_ahead ms (map (λ (w : ℤ). number_kind) ws ++ []) ∙ all_ahead ws [] in
    both_true (all_numbers ks) (length ks == length ms + length ms) numbers (same_numbers (length ks) (length ms + length ms) count)

-- ---- in a graph that holds a model
module _ (viol_of : ℕ → List ℤ → ℤ) (viol_at : ℕ → List ℤ → ℕ → ℤ) (M : Model) (a : List ℤ) (formed : IsWellFormed M) (acyclic : IsAcyclic M) (long : length a ≡ length M.vars.items) (sets : HasDefinedSets M)
    (g : Graph) (id_of_total : Whole → ℕ) (holds : HoldsModel (user_rules viol_of viol_at) M g id_of_total) (o : ℕ → Outcome) (meaning : IsMeaning g (start_of (numbers_of M a)) o) where
  abbrev users : ℕ → NumberRule
  users = user_rules viol_of viol_at

  abbrev env : ℕ → Option Input
  env = outcome_of_var users M a

  has : HasKinds (kinds_in M.vars.items) env
  has = variables_kinded users M a formed sets long

  -- subterms
  node_takes : (t : Term) (y : Term-F Term) → out-Term t ≡ y → IsNode y → HasKind M t → All (HasKind M) (arguments_of y) → (xs : List Input) → gathered (map (outcome_of users env) (arguments_of y)) ≡ Some xs → takes_by users y (kinds_of xs) ≡ true
  node_takes t (Term-F.Const x) out own kind all xs e = ap (λ vs. nat_eq (length (kinds_of vs)) 0) (sym (some_same [] xs e))
  node_takes t (Term-F.ConstSet s) out own kind all xs e = ap (λ vs. nat_eq (length (kinds_of vs)) 0) (sym (some_same [] xs e))
  node_takes t (Term-F.Var v) out own kind all xs e = absurd own
  node_takes t (Term-F.Node op args place) out own kind all xs e =
      let are = values_kinded users (kinds_in M.vars.items) env has args.items xs all e in
      let whole : kind_of_term (kinds_in M.vars.items) t ≡ node_kind op (all_kinds (map (kind_of_term (kinds_in M.vars.items)) args.items)) =
      ap (kind_of_term (kinds_in M.vars.items)) (sym (roll_out t) ∙ ap roll-Term out) ∙ fold-roll-Term (Option InputKind) (kind_step (kinds_in M.vars.items)) (Term-F.Node op args place) in
      takes_args viol_of viol_at op (kinds_of xs) (subst (λ ks. IsSome (node_kind op ks)) are (subst IsSome whole kind))

  no_less : (k n : ℕ) → (n + k) - n ≡ k
  no_less k n = omega arith

  term_inputs : (k : ℕ) (t : Term) → slice_get (distinct_subterms M) k ≡ Some t → g.inputs (cells_of M + k) ≡ inputs_of_node M (Some t)
  term_inputs k t e =
      let within = slice_get_within (distinct_subterms M) k t e in
      holds.terms.inputs (cells_of M + k) (omega (arith, within))
      ∙ ap (λ b. cond b (inputs_of_cell M (term_defined M (cells_of M + k))) (inputs_of_node M (term_at M (cells_of M + k)))) (past_first (cells_of M + k) (cells_of M) (omega arith))
      ∙ ap (λ i. inputs_of_node M (slice_get (distinct_subterms M) i)) (no_less k (cells_of M)) ∙ ap (inputs_of_node M) e

  term_takes : (k : ℕ) (t : Term) (xs : List Input) → slice_get (distinct_subterms M) k ≡ Some t → values_of (map o (g.inputs (cells_of M + k))) ≡ Some xs → takes_by users (out-Term t) (kinds_of xs) ≡ true
  term_takes k t xs at e =
      let there = arguments_there M k t at in
      let kind = subterm_kinded M formed k t at in
      let args = arguments_of (out-Term t) in
      let all = arguments_kinded (kinds_in M.vars.items) t kind in
      let same : values_of (map o (map (id_of M) args)) ≡ gathered (map (outcome_of users env) args) =
      values_gathered (map o (map (id_of M) args))
      ∙ ap gathered (values_at_ids users env M o (vars_held users M a formed acyclic long g holds.terms o meaning) (nodes_held users M a formed acyclic long g holds.terms o meaning) args there.1 all) in
      node_takes t (out-Term t) refl there.0 kind all xs (sym same ∙ ap (λ is. values_of (map o is)) (sym (term_inputs k t at)) ∙ e)

  -- totals
  members_gathered : (whole : Whole) → values_of (map o (map (λ m. id_of M m.term) (members_of M whole))) ≡ gathered (map (outcome_of users env) (map (λ m. m.term) (members_of M whole)))
  members_gathered whole =
      let ms = members_of M whole in
      values_gathered (map o (map (λ (m : Member). id_of M m.term) ms))
      ∙ ap gathered
      (ap (map value_part) (map_map o (λ (m : Member). id_of M m.term) ms) ∙ map_map value_part (λ (m : Member). o (id_of M m.term)) ms
      ∙ members_values users M a formed acyclic long g holds.terms o meaning ms (members_usual M formed whole) ∙ sym (map_map (outcome_of users env) (λ (m : Member). m.term) ms))

  members_have : (ms : List Member) → All (IsUsual M) ms → All (HasKind M) (map (λ m. m.term) ms)
  members_have [] all = All-nil (HasKind M)
  members_have (m ∷ ms) all = All-cons (HasKind M) m.term (map (λ (n : Member). n.term) ms) (All-head (IsUsual M) m ms all).1 (members_have ms (All-tail (IsUsual M) m ms all))

  with_numbers : (whole : Whole) (v : Option (List Input)) (xs : List Input) → values_of (map o (map (λ m. id_of M m.term) (members_of M whole))) ≡ v → and_numbers v (map (λ m. m.weight) (members_of M whole)) ≡ Some xs →
      (weighted_total (length (members_of M whole))).takes (kinds_of xs) ≡ true
  with_numbers whole (Some vs) xs is e =
      let ms = members_of M whole in
      let ws = map (λ (m : Member). m.weight) ms in
      let some : gathered (map (outcome_of users env) (map (λ (m : Member). m.term) ms)) ≡ Some vs = sym (members_gathered whole) ∙ is in
      let are = values_kinded users (kinds_in M.vars.items) env has (map (λ (m : Member). m.term) ms) vs (members_have ms (members_usual M formed whole)) some in
      let kinds_same : kinds_of vs ≡ map (λ (m : Member). number_kind) ms = kinds_equal (kinds_of vs) (map (λ (m : Member). number_kind) ms) (sym are ∙ numbers_gathered M [] ms (members_numbers M formed whole)) in
      total_takes ms ws (kinds_of xs) (length-map ms (λ (m : Member). m.weight))
      (ap kinds_of (sym (some_same (vs ++ map Int ws) xs e)) ∙ map-append kind_of vs (map Int ws) ∙ ap (λ ks. ks ++ kinds_of (map Int ws)) kinds_same ∙ ap (λ ks. map (λ (m : Member). number_kind) ms ++ ks) (kinds_of_numbers ws))
    where
      kinds_equal : (ks ls : List InputKind) → ◌≡◌ {A = Option (List InputKind)} (Some ks) (Some ls) → ks ≡ ls
      kinds_equal ks ls e = cc
  with_numbers whole None xs is e = let c : None ≡ Some xs = e in cc

  total_taken : (whole : Whole) (xs : List Input) → IsOf M whole → values_of (map o (g.inputs (id_of_total whole))) ≡ Some xs → (weighted_total (length (members_of M whole))).takes (kinds_of xs) ≡ true
  total_taken whole xs there e =
      let total = holds.totals whole there in
      let mids = map (λ (m : Member). id_of M m.term) (members_of M whole) in
      let ws = map (λ (m : Member). m.weight) (members_of M whole) in
      with_numbers whole (values_of (map o mids)) xs refl
      (sym (numbers_last (map o mids) ws)
      ∙ sym (ap (λ is. values_of (map o is)) total.inputs ∙ ap values_of (map-append o mids total.weights ∙ ap (λ qs. map o mids ++ qs) (weights_are users M a formed acyclic long g holds.terms o meaning whole total.weights total.weighed))) ∙ e)

  -- repeats
  repeat_by : (q : Option (Result ℤ Failure)) (p : Outcome) (xs : List Input) → p ≡ came_total q → values_of (p ∷ []) ≡ Some xs → repeat.takes (kinds_of xs) ≡ true
  repeat_by (Some (Ok z)) p xs is e = ap (λ vs. repeat.takes (kinds_of vs)) (sym (some_same (Int z ∷ []) xs (sym (ap (λ r. values_of (r ∷ [])) is) ∙ e)))
  repeat_by (Some (Err f)) p xs is e = let c : None ≡ Some xs = sym (ap (λ r. values_of (r ∷ [])) is) ∙ e in cc
  repeat_by None p xs is e = let c : None ≡ Some xs = sym (ap (λ r. values_of (r ∷ [])) is) ∙ e in cc

  pub are_taken : AreTaken users M g id_of_total o
  are_taken = record {
    terms = term_takes;
    totals = total_taken;
    repeats = λ whole xs there e. repeat_by (sum_in users M env whole (place_of M whole)) (o (id_of_total whole)) xs (total_is users M a formed acyclic long g holds.terms o meaning whole (id_of_total whole) (holds.totals whole there) (place_of M whole)) e;
  }
