-- In a graph that holds a model the node of each system and objective comes to its total.
use Rattle.std.proofs.Common.{◌≡◌, ℕ, ℤ, ◌+◌, ◌<◌, Bool, true, false, List, [], ◌∷◌, map, Option, Some, None, length, refl, sym, ap, ◌∙◌, slice_get, All, Result, Ok, Err, arith}
use Rattle.std.specs.Prelude.{nat_eq, if◌then◌else◌}
use Rattle.std.specs.Option.{option_map}
use Rattle.std.specs.List.{cons_option, filter_map}
use Rattle.std.proofs.lemmas.List.Elements.{All-nil, All-cons, All-head, All-tail}
use Rattle.std.proofs.lemmas.Option.{slice_get_within}
use Rattle.cbl_base.specs.NumberRule.{NumberRule}
use Rattle.cbl_base.specs.declared.input.Input.{Input}
use Rattle.cbl_base.specs.declared.input.Input.TheVariants.{Int}
use Rattle.cbl_base.specs.declared.place.Place.{Place}
use Rattle.cbl_violations.specs.Violations.Repeat.{repeat}
use Rattle.model_values.specs.Outcomes.{outcome_of}
use Rattle.model_values.specs.Support.{member_in}
use Rattle.model_values.specs.VarOutcomes.{outcome_of_var}
use Rattle.model_values.specs.Wholes.{sum_in}
use Rattle.model_values.specs.declared.failure.Failure.{Failure}
use Rattle.model_values.specs.declared.wholes.Whole.{Whole}
use Rattle.model_values.specs.declared.wholes.Whole.TheVariants.{System, Objective}
use Rattle.model_values.proofs.PartLaws.{member_kinded}
use Rattle.store_build.specs.Aims.{start_of}
use Rattle.store_turns.specs.Meaning.{Graph, IsMeaning, come_to, values_of}
use Rattle.store_turns.specs.declared.outcome.Outcome.{Outcome}
use Rattle.store_turns.specs.declared.outcome.Outcome.TheVariants.{Value}
use Rattle.term_count.specs.Codes.{is_known}
use Rattle.term_model.specs.Definitions.{IsAcyclic}
use Rattle.term_model.specs.Posting.{member_at, term_posted}
use Rattle.term_model.specs.Subterms.{distinct_subterms}
use Rattle.term_model.specs.Wellformed.{IsWellFormed}
use Rattle.term_model.specs.declared.model.Member.{Member}
use Rattle.term_model.specs.declared.model.Model.{Model}
use Rattle.term_model.specs.declared.model.Posted.{Posted}
use Rattle.term_model.specs.declared.model.Posted.TheVariants.{Define, Constrain, Part}
use Rattle.term_model.specs.declared.model.Total.{Total}
use Rattle.term_model.specs.declared.posting.Side.TheVariants.{Systems}
use Rattle.term_model.specs.declared.term.Term.{Term}
use Rattle.term_model.proofs.EqualTerms.{eq_of}
use Rattle.graph_values.specs.Graphs.{HoldsTerms, id_of}
use Rattle.graph_values.specs.Totals.{AreWeights, IsRepeat, IsTotal, came_repeat, came_total, weight_ids}
use Rattle.graph_values.specs.Members.{cells_of, members_before, members_of, numbers_of, variables_of}
use Rattle.graph_values.proofs.Arguments.{all_posted}
use Rattle.graph_values.proofs.FreshMeaning.{at_weight, map_map, nodes_at, value_at_id, vars_at}
use Rattle.graph_values.proofs.Gathering.{value_part}
use Rattle.graph_values.proofs.Held.{same_come, same_fresh}
use Rattle.graph_values.proofs.KindedTerms.{HasKind}
use Rattle.graph_values.proofs.TotalValues.{constants_are, sum_there, total_came}
use Rattle.graph_values.proofs.WeightCells.{range_same, weight_within, weights_read}

-- ---- members
pub all_filtered : {X Y : Type 0} (P : X → Type 0) (Q : Y → Type 0) (h : X → Option Y) → ((x : X) (y : Y) → P x → h x ≡ Some y → Q y) → (xs : List X) → All P xs → All Q (filter_map h xs)
all_filtered P Q h f [] all = All-nil Q
all_filtered {Y = Y} P Q h f (x ∷ xs) all = by (h x) refl (all_filtered P Q h f xs (All-tail P x xs all))
  where
    by : (o : Option Y) → h x ≡ o → All Q (filter_map h xs) → All Q (cons_option o (filter_map h xs))
    by (Some y) e rest = All-cons Q y (filter_map h xs) (f x y (All-head P x xs all) e) rest
    by None e rest = rest

pub if_some : {X : Type 0} (b : Bool) (o : Option X) (x : X) → (if b then o else None) ≡ Some x → (b ≡ true) × (o ≡ Some x)
if_some true o x e = (refl, e)
if_some false o x e = let c : None ≡ Some x = e in cc

member_at_own : (totals : List Total) (system s k : ℕ) (m : Member) → (if nat_eq system s then member_at totals s k else None) ≡ Some m → option_map (λ (n : Member). n.term) (member_at totals system k) ≡ Some m.term
member_at_own totals system s k m e =
    let parts = if_some (nat_eq system s) (member_at totals s k) m e in
    ap (option_map (λ (n : Member). n.term)) (ap (λ q. member_at totals q k) (eq_of system s parts.0) ∙ parts.1)

-- the term of a member that was posted
pub member_term : (M : Model) (whole : Whole) (p : Posted) (m : Member) → member_in M whole p ≡ Some m → term_posted M p ≡ Some m.term
member_term M (System s) (Define d) m e = let c : None ≡ Some m = e in cc
member_term M (System s) (Constrain system k) m e = member_at_own M.systems.items system s k m e
member_term M (System s) (Part objective k) m e = let c : None ≡ Some m = e in cc
member_term M (Objective o) (Define d) m e = let c : None ≡ Some m = e in cc
member_term M (Objective o) (Constrain system k) m e = let c : None ≡ Some m = e in cc
member_term M (Objective o) (Part objective k) m e = member_at_own M.objectives.items objective o k m e

abbrev pub IsUsual : Model → Member → Type 0
IsUsual M m = (is_known (distinct_subterms M) m.term ≡ true) × HasKind M m.term

pub members_usual : (M : Model) → IsWellFormed M → (whole : Whole) → All (IsUsual M) (members_of M whole)
members_usual M formed whole =
    all_filtered (λ p. (t : Term) → term_posted M p ≡ Some t → is_known (distinct_subterms M) t ≡ true) (IsUsual M) (member_in M whole)
    (λ p m known e. (known m.term (member_term M whole p m e), member_kinded M formed whole p m (sym e))) M.posted.items (all_posted M)

-- ---- in a graph that holds the terms
module _ (users : ℕ → NumberRule) (M : Model) (a : List ℤ) (formed : IsWellFormed M) (acyclic : IsAcyclic M) (long : length a ≡ length M.vars.items) (g : Graph) (holds : HoldsTerms users M g) (o : ℕ → Outcome) (meaning : IsMeaning g (start_of (numbers_of M a)) o) where
  abbrev env : ℕ → Option Input
  env = outcome_of_var users M a

  pub vars_held : (i : ℕ) → i < variables_of M → value_part (o i) ≡ env i
  vars_held i lt = ap value_part (same_fresh users M a formed acyclic long g holds o meaning i (omega (arith, lt))) ∙ vars_at users M a i lt

  pub nodes_held : (k : ℕ) (u : Term) → slice_get (distinct_subterms M) k ≡ Some u → value_part (o (cells_of M + k)) ≡ outcome_of users env u
  nodes_held k u e =
      let within = slice_get_within (distinct_subterms M) k u e in
      ap value_part (same_fresh users M a formed acyclic long g holds o meaning (cells_of M + k) (omega (arith, within))) ∙ nodes_at users M a k u e

  pub members_values : (ms : List Member) → All (IsUsual M) ms → map (λ m. value_part (o (id_of M m.term))) ms ≡ map (λ m. outcome_of users env m.term) ms
  members_values [] all = refl
  members_values (m ∷ ms) all =
      let one = All-head (IsUsual M) m ms all in
      ap (λ x. x ∷ map (λ m. value_part (o (id_of M m.term))) ms) (value_at_id users env M o vars_held nodes_held m.term one.0 one.1)
      ∙ ap (λ xs. outcome_of users env m.term ∷ xs) (members_values ms (All-tail (IsUsual M) m ms all))

  -- the ids of weights have these
  cells_are : (s : ℕ) → map o (weight_ids M (System s)) ≡ map (λ w. Value (Int w)) (map (λ m. m.weight) (members_of M (System s)))
  cells_are s =
      range_same o (λ i. Value (start_of (numbers_of M a) i)) (variables_of M + length (members_before M Systems s)) (length (members_of M (System s)))
      (λ i low high. (let own = weight_within M s i low high in
      let lt = own.1 in same_fresh users M a formed acyclic long g holds o meaning i (omega (arith, lt)) ∙ at_weight users M a i own.0 own.1))
      ∙ sym (map_map (λ (x : Input). Value x) (start_of (numbers_of M a)) (weight_ids M (System s)))
      ∙ ap (map (λ (x : Input). Value x)) (weights_read M a long s)
      ∙ map_map (λ (x : Input). Value x) Int (map (λ (m : Member). m.weight) (members_of M (System s)))

  pub weights_are : (whole : Whole) (ids : List ℕ) → AreWeights M g whole ids → map o ids ≡ map (λ w. Value (Int w)) (map (λ m. m.weight) (members_of M whole))
  weights_are (System s) ids is = ap (map o) is ∙ cells_are s
  weights_are (Objective k) ids are = constants_are g (start_of (numbers_of M a)) o meaning ids (map (λ m. m.weight) (members_of M (Objective k))) are

  module _ (whole : Whole) (id : ℕ) (total : IsTotal M g whole id) where
    pub total_is : (place : Place) → o id ≡ came_total (sum_in users M env whole place)
    total_is place =
        total_came g (start_of (numbers_of M a)) o meaning users M env whole id total (members_values (members_of M whole) (members_usual M formed whole)) (weights_are whole total.weights total.weighed) place

    pub total_there : (place : Place) (vs : List Input) → values_of (map o (map (λ m. id_of M m.term) (members_of M whole))) ≡ Some vs → (r : Result ℤ Failure) × (sum_in users M env whole place ≡ Some r)
    total_there place vs e =
        sum_there g (start_of (numbers_of M a)) o meaning users M env whole id total (members_values (members_of M whole) (members_usual M formed whole)) (weights_are whole total.weights total.weighed) place vs e

    -- a node that repeats it has its number
    repeat_came : (q : Option (Result ℤ Failure)) (p : Outcome) → p ≡ came_total q → come_to repeat.value (values_of (p ∷ [])) ≡ came_repeat q
    repeat_came (Some (Ok z)) p e = ap (λ r. come_to repeat.value (values_of (r ∷ []))) e
    repeat_came (Some (Err f)) p e = ap (λ r. come_to repeat.value (values_of (r ∷ []))) e
    repeat_came None p e = ap (λ r. come_to repeat.value (values_of (r ∷ []))) e

    pub repeat_is : (place : Place) (j : ℕ) → IsRepeat g j id → o j ≡ came_repeat (sum_in users M env whole place)
    repeat_is place j again =
        meaning.nodes j again.0 again.1 ∙ ap (λ is. come_to (g.op j) (values_of (map o is))) again.2 ∙ same_come (g.op j) repeat.value (values_of (o id ∷ [])) again.3
        ∙ repeat_came (sum_in users M env whole place) (o id) (total_is place)
