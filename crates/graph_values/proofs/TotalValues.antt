-- A total's node comes to the total of its members, each times its weight.
use Rattle.std.proofs.Common.{◌≡◌, ℕ, ℤ, List, [], ◌∷◌, ◌++◌, map, fold, Option, Some, None, length, refl, sym, ap, ◌∙◌, Result, Ok, Err}
use Rattle.std.specs.List.{cons_option, filter_map}
use Rattle.std.proofs.lemmas.List.{append-nil, append_assoc, map-append, length-map}
use Rattle.cbl_base.specs.Inputs.{number_of, numbers_of}
use Rattle.cbl_base.specs.NumberRule.{NumberRule, as_value}
use Rattle.cbl_base.specs.declared.faults.RunFault.{RunFault}
use Rattle.cbl_base.specs.declared.input.Input.{Input}
use Rattle.cbl_base.specs.declared.input.Input.TheVariants.{Int}
use Rattle.cbl_base.specs.declared.place.Place.{Place}
use Rattle.cbl_violations.specs.Violations.WeightedTotal.{weighted_total, weighted_total_value}
use Rattle.model_values.specs.Outcomes.{outcome_of}
use Rattle.model_values.specs.Support.{member_in}
use Rattle.model_values.specs.Wholes.{Parts, add_posted, gather_number, sum_in, sum_of, total_at, with_part}
use Rattle.model_values.specs.declared.failure.Failure.{Failure}
use Rattle.model_values.specs.declared.wholes.Whole.{Whole}
use Rattle.store_turns.specs.Meaning.{Graph, IsMeaning, come_to, outcome_of as ran, values_of, with_value}
use Rattle.store_turns.specs.declared.outcome.Outcome.{Outcome}
use Rattle.store_turns.specs.declared.outcome.Outcome.TheVariants.{Value, Fails, Missing}
use Rattle.term_model.specs.declared.model.Member.{Member}
use Rattle.term_model.specs.declared.model.Model.{Model}
use Rattle.term_model.specs.declared.model.Posted.{Posted}
use Rattle.graph_values.specs.Graphs.{id_of}
use Rattle.graph_values.specs.Totals.{AreConstants, IsConstant, IsTotal, came_total}
use Rattle.graph_values.specs.Members.{members_of}
use Rattle.graph_values.proofs.FreshMeaning.{map_map}
use Rattle.graph_values.proofs.Gathering.{value_part}
use Rattle.graph_values.proofs.Held.{same_come}

-- ---- the parts of a system or an objective are those of its members
module _ (users : ℕ → NumberRule) (env : ℕ → Option Input) (M : Model) (whole : Whole) where
  abbrev pub member_outcome : Member → Option Input
  member_outcome m = outcome_of users env m.term

  abbrev pub weight_of : Member → ℤ
  weight_of m = m.weight

  abbrev parts_of : Option (List ℤ) → List ℤ → List Member → Parts
  parts_of numbers weights ms = record { numbers = fold gather_number numbers (map member_outcome ms); weights = weights ++ map weight_of ms }

  abbrev PartsAre : List Posted → Type 0
  PartsAre posted = (numbers : Option (List ℤ)) (weights : List ℤ) →
      fold (add_posted users env M whole) (record { numbers = numbers; weights = weights }) posted ≡ parts_of numbers weights (filter_map (member_in M whole) posted)

  all_parts : (posted : List Posted) → PartsAre posted
  all_parts [] numbers weights = ap (λ (ws : List ℤ). record { numbers = numbers; weights = ws }) (sym (append-nil weights))
  all_parts (p ∷ posted) numbers weights = step (member_in M whole p) (λ ns ws. all_parts posted ns ws)
    where
      step : (o : Option Member) → PartsAre posted → fold (add_posted users env M whole) (with_part users env (record { numbers = numbers; weights = weights }) o) posted ≡ parts_of numbers weights (cons_option o (filter_map (member_in M whole) posted))
      step (Some m) later =
          later (gather_number numbers (member_outcome m)) (weights ++ m.weight ∷ [])
          ∙ ap (λ (ws : List ℤ). record { numbers = fold gather_number (gather_number numbers (member_outcome m)) (map member_outcome (filter_map (member_in M whole) posted)); weights = ws })
          (append_assoc weights (m.weight ∷ []) (map weight_of (filter_map (member_in M whole) posted)))
      step None later = later numbers weights

  pub sum_of_members : (place : Place) → sum_in users M env whole place ≡ sum_of place (fold gather_number (Some []) (map member_outcome (members_of M whole))) (map weight_of (members_of M whole))
  sum_of_members place = ap (λ (p : Parts). sum_of place p.numbers p.weights) (all_parts M.posted.items (Some []) [])

-- ---- numbers of values
behind : List ℤ → Option (List Input) → Option (List ℤ)
behind ns (Some xs) = Some (ns ++ numbers_of xs)
behind ns None = None

behind_one : (ns : List ℤ) (x : Input) (v : Option (List Input)) → behind (ns ++ number_of x ∷ []) v ≡ behind ns (with_value (Value x) v)
unfolding behind
behind_one ns x (Some ys) = ap (λ zs. Some zs) (append_assoc ns (number_of x ∷ []) (numbers_of ys))
behind_one ns x None = refl

none_gathered : (os : List (Option Input)) → fold gather_number None os ≡ None
none_gathered [] = refl
none_gathered (o ∷ os) = none_gathered os

gathered_behind : (ns : List ℤ) (os : List Outcome) → fold gather_number (Some ns) (map value_part os) ≡ behind ns (values_of os)
unfolding behind
gathered_behind ns [] = ap (λ zs. Some zs) (sym (append-nil ns))
gathered_behind ns (Value x ∷ os) = gathered_behind (ns ++ number_of x ∷ []) os ∙ behind_one ns x (values_of os)
gathered_behind ns (Fails f ∷ os) = none_gathered (map value_part os)
gathered_behind ns (Missing ∷ os) = none_gathered (map value_part os)

-- ---- values with numbers behind them
abbrev pub and_numbers : Option (List Input) → List ℤ → Option (List Input)
and_numbers (Some xs) ws = Some (xs ++ map Int ws)
and_numbers None ws = None

one_more : (o : Outcome) (v : Option (List Input)) (ws : List ℤ) → with_value o (and_numbers v ws) ≡ and_numbers (with_value o v) ws
one_more (Value x) (Some xs) ws = refl
one_more (Value x) None ws = refl
one_more (Fails f) v ws = refl
one_more Missing v ws = refl

numbers_alone : (ws : List ℤ) → values_of (map (λ w. Value (Int w)) ws) ≡ and_numbers (Some []) ws
numbers_alone [] = refl
numbers_alone (w ∷ ws) = ap (with_value (Value (Int w))) (numbers_alone ws)

pub numbers_last : (os : List Outcome) (ws : List ℤ) → values_of (os ++ map (λ w. Value (Int w)) ws) ≡ and_numbers (values_of os) ws
numbers_last [] ws = numbers_alone ws
numbers_last (o ∷ os) ws = ap (with_value o) (numbers_last os ws) ∙ one_more o (values_of os) ws

numbers_again : (ws : List ℤ) → map number_of (map Int ws) ≡ ws
numbers_again [] = refl
numbers_again (w ∷ ws) = ap (λ vs. w ∷ vs) (numbers_again ws)

-- ---- the total of values
came_result : (place : Place) (r : Result ℤ RunFault) → ran (as_value r) ≡ came_total (Some (total_at place r))
came_result place (Ok z) = refl
came_result place (Err f) = refl

came_sum : (place : Place) (v : Option (List Input)) (ws : List ℤ) (count : ℕ) → count ≡ length ws →
    come_to (λ xs. as_value (weighted_total_value count (numbers_of xs))) (and_numbers v ws) ≡ came_total (sum_of place (behind [] v) ws)
unfolding behind
came_sum place (Some xs) ws count e =
    ap (λ n. ran (as_value (weighted_total_value n (numbers_of (xs ++ map Int ws))))) e
    ∙ ap (λ ns. ran (as_value (weighted_total_value (length ws) ns))) (map-append number_of xs (map Int ws) ∙ ap (λ ns. numbers_of xs ++ ns) (numbers_again ws))
    ∙ came_result place (weighted_total_value (length ws) (numbers_of xs ++ ws))
came_sum place None ws count e = refl

-- ---- the node of a total
module _ (g : Graph) (free : ℕ → Input) (o : ℕ → Outcome) (meaning : IsMeaning g free o) where
  constant_is : (id : ℕ) (x : ℤ) → IsConstant g id x → o id ≡ Value (Int x)
  constant_is id x c = meaning.nodes id c.0 c.1 ∙ ap (λ is. come_to (g.op id) (values_of (map o is))) c.2 ∙ ap ran c.3

  pub constants_are : (ids : List ℕ) (ws : List ℤ) → AreConstants g ids ws → map o ids ≡ map (λ w. Value (Int w)) ws
  constants_are [] [] c = refl
  constants_are [] (w ∷ ws) c = absurd c
  constants_are (id ∷ ids) [] c = absurd c
  constants_are (id ∷ ids) (w ∷ ws) c = ap (λ q. q ∷ map o ids) (constant_is id w c.0) ∙ ap (λ qs. Value (Int w) ∷ qs) (constants_are ids ws c.1)

  module _ (users : ℕ → NumberRule) (M : Model) (env : ℕ → Option Input) (whole : Whole) (id : ℕ) (total : IsTotal M g whole id)
      (values : map (λ m. value_part (o (id_of M m.term))) (members_of M whole) ≡ map (λ m. outcome_of users env m.term) (members_of M whole))
      (weighed : map o total.weights ≡ map (λ w. Value (Int w)) (map (λ m. m.weight) (members_of M whole))) where
    abbrev pub member_ids : List ℕ
    member_ids = map (λ m. id_of M m.term) (members_of M whole)

    abbrev weights : List ℤ
    weights = map (λ m. m.weight) (members_of M whole)

    numbers_are : behind [] (values_of (map o member_ids)) ≡ fold gather_number (Some []) (map (λ m. outcome_of users env m.term) (members_of M whole))
    numbers_are =
        sym (gathered_behind [] (map o member_ids))
        ∙ ap (fold gather_number (Some [])) (ap (map value_part) (map_map o (λ m. id_of M m.term) (members_of M whole)) ∙ map_map value_part (λ m. o (id_of M m.term)) (members_of M whole) ∙ values)

    -- it comes to the sum
    pub total_came : (place : Place) → o id ≡ came_total (sum_in users M env whole place)
    total_came place =
        meaning.nodes id total.within total.bound
        ∙ same_come (g.op id) ((weighted_total (length (members_of M whole))).value) (values_of (map o (g.inputs id))) total.op
        ∙ ap (come_to ((weighted_total (length (members_of M whole))).value))
        (ap (λ is. values_of (map o is)) total.inputs ∙ ap values_of (map-append o member_ids total.weights ∙ ap (λ qs. map o member_ids ++ qs) weighed)
        ∙ numbers_last (map o member_ids) weights)
        ∙ came_sum place (values_of (map o member_ids)) weights (length (members_of M whole)) (sym (length-map (members_of M whole) (λ (m : Member). m.weight)))
        ∙ ap (λ ns. came_total (sum_of place ns weights)) numbers_are
        ∙ ap came_total (sym (sum_of_members users env M whole place))

    -- there is one where all members have values
    pub sum_there : (place : Place) (vs : List Input) → values_of (map o member_ids) ≡ Some vs → (r : Result ℤ Failure) × (sum_in users M env whole place ≡ Some r)
    unfolding behind
    sum_there place vs e = (
      total_at place (weighted_total_value (length weights) (numbers_of vs ++ weights)),
      sum_of_members users env M whole place ∙ ap (λ ns. sum_of place ns weights) (sym numbers_are ∙ ap (behind []) e),
    )
