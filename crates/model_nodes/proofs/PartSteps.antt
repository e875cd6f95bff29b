-- The nodes of weights and totals, one after another.
use Rattle.std.proofs.Common.{add-one, ◌≡◌, ℕ, zero, suc, ℤ, pos, ◌+◌, ◌<◌, List, [], ◌∷◌, ◌++◌, map, Some, length, refl, sym, ap, ◌∙◌, subst, slice_get, get_or, Vec, arith}
use Rattle.std.specs.Prelude.{unwrap_or}
use Rattle.std.specs.Option.{option_map}
use Rattle.std.specs.List.{range_with_len}
use Rattle.std.proofs.lemmas.List.{append_assoc, length-append, length-map, map_push}
use Rattle.std.proofs.lemmas.Option.{slice_get-get_or, slice_get-map}
use Rattle.cbl_base.specs.NodeLaw.{Rule}
use Rattle.cbl_base.specs.declared.ids.NodeId.{NodeId}
use Rattle.cbl_violations.specs.Violations.WeightedTotal.{weighted_total}
use Rattle.model_values.specs.Fresh.{whole_by}
use Rattle.model_values.specs.Wholes.{IsOf, place_of as place_of_whole}
use Rattle.store_build.specs.Lists.{list_in}
use Rattle.store_build.proofs.ListLemmas.{at_place}
use Rattle.store_turns.specs.Meaning.{ids_of}
use Rattle.term_model.specs.Posting.{totals_by}
use Rattle.term_model.specs.declared.model.Member.{Member}
use Rattle.term_model.specs.declared.model.Model.{Model}
use Rattle.term_model.specs.declared.model.Total.{Total}
use Rattle.term_model.specs.declared.posting.Side.{Side}
use Rattle.term_model.specs.declared.posting.Side.TheVariants.{Systems, Objectives}
use Rattle.graph_values.specs.Graphs.{id_of}
use Rattle.graph_values.specs.Members.{members_before, members_by, members_of}
use Rattle.graph_values.specs.Totals.{weight_ids}
use Rattle.graph_values.specs.WholeGraphs.{total_id, weight_at}
use Rattle.graph_values.proofs.WeightCells.{within}
use Rattle.model_nodes.specs.Gathered.{AreGathered}
use Rattle.model_nodes.specs.Making.{About, Fits}
use Rattle.model_nodes.specs.Totals.{first_total, first_weight}
use Rattle.model_nodes.proofs.PartFits.{fits_total}

range_push : (first k : ℕ) → range_with_len first (k + 1) ≡ range_with_len first k ++ (first + k) ∷ []
range_push first zero = ap (λ n. n ∷ []) (let e : first ≡ first + 0 = omega arith in e)
range_push first (suc k) =
    let next : first + 1 + k ≡ first + suc k = omega arith in
    ap (range_with_len first) (add-one (suc k)) ∙ ap (λ ns. first ∷ ns) (ap (range_with_len (first + 1)) (sym (add-one k)) ∙ range_push (first + 1) k ∙ ap (λ n. range_with_len (first + 1) k ++ n ∷ []) next)

-- one weight's id more behind those of the members
pub range_more : (ids old new : List NodeId) (id : NodeId) (first k : ℕ) → ids_of old ≡ ids_of ids ++ range_with_len first k → new ≡ old ++ id ∷ [] → id.0 ≡ first + k → ids_of new ≡ ids_of ids ++ range_with_len first (k + 1)
range_more ids old new id first k before is at =
    ap ids_of is ∙ map_push (λ (i : NodeId). i.0) old id ∙ ap (λ n. ids_of old ++ n ∷ []) at ∙ ap (λ ns. ns ++ (first + k) ∷ []) before
    ∙ append_assoc (ids_of ids) (range_with_len first k) ((first + k) ∷ []) ∙ ap (λ ns. ids_of ids ++ ns) (sym (range_push first k))

-- the weight of an objective's member
pub weight_there : (M : Model) (k : ℕ) (d : ℤ) (weights : List ℤ) → weights ≡ map (λ m. m.weight) (members_by M Objectives) → k < length weights → weight_at M k ≡ get_or weights k d
weight_there M k d weights are lt =
    ap (λ o. unwrap_or o (pos 0)) (sym (slice_get-map (λ (m : Member). m.weight) (members_by M Objectives) k) ∙ ap (λ ws. slice_get ws k) (sym are) ∙ slice_get-get_or weights k d lt)

module _ (M : Model) where
  total_at : (side : Side) (k : ℕ) → first_total M side + k ≡ total_id M (whole_by side k)
  total_at Systems k = refl
  total_at Objectives k = refl

  total_of : (side : Side) (k : ℕ) → k < length (totals_by M side) → IsOf M (whole_by side k)
  total_of Systems k lt = lt
  total_of Objectives k lt = lt

  weights_at : (side : Side) (k : ℕ) → weight_ids M (whole_by side k) ≡ range_with_len (first_weight M side + length (members_before M side k)) (length (members_of M (whole_by side k)))
  weights_at Systems k = refl
  weights_at Objectives k = refl

  place_at : (side : Side) (k : ℕ) (total : Total) → slice_get (totals_by M side) k ≡ Some total → total.place ≡ place_of_whole M (whole_by side k)
  place_at Systems k total at = sym (ap (λ o. unwrap_or (option_map (λ (t : Total). t.place) o) (record { line = 0; col = 0 })) at)
  place_at Objectives k total at = sym (ap (λ o. unwrap_or (option_map (λ (t : Total). t.place) o) (record { line = 0; col = 0 })) at)

module _ {Z : Type 0} (M : Model) (side : Side) (members : List (Vec NodeId Z)) (gathered : AreGathered M side members) (k : ℕ) (lt : k < length (totals_by M side)) (ids : List NodeId) (is : ids ≡ list_in members k) where
  there : ids_of ids ≡ map (λ m. id_of M m.term) (members_of M (whole_by side k))
  there = let count = gathered.count in ap ids_of is ∙ gathered.each k (omega (arith, lt, count))

  pub members_count : length ids ≡ length (members_of M (whole_by side k))
  members_count = sym (length-map ids (λ (i : NodeId). i.0)) ∙ ap length there ∙ length-map (members_of M (whole_by side k)) (λ (m : Member). id_of M m.term)

  -- the weights have ids
  pub total_room : (first next : ℕ) → next ≡ first + length (members_before M side k) → first + length (members_by M side) < 4294967296 → next + length ids < 4294967296
  total_room first next at room =
      let count = members_count in
      let low = within M side k (length (totals_by M side)) lt in
      omega (arith, at, room, count, low)

  -- the next total's weights begin behind these
  pub next_weight : (first next : ℕ) → next ≡ first + length (members_before M side k) → next + length ids ≡ first + length (members_before M side (k + 1))
  next_weight first next at =
      let count = members_count in
      let long : length (members_before M side (k + 1)) ≡ length (members_before M side k) + length (members_of M (whole_by side k)) =
      ap (λ n. length (members_before M side n)) (add-one k) ∙ length-append (members_before M side k) (members_of M (whole_by side k)) in
      omega (arith, at, count, long)

  pub total_fits : (about : About) → about.model ≡ M → (total : Total) (id next : ℕ) (rule : Rule) (inputs : List NodeId) → total ≡ get_or (totals_by M side) k total → next ≡ first_weight M side + length (members_before M side k) →
      ids_of inputs ≡ ids_of ids ++ range_with_len next (length ids) → rule ≡ weighted_total (length ids) → id ≡ first_total M side + k → Fits about id rule inputs total.place
  total_fits about same total id next rule inputs at begins inputs_are ruled here =
      subst (λ (N : Model). Fits (record { users = about.users; model = N }) id rule inputs total.place) (sym same)
      (fits_total (record { users = about.users; model = M }) id (whole_by side k) rule inputs total.place (total_of M side k lt) (here ∙ total_at M side k) (ruled ∙ ap weighted_total members_count)
      (inputs_are ∙ ap (λ js. js ++ range_with_len next (length ids)) there
      ∙ ap (λ js. map (λ (m : Member). id_of M m.term) (members_of M (whole_by side k)) ++ js) (ap (λ n. range_with_len n (length ids)) begins ∙ ap (range_with_len (first_weight M side + length (members_before M side k))) members_count ∙ sym (weights_at M side k)))
      (place_at M side k total (at_place (totals_by M side) k total lt at)))
