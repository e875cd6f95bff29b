-- The ids of members, one posting after another.
use Rattle.std.proofs.Common.{◌≡◌, ◌≢◌, ℕ, ◌<◌, ◌≤◌, slice_get, Bool, true, false, List, [], ◌∷◌, ◌++◌, map, take, Option, Some, None, length, refl, sym, ap, ◌∙◌, Vec, arith}
use Rattle.std.specs.Prelude.{if◌then◌else◌, is_some, nat_eq}
use Rattle.std.specs.List.{cons_option, filter_map}
use Rattle.std.specs.Option.{option_and_then}
use Rattle.std.proofs.lemmas.Bool.{eqb-true, eqb-false}
use Rattle.std.proofs.lemmas.List.{append-nil, map-append, take_all}
use Rattle.std.proofs.lemmas.Option.{slice_get_within}
use Rattle.cbl_base.specs.declared.ids.NodeId.{NodeId}
use Rattle.model_values.specs.Fresh.{whole_by}
use Rattle.model_values.specs.Support.{member_in}
use Rattle.store_build.specs.Lists.{list_in}
use Rattle.store_turns.specs.Meaning.{ids_of}
use Rattle.term_model.specs.Posting.{member_at, number_by, number_in, term_posted, totals_by}
use Rattle.term_model.specs.declared.model.Member.{Member}
use Rattle.term_model.specs.declared.model.Model.{Model}
use Rattle.term_model.specs.declared.model.Posted.{Posted}
use Rattle.term_model.specs.declared.model.Total.{Total}
use Rattle.term_model.specs.declared.posting.Posting.{Posting}
use Rattle.term_model.specs.declared.posting.Side.{Side}
use Rattle.term_model.specs.declared.term.Term.{Term}
use Rattle.graph_values.specs.Graphs.{id_of}
use Rattle.graph_values.proofs.ModelTotals.{member_term}
use Rattle.model_nodes.specs.Gathered.{AreGathered, IsPut, id_for}
use Rattle.model_nodes.proofs.OwnMembers.{member_number}

-- ---- lists
filtered_push : {X Y : Type 0} (h : X → Option Y) (xs : List X) (x : X) → filter_map h (xs ++ x ∷ []) ≡ filter_map h xs ++ cons_option (h x) []
filtered_push h [] x = refl
filtered_push {Y = Y} h (z ∷ xs) x = by (h z) (filtered_push h xs x)
  where
    by : (o : Option Y) → filter_map h (xs ++ x ∷ []) ≡ filter_map h xs ++ cons_option (h x) [] → cons_option o (filter_map h (xs ++ x ∷ [])) ≡ cons_option o (filter_map h xs) ++ cons_option (h x) []
    by (Some y) e = ap (λ ys. y ∷ ys) e
    by None e = e

-- ---- what a posting says of each system or objective
module _ (M : Model) (side : Side) (p : Posted) (posting : Posting) (number : (k : ℕ) → number_by side k p ≡ number_in k (Some posting)) where
  member_is : (k : ℕ) → member_in M (whole_by side k) p ≡ option_and_then (member_at (totals_by M side) k) (if nat_eq posting.total k then Some posting.member else None)
  member_is k = member_number M side k p ∙ ap (option_and_then (member_at (totals_by M side) k)) (number k)

  here : (k : ℕ) → nat_eq posting.total k ≡ true → member_in M (whole_by side k) p ≡ member_at (totals_by M side) posting.total posting.member
  here k same =
      member_is k ∙ ap (λ b. option_and_then (member_at (totals_by M side) k) (if b then Some posting.member else None)) same
      ∙ ap (λ j. member_at (totals_by M side) j posting.member) (sym (eqb-true posting.total k same))

  elsewhere : (k : ℕ) → nat_eq posting.total k ≡ false → member_in M (whole_by side k) p ≡ None
  elsewhere k other = member_is k ∙ ap (λ b. option_and_then (member_at (totals_by M side) k) (if b then Some posting.member else None)) other

none_for : (id : NodeId) (o : Option Member) → is_some o ≡ false → id_for o id ≡ []
none_for id None e = refl
none_for id (Some m) e = let c : true ≡ false = e in cc

one_for : (id : NodeId) (o : Option Member) → is_some o ≡ true → id_for o id ≡ id ∷ []
one_for id None e = let c : false ≡ true = e in cc
one_for id (Some m) e = refl

-- there is a system or objective where there is a member of it
pub total_there : (totals : List Total) (k j : ℕ) → is_some (member_at totals k j) ≡ true → k < length totals
total_there totals k j some = by (slice_get totals k) refl
  where
    by : (o : Option Total) → slice_get totals k ≡ o → k < length totals
    by (Some total) at = slice_get_within totals k total at
    by None at = absurd (let c : false ≡ true = sym (ap (λ o. is_some (option_and_then (λ (t : Total). slice_get t.members.items j) o)) at) ∙ some in cc)

-- nothing, where it isn't on this side
pub put_none : {Z : Type 0} (M : Model) (side : Side) (p : Posted) (id : NodeId) (lists : List (Vec NodeId Z)) → ((k : ℕ) → number_by side k p ≡ number_in k None) → IsPut M side p id lists lists
put_none M side p id lists number k lt =
    let none : member_in M (whole_by side k) p ≡ None = member_number M side k p ∙ ap (option_and_then (member_at (totals_by M side) k)) (number k) in
    sym (ap (λ o. list_in lists k ++ id_for o id) none ∙ append-nil (list_in lists k))

-- nothing, where there is no such member
pub put_missing : {Z : Type 0} (M : Model) (side : Side) (p : Posted) (id : NodeId) (lists : List (Vec NodeId Z)) (posting : Posting) → ((k : ℕ) → number_by side k p ≡ number_in k (Some posting)) →
    is_some (member_at (totals_by M side) posting.total posting.member) ≡ false → IsPut M side p id lists lists
put_missing M side p id lists posting number missing k lt = by (nat_eq posting.total k) refl
  where
    by : (b : Bool) → nat_eq posting.total k ≡ b → list_in lists k ≡ list_in lists k ++ id_for (member_in M (whole_by side k) p) id
    by true same =
        sym (ap (λ ids. list_in lists k ++ ids) (ap (λ o. id_for o id) (here M side p posting number k same) ∙ none_for id (member_at (totals_by M side) posting.total posting.member) missing) ∙ append-nil (list_in lists k))
    by false other = sym (ap (λ ids. list_in lists k ++ ids) (ap (λ o. id_for o id) (elsewhere M side p posting number k other)) ∙ append-nil (list_in lists k))

pub put_there : {Z : Type 0} (M : Model) (side : Side) (p : Posted) (id : NodeId) (old new : List (Vec NodeId Z)) (posting : Posting) → ((k : ℕ) → number_by side k p ≡ number_in k (Some posting)) →
    is_some (member_at (totals_by M side) posting.total posting.member) ≡ true → list_in new posting.total ≡ list_in old posting.total ++ id ∷ [] → ((i : ℕ) → i ≢ posting.total → list_in new i ≡ list_in old i) → IsPut M side p id old new
put_there M side p id old new posting number there same others k lt = by (nat_eq posting.total k) refl
  where
    by : (b : Bool) → nat_eq posting.total k ≡ b → list_in new k ≡ list_in old k ++ id_for (member_in M (whole_by side k) p) id
    by true e =
        let is = eqb-true posting.total k e in
        ap (list_in new) (sym is) ∙ same ∙ ap (λ j. list_in old j ++ id ∷ []) is
        ∙ ap (λ ids. list_in old k ++ ids) (sym (ap (λ o. id_for o id) (here M side p posting number k e) ∙ one_for id (member_at (totals_by M side) posting.total posting.member) there))
    by false e =
        others k (λ is. eqb-false posting.total k e (sym is))
        ∙ sym (ap (λ ids. list_in old k ++ ids) (ap (λ o. id_for o id) (elsewhere M side p posting number k e)) ∙ append-nil (list_in old k))

-- ---- all postings so far
pub record AreGatheredTo {Z : Type 0} (M : Model) (side : Side) (posted : List Posted) (lists : List (Vec NodeId Z)) : Type 0 where
  pub count : length lists ≡ length (totals_by M side)
  pub each : (k : ℕ) → k < length lists → ids_of (list_in lists k) ≡ map (λ m. id_of M m.term) (filter_map (member_in M (whole_by side k)) posted)

id_given : (M : Model) (side : Side) (p : Posted) (id : NodeId) → ((t : Term) → term_posted M p ≡ Some t → id.0 ≡ id_of M t) → (k : ℕ) (o : Option Member) → member_in M (whole_by side k) p ≡ o → ids_of (id_for o id) ≡ map (λ m. id_of M m.term) (cons_option o [])
id_given M side p id own k (Some m) e = ap (λ i. i ∷ []) (own m.term (member_term M (whole_by side k) p m e))
id_given M side p id own k None e = refl

module _ {Z : Type 0} (M : Model) (side : Side) where
  pub gathered_none : (lists : List (Vec NodeId Z)) → length lists ≡ length (totals_by M side) → ((k : ℕ) → list_in lists k ≡ []) → AreGatheredTo M side [] lists
  gathered_none lists count none = record { count = count; each = λ k lt. ap ids_of (none k) }

  pub gathered_more : (ps : List Posted) (p : Posted) (id : NodeId) (old new : List (Vec NodeId Z)) → ((t : Term) → term_posted M p ≡ Some t → id.0 ≡ id_of M t) →
      length new ≡ length old → IsPut M side p id old new → AreGatheredTo M side ps old → AreGatheredTo M side (ps ++ p ∷ []) new
  gathered_more ps p id old new own count put are = record {
    count = count ∙ are.count;
    each = λ k lt. (let within : k < length old = omega (arith, lt, count) in
        ap ids_of (put k within) ∙ map-append (λ (i : NodeId). i.0) (list_in old k) (id_for (member_in M (whole_by side k) p) id)
        ∙ ap (λ is. is ++ ids_of (id_for (member_in M (whole_by side k) p) id)) (are.each k within)
        ∙ ap (λ is. map (λ (m : Member). id_of M m.term) (filter_map (member_in M (whole_by side k)) ps) ++ is) (id_given M side p id own k (member_in M (whole_by side k) p) refl)
        ∙ sym (map-append (λ (m : Member). id_of M m.term) (filter_map (member_in M (whole_by side k)) ps) (cons_option (member_in M (whole_by side k) p) []))
        ∙ ap (map (λ (m : Member). id_of M m.term)) (sym (filtered_push (member_in M (whole_by side k)) ps p)));
  }

  pub gathered_all : (lists : List (Vec NodeId Z)) (n : ℕ) → length M.posted.items ≤ n → AreGatheredTo M side (take n M.posted.items) lists → AreGathered M side lists
  gathered_all lists n le are = record {
    count = are.count;
    each = λ k lt. are.each k lt ∙ ap (λ ps. map (λ (m : Member). id_of M m.term) (filter_map (member_in M (whole_by side k)) ps)) (take_all n M.posted.items le);
  }
