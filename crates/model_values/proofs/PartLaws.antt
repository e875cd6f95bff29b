-- The members of a system or an objective are well kinded numbers, and go to its parts one after another.
use Rattle.std.proofs.Common.{◌≡◌, ℕ, ℤ, ◌+◌, ◌<◌, Bool, true, false, List, [], ◌∷◌, ◌++◌, Option, Some, None, IsSome, is_some, Result, Err, length, length-append, get_or, take, refl, sym, ap, ◌∙◌, subst, slice_get}
use Rattle.std.specs.Prelude.{nat_eq, unwrap_or, if◌then◌else◌}
use Rattle.std.specs.Option.{option_and_then}
use Rattle.std.proofs.lemmas.List.Sums.{fold_more}
use Rattle.cbl_base.specs.NumberRule.{NumberRule}
use Rattle.cbl_base.specs.declared.place.Place.{Place}
use Rattle.term_model.specs.Kinds.{kinds_in, kind_of_term}
use Rattle.term_model.specs.Posting.{member_at}
use Rattle.model_values.specs.Outcomes.{Outcome, outcome_of}
use Rattle.model_values.specs.Support.{failure_below, member_in}
use Rattle.model_values.specs.Wholes.{gather_number, Parts, no_parts, with_part, add_posted, parts_in, outcome_of_whole, sum_in, sum_of, sum_or, HasWeights}
use Rattle.model_values.specs.Failures.{no_failure}
use Rattle.term_model.specs.Wellformed.{IsWellFormed, IsMember}
use Rattle.term_model.specs.declared.model.Member.{Member}
use Rattle.term_model.specs.declared.model.Model.{Model}
use Rattle.term_model.specs.declared.model.Posted.{Posted}
use Rattle.term_model.specs.declared.model.Posted.TheVariants.{Define, Constrain, Part}
use Rattle.term_model.specs.declared.model.Total.{Total}
use Rattle.model_values.specs.declared.failure.Failure.{Failure}
use Rattle.model_values.specs.declared.wholes.Whole.{Whole}
use Rattle.model_values.specs.declared.wholes.Whole.TheVariants.{System, Objective}

-- ---- members are well kinded
module _ (M : Model) (totals : List Total) (each : (s : ℕ) (total : Total) (k : ℕ) (member : Member) → slice_get totals s ≡ Some total → slice_get total.members.items k ≡ Some member → IsMember M member) where
  kinded_at : (s k : ℕ) (member : Member) (total : Option Total) → slice_get totals s ≡ total → option_and_then (λ (t : Total). slice_get t.members.items k) total ≡ Some member → IsSome (kind_of_term (kinds_in M.vars.items) member.term)
  kinded_at s k member (Some total) at e = ap is_some (each s total k member at e).kind
  kinded_at s k member None at e = let c : None ≡ Some member = e in cc

  kinded_if : (s k : ℕ) (member : Member) (is : Bool) → (if is then member_at totals s k else None) ≡ Some member → IsSome (kind_of_term (kinds_in M.vars.items) member.term)
  kinded_if s k member true e = kinded_at s k member (slice_get totals s) refl e
  kinded_if s k member false e = let c : None ≡ Some member = e in cc

pub member_kinded : (M : Model) → IsWellFormed M → (whole : Whole) (posted : Posted) (member : Member) → Some member ≡ member_in M whole posted → IsSome (kind_of_term (kinds_in M.vars.items) member.term)
member_kinded M formed (System s) (Constrain system k) member e = kinded_if M M.systems.items formed.systems s k member (nat_eq system s) (sym e)
member_kinded M formed (Objective o) (Part objective k) member e = kinded_if M M.objectives.items formed.objectives o k member (nat_eq objective o) (sym e)
member_kinded M formed (System s) (Define d) member e = let c : Some member ≡ None = e in cc
member_kinded M formed (System s) (Part objective k) member e = let c : Some member ≡ None = e in cc
member_kinded M formed (Objective o) (Define d) member e = let c : Some member ≡ None = e in cc
member_kinded M formed (Objective o) (Constrain system k) member e = let c : Some member ≡ None = e in cc

-- ---- one part more
pub part_added : (users : ℕ → NumberRule) (env : ℕ → Outcome) (M : Model) (whole : Whole) (numbers after : Option (List ℤ)) (weights weights' : List ℤ) (posted : Posted) (member : Member) (outcome : Outcome) →
    Some member ≡ member_in M whole posted → outcome ≡ outcome_of users env member.term → after ≡ gather_number numbers outcome → weights' ≡ weights ++ member.weight ∷ [] →
    ◌≡◌ {A = Parts} (record { numbers = after; weights = weights' }) (add_posted users env M whole (record { numbers = numbers; weights = weights }) posted)
part_added users env M whole numbers after weights weights' posted member outcome is e h w =
    ap (λ n. record { numbers = n; weights = weights' }) (h ∙ ap (gather_number numbers) e)
    ∙ ap (λ (v : List ℤ). record { numbers = gather_number numbers (outcome_of users env member.term); weights = v }) w
    ∙ ap (with_part users env (record { numbers = numbers; weights = weights })) is

one_weight : (numbers : Option (List ℤ)) (outcome : Outcome) (weights : List ℤ) (w : ℤ) → HasWeights numbers weights → HasWeights (gather_number numbers outcome) (weights ++ w ∷ [])
one_weight (Some xs) (Some x) weights w h = length-append xs (_ ∷ []) ∙ ap (λ n. n + 1) h ∙ sym (length-append weights (w ∷ []))
one_weight (Some xs) None weights w h = tt
one_weight None outcome weights w h = tt

pub part_weighed : (numbers after : Option (List ℤ)) (weights weights' : List ℤ) (w : ℤ) (outcome : Outcome) → HasWeights numbers weights → after ≡ gather_number numbers outcome → weights' ≡ weights ++ w ∷ [] → HasWeights after weights'
part_weighed numbers after weights weights' w outcome h e is =
    subst (λ n. HasWeights n weights') (sym e) (subst (HasWeights (gather_number numbers outcome)) (sym is) (one_weight numbers outcome weights w h))

-- ---- all parts
pub parts_more : (users : ℕ → NumberRule) (env : ℕ → Outcome) (M : Model) (whole : Whole) (k : ℕ) (p : Posted) (so_far after : Parts) → k < length M.posted.items → p ≡ get_or M.posted.items k p →
    so_far ≡ parts_in users env M whole (take k M.posted.items) → after ≡ add_posted users env M whole so_far p → after ≡ parts_in users env M whole (take (k + 1) M.posted.items)
parts_more users env M whole k p so_far after lt is e h =
    h ∙ ap (λ s. add_posted users env M whole s p) e
    ∙ sym (fold_more (add_posted users env M whole) no_parts M.posted.items k p lt ∙ ap (add_posted users env M whole (parts_in users env M whole (take k M.posted.items))) (sym is))

pub sum_from : (users : ℕ → NumberRule) (M : Model) (env : ℕ → Outcome) (whole : Whole) (place : Place) (numbers : Option (List ℤ)) (weights : List ℤ) →
    ◌≡◌ {A = Parts} (record { numbers = numbers; weights = weights }) (parts_in users env M whole M.posted.items) → sum_of place numbers weights ≡ sum_in users M env whole place
sum_from users M env whole place numbers weights e = ap (λ (p : Parts). sum_of place p.numbers p.weights) e

pub whole_some : (users : ℕ → NumberRule) (M : Model) (env : ℕ → Outcome) (whole : Whole) (place : Place) (found : Option (Result ℤ Failure)) (sum : Result ℤ Failure) → found ≡ sum_in users M env whole place → found ≡ Some sum →
    sum ≡ outcome_of_whole users M env whole place
whole_some users M env whole place found sum is there = ap (λ o. sum_or o (failure_below users M env whole)) (sym there ∙ is)

pub whole_none : (users : ℕ → NumberRule) (M : Model) (env : ℕ → Outcome) (whole : Whole) (place : Place) (found : Option (Result ℤ Failure)) (failure : Failure) → found ≡ sum_in users M env whole place → found ≡ None →
    failure ≡ unwrap_or (failure_below users M env whole) no_failure → Err failure ≡ outcome_of_whole users M env whole place
whole_none users M env whole place found failure is there least = ap Err least ∙ ap (λ o. sum_or o (failure_below users M env whole)) (sym there ∙ is)
