-- The members of all systems, or of all objectives, go to their own one turn after another.
use Rattle.std.proofs.Common.{◌≡◌, ℕ, zero, suc, ◌+◌, ◌<◌, ◌≤◌, Bool, true, false, List, [], ◌∷◌, ◌++◌, Option, Some, None, length, length-set, get_or, take, map, replicate, refl, sym, ap, ◌∙◌, subst, arith, slice_get, set}
use native.Mathlib.Decide.{ℕ_discrete}
use Rattle.std.specs.Prelude.{nat_eq, if◌then◌else◌, unwrap_or}
use Rattle.std.specs.Option.{option_and_then}
use Rattle.std.proofs.lemmas.List.{length-map, length-replicate, take_all, take_more}
use Rattle.std.proofs.lemmas.List.Sums.{fold-append}
use Rattle.cbl_base.proofs.PlaceLemmas.{others_stay}
use Rattle.cbl_base.specs.NumberRule.{NumberRule}
use Rattle.model_values.specs.AllParts.{AreParts, all_seen}
use Rattle.model_values.specs.Fresh.{whole_by}
use Rattle.term_model.specs.Posting.{member_at, number_by, number_in, totals_by}
use Rattle.model_values.specs.Outcomes.{Outcome}
use Rattle.model_values.specs.Support.{member_in}
use Rattle.model_values.specs.Wholes.{Parts, add_posted, no_parts, parts_in, seen, with_part}
use Rattle.term_model.specs.declared.model.Model.{Model}
use Rattle.term_model.specs.declared.model.Posted.{Posted}
use Rattle.term_model.specs.declared.model.Posted.TheVariants.{Define, Constrain, Part}
use Rattle.term_model.specs.declared.model.Total.{Total}
use Rattle.term_model.specs.declared.posting.Posting.{Posting}
use Rattle.model_values.specs.declared.wholes.PartsHeld.{PartsHeld}
use Rattle.term_model.specs.declared.posting.Side.{Side}
use Rattle.term_model.specs.declared.posting.Side.TheVariants.{Systems, Objectives}
use Rattle.term_model.proofs.UsableLaws.{not_eq}
use Rattle.term_model.proofs.VarLaws.{set_same}

-- ---- the member of a total that was posted is named by its number there
member_if : (totals : List Total) (k member : ℕ) (is : Bool) → (if is then member_at totals k member else None) ≡ option_and_then (member_at totals k) (if is then Some member else None)
member_if totals k member true = refl
member_if totals k member false = refl

member_by_number : (M : Model) (side : Side) (k : ℕ) (p : Posted) → member_in M (whole_by side k) p ≡ option_and_then (member_at (totals_by M side) k) (number_by side k p)
member_by_number M Systems k (Define d) = refl
member_by_number M Systems k (Constrain system member) = member_if M.systems.items k member (nat_eq system k)
member_by_number M Systems k (Part objective member) = refl
member_by_number M Objectives k (Define d) = refl
member_by_number M Objectives k (Constrain system member) = refl
member_by_number M Objectives k (Part objective member) = member_if M.objectives.items k member (nat_eq objective k)

no_number : (posting : Posting) (k : ℕ) → (k ≡ posting.total → ⊥) → number_in k (Some posting) ≡ None
no_number posting k ne = ap (λ b. if b then Some posting.member else None) (not_eq posting.total k ne)

some_parts : (x y : Parts) → Some x ≡ Some y → x ≡ y
some_parts x y e = ap (λ o. unwrap_or o x) e

-- ---- one turn more
module _ (users : ℕ → NumberRule) (env : ℕ → Outcome) (M : Model) (side : Side) (so_far : List Posted) (p : Posted) (found : Option Posting) (is : (k : ℕ) → number_by side k p ≡ number_in k found) where
  abbrev after : List Posted
  after = so_far ++ p ∷ []

  parts_push : (k : ℕ) → parts_in users env M (whole_by side k) after ≡ add_posted users env M (whole_by side k) (parts_in users env M (whole_by side k) so_far) p
  parts_push k = fold-append (add_posted users env M (whole_by side k)) no_parts so_far (p ∷ [])

  unmoved : (k : ℕ) → number_in k found ≡ None → parts_in users env M (whole_by side k) after ≡ parts_in users env M (whole_by side k) so_far
  unmoved k none =
      parts_push k
      ∙ ap (with_part users env (parts_in users env M (whole_by side k) so_far))
      (member_by_number M side k p ∙ ap (option_and_then (member_at (totals_by M side) k)) (is k ∙ none))

  all_unmoved : ((k : ℕ) → k < length (totals_by M side) → number_in k found ≡ None) → (parts : List Parts) → AreParts users env M side so_far parts → AreParts users env M side after parts
  all_unmoved none parts are = record { count = are.count; each = λ k lt. are.each k lt ∙ ap Some (sym (unmoved k (none k lt))) }

  pub parts_same : (parts : List Parts) → found ≡ None → AreParts users env M side so_far parts → AreParts users env M side after parts
  parts_same parts e = all_unmoved (λ k lt. ap (number_in k) e) parts

  pub parts_beyond : (parts : List Parts) (posting : Posting) → found ≡ Some posting → length parts ≤ posting.total → AreParts users env M side so_far parts → AreParts users env M side after parts
  parts_beyond parts posting e beyond are =
      all_unmoved (λ k lt. ap (number_in k) e ∙ no_number posting k (λ same. let counted = are.count in let lt' : k < length (totals_by M side) = lt in omega (arith, same, counted, lt', beyond))) parts are

  pub parts_moved : (parts new : List Parts) (posting : Posting) (held moved : Parts) → found ≡ Some posting → posting.total < length parts → slice_get parts posting.total ≡ Some held →
      moved ≡ add_posted users env M (whole_by side posting.total) held p → length new ≡ length parts → slice_get new posting.total ≡ Some moved → ((k : ℕ) → (k ≡ posting.total → ⊥) → slice_get new k ≡ slice_get parts k) →
      AreParts users env M side so_far parts → AreParts users env M side after new
  parts_moved parts new posting held moved e lt there is' long put others are = record {
    count = long ∙ are.count;
    each = λ k within. moved_at k within (ℕ_discrete k posting.total);
  }
    where
      moved_at : (k : ℕ) → k < length (totals_by M side) → Dec (k ≡ posting.total) → slice_get new k ≡ Some (parts_in users env M (whole_by side k) after)
      moved_at k within (no ne) = others k ne ∙ are.each k within ∙ ap Some (sym (unmoved k (ap (number_in k) e ∙ no_number posting k ne)))
      moved_at k within (yes same) =
          let within' : posting.total < length (totals_by M side) = subst (λ j. j < length (totals_by M side)) same within in
          let one : held ≡ parts_in users env M (whole_by side posting.total) so_far = some_parts held (parts_in users env M (whole_by side posting.total) so_far) (sym there ∙ are.each posting.total within') in
          ap (slice_get new) same ∙ put
          ∙ ap Some (is' ∙ ap (λ h. add_posted users env M (whole_by side posting.total) h p) one ∙ sym (parts_push posting.total))
          ∙ ap (λ j. Some (parts_in users env M (whole_by side j) after)) (sym same)

-- ---- the parts that are held
there_mapped : {X Y : Type 0} (f : X → Y) (xs : List X) (i : ℕ) (x : X) → i < length xs → x ≡ get_or xs i x → slice_get (map f xs) i ≡ Some (f x)
there_mapped f [] i x lt is = absurd (omega arith)
there_mapped f (y ∷ xs) zero x lt is = ap (λ z. Some (f z)) (sym is)
there_mapped f (y ∷ xs) (suc i) x lt is = there_mapped f xs i x (omega arith) is

set_mapped : {X Y : Type 0} (f : X → Y) (xs : List X) (i : ℕ) (x : X) → map f (set xs i x) ≡ set (map f xs) i (f x)
set_mapped f [] i x = refl
set_mapped f (y ∷ xs) zero x = refl
set_mapped f (y ∷ xs) (suc i) x = ap (λ ys. f y ∷ ys) (set_mapped f xs i x)

pub held_beyond : (users : ℕ → NumberRule) (env : ℕ → Outcome) (M : Model) (side : Side) (p : Posted) (found : Option Posting) (posting : Posting) (held : List PartsHeld) →
    ((k : ℕ) → number_by side k p ≡ number_in k found) → found ≡ Some posting → length held ≤ posting.total →
    (so_far : List Posted) → AreParts users env M side so_far (all_seen held) → AreParts users env M side (so_far ++ p ∷ []) (all_seen held)
held_beyond users env M side p found posting held is e beyond so_far are =
    parts_beyond users env M side so_far p found is (all_seen held) posting e (omega (arith, length-map held seen, beyond)) are

-- one of them was taken out, and put back with a turn more
pub held_moved : (users : ℕ → NumberRule) (env : ℕ → Outcome) (M : Model) (side : Side) (p : Posted) (found : Option Posting) (posting : Posting) (old between new : List PartsHeld) (held none moved : PartsHeld) →
    ((k : ℕ) → number_by side k p ≡ number_in k found) → found ≡ Some posting → posting.total < length old → held ≡ get_or old posting.total held →
    between ≡ set old posting.total none → new ≡ set between posting.total moved → seen moved ≡ add_posted users env M (whole_by side posting.total) (seen held) p →
    (so_far : List Posted) → AreParts users env M side so_far (all_seen old) → AreParts users env M side (so_far ++ p ∷ []) (all_seen new)
held_moved users env M side p found posting old between new held none moved is e lt there out back moves so_far are =
    let n = posting.total in
    let twice : new ≡ set (set old n none) n moved = back ∙ ap (λ xs. set xs n moved) out in
    let mapped : all_seen new ≡ set (set (all_seen old) n (seen none)) n (seen moved) = ap all_seen twice ∙ set_mapped seen (set old n none) n moved ∙ ap (λ xs. set xs n (seen moved)) (set_mapped seen old n none) in
    let long : length (set (all_seen old) n (seen none)) ≡ length (all_seen old) = length-set (all_seen old) n (seen none) in
    let within : n < length (all_seen old) = subst (λ k. n < k) (sym (length-map old seen)) lt in
    parts_moved users env M side so_far p found is (all_seen old) (all_seen new) posting (seen held) (seen moved) e within
    (there_mapped seen old n held lt there) moves
    (ap length mapped ∙ length-set (set (all_seen old) n (seen none)) n (seen moved) ∙ long)
    (ap (λ xs. slice_get xs n) mapped ∙ set_same (set (all_seen old) n (seen none)) n (seen moved) (subst (λ k. n < k) (sym long) within))
    (λ k ne. ap (λ xs. slice_get xs k) mapped ∙ others_stay (set (all_seen old) n (seen none)) n k (seen moved) ne ∙ others_stay (all_seen old) n k (seen none) ne)
    are

-- ---- before the first turn, and behind the last
none_there : (x : Parts) (count k : ℕ) → k < count → slice_get (replicate count x) k ≡ Some x
none_there x zero k lt = absurd (omega arith)
none_there x (suc count) zero lt = refl
none_there x (suc count) (suc k) lt = none_there x count k (omega arith)

pub parts_start : (users : ℕ → NumberRule) (env : ℕ → Outcome) (M : Model) (side : Side) (parts : List Parts) → parts ≡ replicate (length (totals_by M side)) no_parts → AreParts users env M side [] parts
parts_start users env M side parts e = record {
  count = ap length e ∙ length-replicate (length (totals_by M side)) no_parts;
  each = λ k lt. ap (λ ps. slice_get ps k) e ∙ none_there no_parts (length (totals_by M side)) k lt;
}

pub turns_more : (posted : List Posted) (k : ℕ) (p : Posted) → k < length posted → p ≡ get_or posted k p → take (k + 1) posted ≡ take k posted ++ p ∷ []
turns_more posted k p lt is = take_more posted k p lt ∙ ap (λ q. take k posted ++ q ∷ []) (sym is)

pub parts_end : (users : ℕ → NumberRule) (env : ℕ → Outcome) (M : Model) (side : Side) (parts : List Parts) (k : ℕ) → length M.posted.items ≤ k → AreParts users env M side (take k M.posted.items) parts → AreParts users env M side M.posted.items parts
parts_end users env M side parts k le are = subst (λ ps. AreParts users env M side ps parts) (take_all k M.posted.items le) are

-- the parts of one total
pub part_there : (users : ℕ → NumberRule) (env : ℕ → Outcome) (M : Model) (side : Side) (posted : List Posted) (parts : List PartsHeld) (k : ℕ) (held : PartsHeld) →
    AreParts users env M side posted (all_seen parts) → k < length (totals_by M side) → k < length parts → held ≡ get_or parts k held → seen held ≡ parts_in users env M (whole_by side k) posted
part_there users env M side posted parts k held are lt within is =
    ap (λ o. unwrap_or o (seen held)) (sym (there_mapped seen parts k held within is) ∙ are.each k lt)
