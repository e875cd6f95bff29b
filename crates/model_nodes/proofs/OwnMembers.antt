-- The members of a system or an objective, in order of posting, are its own, in order.
use Rattle.std.proofs.Common.{◌≡◌, ℕ, ◌+◌, Bool, true, false, List, [], ◌∷◌, ◌++◌, Option, Some, None, length, refl, sym, ap, ◌∙◌, slice_get}
use Rattle.std.specs.Prelude.{if◌then◌else◌, nat_eq}
use Rattle.std.specs.List.{cons_option, filter_map, range_with_len}
use Rattle.std.specs.Option.{option_and_then}
use Rattle.std.proofs.lemmas.List.{append_assoc, length-append}
use Rattle.model_values.specs.Fresh.{whole_by}
use Rattle.model_values.specs.Support.{member_in}
use Rattle.term_model.specs.Posting.{member_at, number_by, totals_by}
use Rattle.term_model.specs.Wellformed.{IsWellFormed}
use Rattle.term_model.specs.declared.model.Model.{Model}
use Rattle.term_model.specs.declared.model.Posted.{Posted}
use Rattle.term_model.specs.declared.model.Posted.TheVariants.{Define, Constrain, Part}
use Rattle.term_model.specs.declared.model.Total.{Total}
use Rattle.term_model.specs.declared.posting.Side.{Side}
use Rattle.term_model.specs.declared.posting.Side.TheVariants.{Systems, Objectives}
use Rattle.graph_values.specs.Members.{members_of}

-- ---- lists
filtered_same : {X Y : Type 0} (f g : X → Option Y) → ((x : X) → f x ≡ g x) → (xs : List X) → filter_map f xs ≡ filter_map g xs
filtered_same f g same [] = refl
filtered_same f g same (x ∷ xs) = ap (λ o. cons_option o (filter_map f xs)) (same x) ∙ ap (cons_option (g x)) (filtered_same f g same xs)

filtered_twice : {X Y Z : Type 0} (f : Y → Option Z) (g : X → Option Y) (xs : List X) → filter_map (λ x. option_and_then f (g x)) xs ≡ filter_map f (filter_map g xs)
filtered_twice f g [] = refl
filtered_twice {Y = Y} {Z = Z} f g (x ∷ xs) = by (g x) (filtered_twice f g xs)
  where
    by : (o : Option Y) → filter_map (λ z. option_and_then f (g z)) xs ≡ filter_map f (filter_map g xs) → cons_option (option_and_then f o) (filter_map (λ z. option_and_then f (g z)) xs) ≡ filter_map f (cons_option o (filter_map g xs))
    by (Some y) e = ap (cons_option (f y)) e
    by None e = e

at_seam : {X : Type 0} (xs : List X) (y : X) (ys : List X) → slice_get (xs ++ y ∷ ys) (length xs) ≡ Some y
at_seam [] y ys = refl
at_seam (x ∷ xs) y ys = at_seam xs y ys

all_read : {X : Type 0} (xs ys : List X) → filter_map (slice_get (xs ++ ys)) (range_with_len (length xs) (length ys)) ≡ ys
all_read xs [] = refl
all_read xs (y ∷ ys) =
    ap (λ o. cons_option o (filter_map (slice_get (xs ++ y ∷ ys)) (range_with_len (length xs + 1) (length ys)))) (at_seam xs y ys)
    ∙ ap (λ rest. y ∷ rest)
    (ap (λ n. filter_map (slice_get (xs ++ y ∷ ys)) (range_with_len n (length ys))) (sym (length-append xs (y ∷ [])))
    ∙ ap (λ whole. filter_map (slice_get whole) (range_with_len (length (xs ++ y ∷ [])) (length ys))) (sym (append_assoc xs (y ∷ []) ys))
    ∙ all_read (xs ++ y ∷ []) ys)

-- ---- what was posted to one system or objective
either_read : {X : Type 0} (f : ℕ → Option X) (b : Bool) (k : ℕ) → (if b then f k else None) ≡ option_and_then f (if b then Some k else None)
either_read f true k = refl
either_read f false k = refl

pub member_number : (M : Model) (side : Side) (k : ℕ) (p : Posted) → member_in M (whole_by side k) p ≡ option_and_then (member_at (totals_by M side) k) (number_by side k p)
member_number M Systems k (Define d) = refl
member_number M Systems k (Constrain system j) = either_read (member_at M.systems.items k) (nat_eq system k) j
member_number M Systems k (Part objective j) = refl
member_number M Objectives k (Define d) = refl
member_number M Objectives k (Constrain system j) = refl
member_number M Objectives k (Part objective j) = either_read (member_at M.objectives.items k) (nat_eq objective k) j

numbers_posted : (M : Model) → IsWellFormed M → (side : Side) (k : ℕ) (total : Total) → slice_get (totals_by M side) k ≡ Some total → filter_map (number_by side k) M.posted.items ≡ range_with_len 0 (length total.members.items)
numbers_posted M formed Systems k total at = formed.posted_constraints k total at
numbers_posted M formed Objectives k total at = formed.posted_parts k total at

pub own_members : (M : Model) → IsWellFormed M → (side : Side) (k : ℕ) (total : Total) → slice_get (totals_by M side) k ≡ Some total → members_of M (whole_by side k) ≡ total.members.items
own_members M formed side k total at =
    filtered_same (member_in M (whole_by side k)) (λ p. option_and_then (member_at (totals_by M side) k) (number_by side k p)) (member_number M side k) M.posted.items
    ∙ filtered_twice (member_at (totals_by M side) k) (number_by side k) M.posted.items
    ∙ ap (filter_map (member_at (totals_by M side) k)) (numbers_posted M formed side k total at)
    ∙ filtered_same (member_at (totals_by M side) k) (slice_get total.members.items) (λ j. ap (option_and_then (λ (t : Total). slice_get t.members.items j)) at) (range_with_len 0 (length total.members.items))
    ∙ all_read [] total.members.items
