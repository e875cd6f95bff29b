-- The first entry of a name, in the entries from an index on.
use Rattle.std.proofs.Common.{◌≡◌, ◌+◌, ◌<◌, ℕ, List, ◌∷◌, true, false, cond, Some, Option, length, map, drop, get_or, ap, refl, ◌∙◌, bytes_eq, add-one, drop-cons}
use Rattle.std.specs.Ordering.{nat_cmp}
use Rattle.std.specs.Cmp.Lexicographic.{slice_cmp, nat_list_cmp_total}
use Rattle.std.specs.FinMap as map
use Rattle.std.specs.FinMap.{find}
use Rattle.std.proofs.lemmas.Map.Text.{is_eq-slice_cmp}

-- the entry at the index, where it has the name, and else the first one behind it
pub find-map-drop : {A : Type 0} (entry : A → List ℕ × List ℕ) (name : List ℕ) (items : List A) (index : ℕ) (item : A)
    → index < length items → item ≡ get_or items index item
    → find (slice_cmp nat_cmp) name (map entry (drop index items))
    ≡ cond (bytes_eq name (entry item).0) (Some (entry item).1) (find (slice_cmp nat_cmp) name (map entry (drop (index + 1) items)))
find-map-drop entry name items index item below is =
    let cut : drop index items ≡ item ∷ drop (index + 1) items = rw (add-one, is) (drop-cons items index item below) in
    let rest : Option (List ℕ) = find (slice_cmp nat_cmp) name (map entry (drop (index + 1) items)) in
    ap (λ es. find (slice_cmp nat_cmp) name (map entry es)) cut
    ∙ ap (λ found. cond found (Some (entry item).1) rest) (is_eq-slice_cmp name (entry item).0)

pub find-map-drop_here : {A : Type 0} (entry : A → List ℕ × List ℕ) (name : List ℕ) (items : List A) (index : ℕ) (item : A)
    → index < length items → item ≡ get_or items index item → bytes_eq name (entry item).0 ≡ true
    → find (slice_cmp nat_cmp) name (map entry (drop index items)) ≡ Some (entry item).1
find-map-drop_here entry name items index item below is same =
    find-map-drop entry name items index item below is ∙ rw same refl

pub find-map-drop_later : {A : Type 0} (entry : A → List ℕ × List ℕ) (name : List ℕ) (items : List A) (index : ℕ) (item : A)
    → index < length items → item ≡ get_or items index item → bytes_eq name (entry item).0 ≡ false
    → find (slice_cmp nat_cmp) name (map entry (drop index items))
    ≡ find (slice_cmp nat_cmp) name (map entry (drop (index + 1) items))
find-map-drop_later entry name items index item below is other =
    find-map-drop entry name items index item below is ∙ rw other refl

-- what files hold at a name is what their first entry of the name has
pub get-from_entries_of : (entries : List (List ℕ × List ℕ)) (name : List ℕ)
    → map.get {R = slice_cmp nat_cmp} (map.from_entries entries) name ≡ find (slice_cmp nat_cmp) name entries
get-from_entries_of entries name = map.get-from_entries nat_list_cmp_total entries name
