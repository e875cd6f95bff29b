-- The keys at which the least stands, by the places at which it stands; and numbers that are turned.
use Rattle.std.proofs.Common.{◌≡◌, ℕ, ◌+◌, ◌<◌, ◌++◌, get_or, take, ℤ, Bool, true, false, cond, inl, inr, List, [], ◌∷◌, length, map, refl, ap, sym, ◌∙◌, subst, arith}
use Rattle.std.specs.Prelude.{Option, Some, None, Result, Ok, Err, IfOk, IsTrue, filter, zip, slice_get}
use Rattle.std.specs.List.{list_any, filter_map, cons_option}
use Rattle.std.specs.BTreeSet.{BTreeSet}
use Rattle.std.specs.Ordering.{int_eq, nat_cmp, is_eq}
use Rattle.std.proofs.lemmas.Bool.{false≢true, false_from_ne_true, or_cases, or_left, or_right}
use Rattle.std.proofs.lemmas.Bool.Decides.{nat_tests}
use Rattle.std.proofs.lemmas.Int.{ints}
use Rattle.std.proofs.lemmas.List.{map-append, take_more, append-nil}
use Rattle.std.proofs.lemmas.List.Elements.{filter_map-append}
use Rattle.cbl_base.specs.declared.faults.RunFault.{RunFault}
use Rattle.cbl_base.specs.declared.input.Change.{Change}
use Rattle.cbl_base.specs.declared.input.Input.{Input}
use Rattle.cbl_base.specs.declared.input.Input.TheVariants.{Set}
use Rattle.cbl_base.specs.Changes.{AreChanges, after_changes}
use Rattle.cbl_base.specs.Inputs.{as_inputs}
use Rattle.cbl_base.proofs.InputLemmas.{numbers_of-as_inputs}
use Rattle.cbl_base.specs.Sets.{is_member, set_of}
use Rattle.cbl_base.proofs.SetLemmas.{int_eq-itself, int_eq-true, is_member-set_of, rising-set_of, same_set}
use Rattle.cbl_operations.specs.Operations.Least.{least_of}
use Rattle.cbl_operations.specs.Places.{IsKeyWhere}
use Rattle.cbl_operations.specs.SetForms.{keys_where, rule_of_keys}
use Rattle.cbl_operations.proofs.KeyLaws.{keys_law}
use Rattle.node_base.specs.NumberChanges.{AreNumberChanges, after_number_changes, number_change_of, number_changes_of}
use Rattle.node_base.proofs.ChangeLemmas.{after_all, are_number_changes, change_more}
use Rattle.node_base.specs.declared.number_change.NumberChange.{NumberChange}
use Rattle.node_order.specs.Extremes.{least_keys, extreme_keys, turned, turned_change}
use Rattle.node_order.specs.Mirror.{mirrored}
use Rattle.node_order.specs.PlaceIndex.{is_number, ArePlacesOf}
use Rattle.node_order.specs.declared.arg_extreme.Extreme.{Extreme}
use Rattle.node_order.specs.declared.arg_extreme.Extreme.TheVariants.{Least, Greatest}
use Rattle.node_order.proofs.IndexLemmas.{same_place}
use Rattle.node_order.proofs.MirrorLemmas.{map_twice, changes_mirrored, after_mirrored, greatest_mirrored}

-- ---- the keys at some places
same_tests : (a b : Bool) → (a ≡ true → b ≡ true) → (b ≡ true → a ≡ true) → a ≡ b
same_tests true b f g = sym (f refl)
same_tests false b f g = sym (false_from_ne_true b (λ e. false≢true (g e)))

-- the place of a key that was found
found_place : (keys : List ℤ) (ps : List ℕ) (key : ℤ) → is_member key (filter_map (slice_get keys) ps) ≡ true → (p : ℕ) × (slice_get keys p ≡ Some key) × (list_any (λ q. is_eq (nat_cmp p q)) ps ≡ true)
found_place keys [] key h = absurd (false≢true h)
found_place keys (q ∷ ps) key h = by (found_place keys ps key) (slice_get keys q) refl
  where
    Found : List ℕ → Type 0
    Found qs = (p : ℕ) × (slice_get keys p ≡ Some key) × (list_any (λ r. is_eq (nat_cmp p r)) qs ≡ true)

    later : Found ps → Found (q ∷ ps)
    later found = (found.0, found.1, or_right (is_eq (nat_cmp found.0 q)) (list_any (λ r. is_eq (nat_cmp found.0 r)) ps) found.2)

    itself : is_eq (nat_cmp q q) ≡ true
    itself = same_place q q ∙ grind (arith, nat_tests)

    by : (is_member key (filter_map (slice_get keys) ps) ≡ true → Found ps) → (o : Option ℤ) → o ≡ slice_get keys q → Found (q ∷ ps)
    by rest None e = later (rest (subst (λ o. is_member key (cons_option o (filter_map (slice_get keys) ps)) ≡ true) (sym e) h))
    by rest (Some k) e =
        elim (or_cases (int_eq k key) (is_member key (filter_map (slice_get keys) ps)) (subst (λ o. is_member key (cons_option o (filter_map (slice_get keys) ps)) ≡ true) (sym e) h)) [
          | inl same ↦ (q, sym e ∙ ap (λ z. Some z) (int_eq-true k key same), or_left (is_eq (nat_cmp q q)) (list_any (λ r. is_eq (nat_cmp q r)) ps) itself)
          | inr m ↦ later (rest m)
        ]

place_found : (keys : List ℤ) (ps : List ℕ) (key : ℤ) (p : ℕ) → slice_get keys p ≡ Some key → list_any (λ q. is_eq (nat_cmp p q)) ps ≡ true → is_member key (filter_map (slice_get keys) ps) ≡ true
place_found keys [] key p at h = absurd (false≢true h)
place_found keys (q ∷ ps) key p at h =
    elim (or_cases (is_eq (nat_cmp p q)) (list_any (λ r. is_eq (nat_cmp p r)) ps) h) [
      | inl same ↦
          let is : p ≡ q = let e = sym (same_place p q) ∙ same in grind (arith, nat_tests, e) in
          subst (λ o. is_member key (cons_option o (filter_map (slice_get keys) ps)) ≡ true) (sym at ∙ ap (slice_get keys) is) (or_left (int_eq key key) (is_member key (filter_map (slice_get keys) ps)) (int_eq-itself key))
      | inr m ↦ more (slice_get keys q) (place_found keys ps key p at m)
    ]
  where
    more : (o : Option ℤ) → is_member key (filter_map (slice_get keys) ps) ≡ true → is_member key (cons_option o (filter_map (slice_get keys) ps)) ≡ true
    more None m = m
    more (Some k) m = or_right (int_eq k key) (is_member key (filter_map (slice_get keys) ps)) m

-- the number at a place at which the least stands
the_number : (o : Option ℤ) (v : ℤ) → is_number o v ≡ true → (x : ℤ) × (o ≡ Some x) × (x ≡ v)
the_number None v h = absurd (false≢true h)
the_number (Some x) v h = (x, refl, int_eq-true x v h)

pub keys_found : (keys xs : List ℤ) (v : ℤ) (places : BTreeSet ℕ) → v ≡ least_of xs → ArePlacesOf v xs places → set_of (filter_map (slice_get keys) places.keys) ≡ least_keys keys xs
keys_found keys xs v places is are =
    let found = filter_map (slice_get keys) places.keys in
    same_set (set_of found) (least_keys keys xs) (rising-set_of found) (rising-set_of (keys_where (λ x. int_eq x (least_of xs)) keys xs))
    (λ key. is_member-set_of key found ∙ same_tests (is_member key found) (is_member key (least_keys keys xs)) (λ m. (law key).1 (there key m)) (λ m. back key ((law key).0 m)))
  where
    decides : (x : ℤ) → (int_eq x (least_of xs) ≡ true → x ≡ least_of xs) × (x ≡ least_of xs → int_eq x (least_of xs) ≡ true)
    decides x = (int_eq-true x (least_of xs), λ e. subst (λ z. int_eq x z ≡ true) e (int_eq-itself x))

    law : (key : ℤ) → (IsTrue (is_member key (least_keys keys xs)) → IsKeyWhere (λ x. x ≡ least_of xs) keys xs key) × (IsKeyWhere (λ x. x ≡ least_of xs) keys xs key → IsTrue (is_member key (least_keys keys xs)))
    law key =
        let both = keys_law (λ x. x ≡ least_of xs) (λ x. int_eq x (least_of xs)) keys xs (least_keys keys xs) key (λ x _. decides x) refl in
        (both.0, both.1)

    there : (key : ℤ) → is_member key (filter_map (slice_get keys) places.keys) ≡ true → IsKeyWhere (λ x. x ≡ least_of xs) keys xs key
    there key m =
        let place = found_place keys places.keys key m in
        let number = the_number (slice_get xs place.0) v (sym (are place.0) ∙ place.2) in
        (place.0, number.0, place.1, number.1, number.2 ∙ is)

    back : (key : ℤ) → IsKeyWhere (λ x. x ≡ least_of xs) keys xs key → is_member key (filter_map (slice_get keys) places.keys) ≡ true
    back key where_ =
        let stands : is_number (slice_get xs where_.0) v ≡ true =
        ap (λ o. is_number o v) where_.3 ∙ subst (λ z. int_eq z v ≡ true) (is ∙ sym where_.4) (int_eq-itself v) in
        place_found keys places.keys key where_.0 where_.2 (are where_.0 ∙ stands)

-- ---- numbers that are turned
map_same : (xs : List ℤ) → map (turned Least) xs ≡ xs
map_same [] = refl
map_same (x ∷ xs) = ap (λ t. x ∷ t) (map_same xs)

changes_same : (cs : List NumberChange) → map (turned_change Least) cs ≡ cs
changes_same [] = refl
changes_same (c ∷ cs) = ap (λ t. c ∷ t) (changes_same cs)

pub turned_twice : (e : Extreme) (xs : List ℤ) → map (turned e) (map (turned e) xs) ≡ xs
turned_twice Least xs = map_same (map (turned Least) xs) ∙ map_same xs
turned_twice Greatest xs = map_twice xs

pub changes_turned : (e : Extreme) (ys : List ℤ) (cs : List NumberChange) → AreNumberChanges (map (turned e) ys) cs → AreNumberChanges ys (map (turned_change e) cs)
changes_turned Least ys cs h = subst (λ t. AreNumberChanges ys t) (sym (changes_same cs)) (subst (λ t. AreNumberChanges t cs) (map_same ys) h)
changes_turned Greatest ys cs h = changes_mirrored ys cs h

pub after_turned : (e : Extreme) (ys : List ℤ) (cs : List NumberChange) → map (turned e) (after_number_changes ys (map (turned_change e) cs)) ≡ after_number_changes (map (turned e) ys) cs
after_turned Least ys cs = map_same (after_number_changes ys (map (turned_change Least) cs)) ∙ ap (λ t. after_number_changes ys t) (changes_same cs) ∙ ap (λ t. after_number_changes t cs) (sym (map_same ys))
after_turned Greatest ys cs = after_mirrored ys cs

-- the keys where a number passes, of numbers that were turned
where_mirrored : (v : ℤ) (keys ys : List ℤ) → keys_where (λ x. int_eq x (mirrored v)) keys (map mirrored ys) ≡ keys_where (λ y. int_eq y v) keys ys
where_mirrored v [] ys = refl
where_mirrored v (k ∷ ks) [] = refl
where_mirrored v (k ∷ ks) (y ∷ ys) =
    let pairs = filter (λ pair. int_eq pair.1 v) (zip ks ys) in
    first (int_eq (mirrored y) (mirrored v)) (filter (λ pair. int_eq pair.1 (mirrored v)) (zip ks (map mirrored ys))) ∙ ap (λ t. cond (int_eq (mirrored y) (mirrored v)) (k ∷ t) t) (where_mirrored v ks ys)
    ∙ ap (λ b. cond b (k ∷ keys_where (λ z. int_eq z v) ks ys) (keys_where (λ z. int_eq z v) ks ys)) (same_tests (int_eq (mirrored y) (mirrored v)) (int_eq y v) (λ e. let same = int_eq-true (mirrored y) (mirrored v) e in subst (λ z. int_eq y z ≡ true) (omega (arith, ints, same)) (int_eq-itself y)) (λ e. subst (λ z. int_eq (mirrored y) (mirrored z) ≡ true) (int_eq-true y v e) (int_eq-itself (mirrored y))))
    ∙ sym (first' (int_eq y v) pairs)
  where
    first : (b : Bool) (ps : List (ℤ × ℤ)) → map (λ pair. pair.0) (cond b ((k, mirrored y) ∷ ps) ps) ≡ cond b (k ∷ map (λ pair. pair.0) ps) (map (λ pair. pair.0) ps)
    first true ps = refl
    first false ps = refl

    first' : (b : Bool) (ps : List (ℤ × ℤ)) → map (λ pair. pair.0) (cond b ((k, y) ∷ ps) ps) ≡ cond b (k ∷ map (λ pair. pair.0) ps) (map (λ pair. pair.0) ps)
    first' true ps = refl
    first' false ps = refl

greatest_keys : (keys ys : List ℤ) → extreme_keys Greatest keys (map mirrored ys) ≡ least_keys keys ys
greatest_keys [] [] = refl
greatest_keys (k ∷ ks) [] = refl
greatest_keys keys (y ∷ ys) =
    ap (λ v. set_of (keys_where (λ x. int_eq x v) keys (map mirrored (y ∷ ys)))) (greatest_mirrored (y ∷ ys) (omega arith)) ∙ ap set_of (where_mirrored (least_of (y ∷ ys)) keys (y ∷ ys))

pub keys_turned : (e : Extreme) (keys ys : List ℤ) → extreme_keys e keys (map (turned e) ys) ≡ least_keys keys ys
keys_turned Least keys ys = ap (least_keys keys) (map_same ys)
keys_turned Greatest keys ys = greatest_keys keys ys

-- one more change, of a number or of a set
pub turned_more : (e : Extreme) (cs : List Change) (i : ℕ) (d : Change) (n : NumberChange) → i < length cs → number_change_of (get_or cs i d) ≡ Some n
    → map (turned_change e) (number_changes_of (take (i + 1) cs)) ≡ map (turned_change e) (number_changes_of (take i cs)) ++ turned_change e n ∷ []
turned_more e cs i d n lt is = ap (map (turned_change e)) (change_more cs i d n lt is) ∙ map-append (turned_change e) (number_changes_of (take i cs)) (n ∷ [])

pub turned_skip : (cs : List Change) (i : ℕ) (d : Change) → i < length cs → number_change_of (get_or cs i d) ≡ None → number_changes_of (take (i + 1) cs) ≡ number_changes_of (take i cs)
turned_skip cs i d lt is =
    ap number_changes_of (take_more cs i d lt) ∙ filter_map-append number_change_of (take i cs) (get_or cs i d ∷ []) ∙ ap (λ o. number_changes_of (take i cs) ++ cons_option o []) is ∙ append-nil (number_changes_of (take i cs))

-- ---- what the node answers
pub if_same : {E : Type 0} (r : Result (List ℤ) E) (a b : List ℤ) → IfOk r (λ s. s ≡ a) → a ≡ b → IfOk r (λ s. s ≡ b)
if_same (Ok s) a b is same = is ∙ same
if_same (Err e) a b is same = tt

pub kept_keys : (e : Extreme) (keys ys : List ℤ) (kept : Input) → kept ≡ Set (least_keys keys ys) → (rule_of_keys keys (extreme_keys e keys)).value (as_inputs (map (turned e) ys)) ≡ Ok kept
kept_keys e keys ys kept is =
    ap ok (ap (λ t. Set (extreme_keys e keys t)) (numbers_of-as_inputs (map (turned e) ys)) ∙ ap Set (keys_turned e keys ys) ∙ sym is)
  where
    ok : Input → Result Input RunFault
    ok k = Ok k

module _ (e : Extreme) (ys : List ℤ) (cs : List Change) (are : AreChanges (as_inputs (map (turned e) ys)) cs) where
  pub changes_kept : AreNumberChanges ys (map (turned_change e) (number_changes_of cs))
  changes_kept = changes_turned e ys (number_changes_of cs) (are_number_changes (map (turned e) ys) cs are)

  pub held_after : as_inputs (map (turned e) (after_number_changes ys (map (turned_change e) (number_changes_of cs)))) ≡ after_changes (as_inputs (map (turned e) ys)) cs
  held_after = ap as_inputs (after_turned e ys (number_changes_of cs)) ∙ sym (after_all (map (turned e) ys) cs are)

  pub probed_keys : (keys found : List ℤ) (ds : List NumberChange) → ds ≡ map (turned_change e) (number_changes_of cs) → found ≡ least_keys keys (after_number_changes ys ds)
      → (rule_of_keys keys (extreme_keys e keys)).value (after_changes (as_inputs (map (turned e) ys)) cs) ≡ Ok (Set found)
  probed_keys keys found ds all is =
      let after = after_number_changes ys (map (turned_change e) (number_changes_of cs)) in
      ap (rule_of_keys keys (extreme_keys e keys)).value (sym held_after) ∙ kept_keys e keys after (Set found) (ap Set (is ∙ ap (λ t. least_keys keys (after_number_changes ys t)) all))
