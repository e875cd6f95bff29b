-- The part of two adjoining lists of which the first didn't stop.
use Rattle.std.proofs.Common.{◌≡◌, ℕ, ℤ, suc, ◌+◌, Bool, true, false, List, [], ◌∷◌, ◌++◌, Option, Some, None, length, refl, sym, ap, ◌∙◌, subst, arith, if◌then◌else◌, length-append, add-zero, true≢false}
use Rattle.std.proofs.lemmas.Bool.Decides.{Decides-int_eq}
use Rattle.std.proofs.lemmas.List.Elements.{filter_map-append}
use Rattle.std.proofs.lemmas.List.{append-nil}
use Rattle.std.proofs.lemmas.List.Sums.{sum_by-append}
use Rattle.std.specs.List.{cons_option}
use Rattle.std.specs.Option.{option_eq, option_map, option_or}
use Rattle.std.specs.Ordering.{int_eq}
use Rattle.ls_select.specs.Best.{best_of, best_of_key, better_of, is_best}
use Rattle.ls_select.specs.Candidates.{stop_in}
use Rattle.ls_select.specs.Joining.{joined, noted, ties_at}
use Rattle.ls_select.specs.Parts.{is_tied, key_in, keys_of, part_of, stop_from, tied_from}
use Rattle.ls_select.specs.declared.part.Part.{Part}
use Rattle.ls_select.specs.declared.scored.End.{End}
use Rattle.ls_select.specs.declared.scored.End.TheVariants.{Skipped, Kept, Stopped}
use Rattle.ls_select.specs.declared.scored.Scored.{Scored}
use Rattle.ls_select.specs.declared.scored.Stop.{Stop}
use Rattle.ls_select.specs.declared.want.Want.{Want}
use Rattle.ls_select.specs.declared.want.Want.TheVariants.{Any, Least, Greatest}
use Rattle.ls_select.proofs.BestLaws.{NonePass, best_append, weaker_back, weaker_front}

-- the keys of two lists
pub keys_append : (xs ys : List Scored) → keys_of (xs ++ ys) ≡ keys_of xs ++ keys_of ys
keys_append xs ys = filter_map-append (λ s. key_in s.end) xs ys

-- nothing is tied where no key is as good
none_step : (want : Want) (best : Option ℤ) (number : ℕ) (e : End) (ks : List ℤ) (rest : List ℕ) →
    NonePass (is_best want best) (cons_option (key_in e) ks) → (NonePass (is_best want best) ks → rest ≡ []) →
    (if is_tied want best e then number ∷ rest else rest) ≡ []
none_step want best number Skipped ks rest h more = more h
none_step want best number (Kept key) ks rest h more = rw h.0 (more h.1)
none_step want best number (Stopped stop) ks rest h more = more h

pub none_tied : (want : Want) (best : Option ℤ) (number : ℕ) (xs : List Scored) → NonePass (is_best want best) (keys_of xs) → tied_from want best number xs ≡ []
none_tied want best number [] h = refl
none_tied want best number (s ∷ xs) h =
    none_step want best number s.end (keys_of xs) (tied_from want best (number + 1) xs) h (none_tied want best (number + 1) xs)

next : (number n : ℕ) → number + 1 + n ≡ number + suc n
next number n = omega arith

tied_step : (b : Bool) (number : ℕ) (xs ys : List ℕ) → (if b then number ∷ (xs ++ ys) else (xs ++ ys)) ≡ (if b then number ∷ xs else xs) ++ ys
tied_step true number xs ys = refl
tied_step false number xs ys = refl

pub tied_append : (want : Want) (best : Option ℤ) (number : ℕ) (xs ys : List Scored) →
    tied_from want best number (xs ++ ys) ≡ tied_from want best number xs ++ tied_from want best (number + length xs) ys
tied_append want best number [] ys = ap (λ k. tied_from want best k ys) (sym (add-zero number))
tied_append want best number (s ∷ xs) ys =
    ap (λ ts. if is_tied want best s.end then number ∷ ts else ts)
    (tied_append want best (number + 1) xs ys ∙ ap (λ k. tied_from want best (number + 1) xs ++ tied_from want best k ys) (next number (length xs)))
    ∙ tied_step (is_tied want best s.end) number (tied_from want best (number + 1) xs) (tied_from want best (number + length (s ∷ xs)) ys)

-- a part is as another where each of its fields is
same_part : (first : ℕ) (count count' cost cost' : ℕ) (best best' : Option ℤ) (ties ties' : List ℕ) (stop stop' : Option (ℕ × Stop)) →
    count ≡ count' → cost ≡ cost' → best ≡ best' → ties ≡ ties' → stop ≡ stop' →
    ◌≡◌ {A = Part} (record { first = first; count = count; cost = cost; best = best; ties = ties; stop = stop }) (record { first = first; count = count'; cost = cost'; best = best'; ties = ties'; stop = stop' })
same_part first count count' cost cost' best best' ties ties' stop stop' a b c d e = cc

by_test : (r : Bool) (all x y : List ℕ) → (r ≡ true → all ≡ x) → (r ≡ false → all ≡ y) → all ≡ (if r then x else y)
by_test true all x y h k = h refl
by_test false all x y h k = k refl

same_when : (a b : Option ℤ) → option_eq int_eq a b ≡ true → a ≡ b
same_when None None h = refl
same_when None (Some y) h = absurd (true≢false (sym h))
same_when (Some x) None h = absurd (true≢false (sym h))
same_when (Some x) (Some y) h = ap Some ((Decides-int_eq x y).0 h)

same_itself : (a : Option ℤ) → option_eq int_eq a a ≡ true
same_itself None = refl
same_itself (Some x) = (Decides-int_eq x x).1 refl

-- the ties of each list among those of both
front_tied : (want : Want) (number : ℕ) (xs ys : List Scored) → let best = best_of want (keys_of (xs ++ ys)) in
    tied_from want best number xs ≡ ties_at best (best_of want (keys_of xs)) (tied_from want (best_of want (keys_of xs)) number xs)
front_tied want number xs ys =
    let best = best_of want (keys_of (xs ++ ys)) in
    let own = best_of want (keys_of xs) in
    by_test (option_eq int_eq own best) (tied_from want best number xs) (tied_from want own number xs) []
    (λ e. ap (λ b. tied_from want b number xs) (sym (same_when own best e)))
    (λ e. none_tied want best number xs
    (subst (λ ks. NonePass (is_best want (best_of want ks)) (keys_of xs)) (sym (keys_append xs ys))
    (weaker_front want (keys_of xs) (keys_of ys) (subst (λ ks. option_eq int_eq own (best_of want ks) ≡ false) (keys_append xs ys) e))))

back_tied : (want : Want) (number : ℕ) (xs ys : List Scored) → let best = best_of want (keys_of (xs ++ ys)) in
    tied_from want best number ys ≡ ties_at best (best_of want (keys_of ys)) (tied_from want (best_of want (keys_of ys)) number ys)
back_tied want number xs ys =
    let best = best_of want (keys_of (xs ++ ys)) in
    let own = best_of want (keys_of ys) in
    by_test (option_eq int_eq own best) (tied_from want best number ys) (tied_from want own number ys) []
    (λ e. ap (λ b. tied_from want b number ys) (sym (same_when own best e)))
    (λ e. none_tied want best number ys
    (subst (λ ks. NonePass (is_best want (best_of want ks)) (keys_of ys)) (sym (keys_append xs ys))
    (weaker_back want (keys_of xs) (keys_of ys) (subst (λ ks. option_eq int_eq own (best_of want ks) ≡ false) (keys_append xs ys) e))))

-- a later stop counts where there is no earlier one
or_later : (first : Option (ℕ × Stop)) (later : Option (ℕ × Stop)) → option_or first later ≡ None → first ≡ None
or_later None later h = refl
or_later (Some stop) later h = h

none_later : (first : Option (ℕ × Stop)) (later : Option (ℕ × Stop)) → option_or first later ≡ None → later ≡ None
none_later None later h = h
none_later (Some stop) later h = absurd (some_none stop h)
  where
    some_none : (stop : ℕ × Stop) → Some stop ≡ None → ⊥
    some_none stop e = cc

pub stop_append : (number : ℕ) (xs ys : List Scored) → stop_from number xs ≡ None → stop_from number (xs ++ ys) ≡ stop_from (number + length xs) ys
stop_append number [] ys h = ap (λ k. stop_from k ys) (sym (add-zero number))
stop_append number (s ∷ xs) ys h =
    let here = option_map (λ (stop : Stop). (number, stop)) (stop_in s.end) in
    let rest = stop_from (number + 1) xs in
    ap (λ o. option_or o (stop_from (number + 1) (xs ++ ys))) (or_later here rest h)
    ∙ stop_append (number + 1) xs ys (none_later here rest h)
    ∙ ap (λ k. stop_from k ys) (next number (length xs))

-- the part of both lists
pub join_part : (want : Want) (first : ℕ) (xs ys : List Scored) → stop_from first xs ≡ None →
    part_of want first (xs ++ ys) ≡ joined want (part_of want first xs) (part_of want (first + length xs) ys)
join_part want first xs ys none =
    let best = best_of want (keys_of (xs ++ ys)) in
    let bests : best ≡ better_of want (best_of want (keys_of xs)) (best_of want (keys_of ys)) =
    ap (best_of want) (keys_append xs ys) ∙ best_append want (keys_of xs) (keys_of ys) in
    let ties = λ (b : Option ℤ). ties_at b (best_of want (keys_of xs)) (tied_from want (best_of want (keys_of xs)) first xs)
    ++ ties_at b (best_of want (keys_of ys)) (tied_from want (best_of want (keys_of ys)) (first + length xs) ys) in
    same_part first _ _ _ _ _ _ _ _ _ _
    (length-append xs ys)
    (sum_by-append (λ (s : Scored). s.cost) xs ys)
    bests
    (tied_append want best first xs ys
    ∙ ap (λ t. t ++ tied_from want best (first + length xs) ys) (front_tied want first xs ys)
    ∙ ap (λ t. ties_at best (best_of want (keys_of xs)) (tied_from want (best_of want (keys_of xs)) first xs) ++ t) (back_tied want (first + length xs) xs ys)
    ∙ ap ties bests)
    (stop_append first xs ys none)

best_of_none : (want : Want) → best_of want [] ≡ None
best_of_none Any = refl
best_of_none Least = refl
best_of_none Greatest = refl

best_of_one : (want : Want) (key : ℤ) → best_of want (key ∷ []) ≡ best_of_key want key
best_of_one Any key = refl
best_of_one Least key = refl
best_of_one Greatest key = refl

is_best_alone : (want : Want) (key : ℤ) → is_best want (best_of_key want key) key ≡ true
is_best_alone Any key = refl
is_best_alone Least key = same_itself (Some key)
is_best_alone Greatest key = same_itself (Some key)

better_than_none : (want : Want) (best : Option ℤ) → better_of want best None ≡ best
better_than_none want None = refl
better_than_none want (Some a) = refl

no_ties : (best own : Option ℤ) → ties_at best own [] ≡ []
no_ties best own = both (option_eq int_eq own best) []
  where
    both : (b : Bool) (ts : List ℕ) → (if b then ts else ts) ≡ ts
    both true ts = refl
    both false ts = refl

own_ties : (best : Option ℤ) (ties : List ℕ) → ties_at best best ties ≡ ties
own_ties best ties = ap (λ b. if b then ties else []) (same_itself best)

-- a part with one more candidate
abbrev pub added : Want → Part → Scored → Part
added want p s =
    let q = noted want (p.first + p.count) s.end p in
    record q { count = q.count + 1; cost = q.cost + s.cost }

-- a candidate without a key leaves the best and the ties
unchanged : (want : Want) (p : Part) (cost : ℕ) (stop stop' : Option (ℕ × Stop)) → stop ≡ stop' →
    joined want p (record { first = p.first + p.count; count = 1; cost = cost; best = best_of want []; ties = []; stop = stop })
    ≡ record { first = p.first; count = p.count + 1; cost = p.cost + cost; best = p.best; ties = p.ties; stop = stop' }
unchanged want p cost stop stop' e =
    let bests : better_of want p.best (best_of want []) ≡ p.best = ap (better_of want p.best) (best_of_none want) ∙ better_than_none want p.best in
    same_part p.first _ _ _ _ _ _ _ _ _ _ refl (omega arith) bests
    (ap (λ ts. ties_at (better_of want p.best (best_of want [])) p.best p.ties ++ ts) (no_ties (better_of want p.best (best_of want [])) (best_of want []))
    ∙ append-nil (ties_at (better_of want p.best (best_of want [])) p.best p.ties)
    ∙ ap (λ b. ties_at b p.best p.ties) bests ∙ own_ties p.best p.ties)
    e

one_added : (want : Want) (p : Part) (cost : ℕ) (e : End) → p.stop ≡ None →
    joined want p (part_of want (p.first + p.count) (record { cost = cost; end = e } ∷ [])) ≡ added want p (record { cost = cost; end = e })
one_added want p cost Skipped none =
    let alone : ◌≡◌ {A = ℕ} (0 + cost) cost = omega arith in
    rw alone (unchanged want p cost None p.stop (sym none))
one_added want p cost (Stopped stop) none =
    let alone : ◌≡◌ {A = ℕ} (0 + cost) cost = omega arith in
    rw alone (unchanged want p cost (Some (p.first + p.count, stop)) (Some (p.first + p.count, stop)) refl)
one_added want p cost (Kept key) none =
    let own = best_of want (key ∷ []) in
    let alone : (if is_best want own key then (p.first + p.count) ∷ [] else []) ≡ (p.first + p.count) ∷ [] =
    ap (λ b. if b then (p.first + p.count) ∷ [] else []) (ap (λ o. is_best want o key) (best_of_one want key) ∙ is_best_alone want key) in
    same_part p.first _ _ _ _ _ _ _ _ _ _ refl (omega arith) (ap (better_of want p.best) (best_of_one want key))
    (ap (λ ts. ties_at (better_of want p.best own) p.best p.ties ++ ties_at (better_of want p.best own) own ts) alone
    ∙ ap (λ o. ties_at (better_of want p.best o) p.best p.ties ++ ties_at (better_of want p.best o) o ((p.first + p.count) ∷ [])) (best_of_one want key))
    (sym none)

-- the part of some candidates and one more
pub one_more : (want : Want) (p : Part) (s : Scored) (scores : List Scored) → p.stop ≡ None → p ≡ part_of want p.first scores →
    added want p s ≡ part_of want p.first (scores ++ s ∷ [])
one_more want p s scores none is =
    let stop : stop_from p.first scores ≡ None = sym (ap (λ (q : Part). q.stop) is) ∙ none in
    let count : p.count ≡ length scores = ap (λ (q : Part). q.count) is in
    sym (join_part want p.first scores (s ∷ []) stop
    ∙ ap (λ q. joined want q (part_of want (p.first + length scores) (s ∷ []))) (sym is)
    ∙ ap (λ n. joined want p (part_of want (p.first + n) (s ∷ []))) (sym count)
    ∙ one_added want p s.cost s.end none)
