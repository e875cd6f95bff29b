-- After a history a pool that began empty has the least solutions that were added to it.
use Rattle.std.proofs.Common.{◌≡◌, ◌≢◌, ℕ, zero, suc, ◌+◌, ◌-◌, ◌<◌, ◌≤◌, ◌⊎◌, inl, inr, ℤ, Bool, true, false, not, ◌||◌, cond, nat_lt, eq-eqb, ne_eqb, List, [], ◌∷◌, ◌++◌, length, take, insert, get_or, set, refl, ap, sym, subst, ◌∙◌, arith, Option, Some, None}
use Rattle.std.specs.Prelude.{◌<ℤ◌, ◌≤ℤ◌, int_lt, filter, slice_get, IsSomeAnd, IsPermutation, IsSortedByKey}
use Rattle.std.specs.List.Sorted.{ties}
use Rattle.std.specs.Ordering.{int_cmp, is_lt}
use Rattle.std.proofs.lemmas.Int.{by_lt_z, ints}
use Rattle.std.proofs.lemmas.Bool.{lt-ltb, le-ltb, cases_lt}
use Rattle.std.proofs.lemmas.List.{append-nil, append_assoc, take_all}
use Rattle.std.proofs.lemmas.List.Elements.{filter-append}
use Rattle.std.proofs.lemmas.List.Sorted.{IsPermutation-refl, IsPermutation-insert, IsPermutation-push_more}
use native.Mathlib.Decide.{ℕ_discrete}
use Rattle.best_turn.specs.declared.replays.Entry.{Entry}
use Rattle.best_monitor.specs.declared.request.Reply.{Reply}
use Rattle.pool_monitor.specs.declared.pool.Solution.{Solution}
use Rattle.pool_monitor.specs.declared.request.PoolRequest.{PoolRequest}
use Rattle.pool_monitor.specs.declared.request.PoolRequest.TheVariants.{Add, Size, Rank, Take}
use Rattle.pool_monitor.specs.declared.request.DeskRequest.{DeskRequest}
use Rattle.pool_monitor.specs.declared.request.DeskRequest.TheVariants.{Best, Pool}
use Rattle.pool_monitor.specs.Pool.{PoolState, empty_pool, pool_of, place_for, with_solution, without_excess, added, pool_step}
use Rattle.pool_monitor.specs.Desk.{DeskState, desk_after}
use Rattle.pool_monitor.specs.DeskLaws.{board_of_after, after_pool}
use Rattle.pool_monitor.specs.History.{fold}
use Rattle.pool_monitor.specs.KLeast.{added_by, all_added, IsSortedStably, HasLeast}
use Rattle.pool_monitor.proofs.Places.{length_inserted}

-- none of these has a lesser value
abbrev NoneLess : ℤ → List Solution → Type 0
NoneLess v [] = Unit {0}
NoneLess v (s ∷ ss) = (v ≤ℤ s.value) × NoneLess v ss

-- none has a lesser value than one before it
abbrev Ascends : List Solution → Type 0
Ascends [] = Unit {0}
Ascends (s ∷ ss) = NoneLess s.value ss × Ascends ss

-- a solution put before the first one that is greater
abbrev put : Solution → List Solution → List Solution
put x [] = x ∷ []
put x (s ∷ ss) = cond (int_lt x.value s.value) (x ∷ s ∷ ss) (s ∷ put x ss)

-- where all are greater there is none to stand behind
place_first : (v w : ℤ) (ss : List Solution) → v <ℤ w → NoneLess w ss → place_for v ss ≡ 0
place_first v w [] less all = refl
place_first v w (s ∷ ss) less all =
    let most = all.0 in
    let greater : int_lt v s.value ≡ true = grind (arith, ints) in
    ap (λ n. cond (nat_lt 0 n || not (int_lt v s.value)) (suc n) zero) (place_first v w ss less all.1)
    ∙ ap (λ b. cond (not b) (suc zero) zero) greater

-- behind the last one that isn't greater is before the first one that is
put_is : (x : Solution) (ss : List Solution) → Ascends ss → with_solution x ss ≡ put x ss
put_is x [] up = refl
put_is x (s ∷ ss) up = by_lt_z x.value s.value
    (λ less. let is : int_lt x.value s.value ≡ true = grind (arith, ints) in
    ap (λ n. insert (s ∷ ss) n x) (place_first x.value s.value (s ∷ ss) less (grind (arith, ints), up.0)) ∙ ap (λ b. cond b (x ∷ s ∷ ss) (s ∷ put x ss)) (sym is))
    (λ most. let is : int_lt x.value s.value ≡ false = grind (arith, ints) in
    ap (λ b. insert (s ∷ ss) (cond (nat_lt 0 (place_for x.value ss) || not b) (suc (place_for x.value ss)) zero) x) is
    ∙ (behind (nat_lt 0 (place_for x.value ss)) ∙ (ap (λ l. s ∷ l) (put_is x ss up.1) ∙ ap (λ b. cond b (x ∷ s ∷ ss) (s ∷ put x ss)) (sym is))))
  where
    behind : (b : Bool) → insert (s ∷ ss) (cond (b || true) (suc (place_for x.value ss)) zero) x ≡ s ∷ insert ss (place_for x.value ss) x
    behind true = refl
    behind false = refl

none_less_from : (v w : ℤ) (ss : List Solution) → v ≤ℤ w → NoneLess w ss → NoneLess v ss
none_less_from v w [] le all = tt
none_less_from v w (s ∷ ss) le all = let most = all.0 in (omega (arith, ints), none_less_from v w ss le all.1)

put_none_less : (v : ℤ) (x : Solution) (ss : List Solution) → v ≤ℤ x.value → NoneLess v ss → NoneLess v (put x ss)
put_none_less v x [] le all = (le, tt)
put_none_less v x (s ∷ ss) le all = cases (int_lt x.value s.value) (put_none_less v x ss le all.1)
  where
    cases : (b : Bool) → NoneLess v (put x ss) → NoneLess v (cond b (x ∷ s ∷ ss) (s ∷ put x ss))
    cases true rest = (le, all)
    cases false rest = (all.0, rest)

put_ascends : (x : Solution) (ss : List Solution) → Ascends ss → Ascends (put x ss)
put_ascends x [] up = (tt, tt)
put_ascends x (s ∷ ss) up = by_lt_z x.value s.value
    (λ less. let is : int_lt x.value s.value ≡ true = grind (arith, ints) in
    let le : x.value ≤ℤ s.value = omega (arith, ints) in
    subst (λ b. Ascends (cond b (x ∷ s ∷ ss) (s ∷ put x ss))) (sym is) ((le, none_less_from x.value s.value ss le up.0), up))
    (λ most. let is : int_lt x.value s.value ≡ false = grind (arith, ints) in
    subst (λ b. Ascends (cond b (x ∷ s ∷ ss) (s ∷ put x ss))) (sym is) (put_none_less s.value x ss most up.0, put_ascends x ss up.1))

take_none_less : (v : ℤ) (n : ℕ) (ss : List Solution) → NoneLess v ss → NoneLess v (take n ss)
take_none_less v zero ss all = tt
take_none_less v (suc n) [] all = tt
take_none_less v (suc n) (s ∷ ss) all = (all.0, take_none_less v n ss all.1)

take_ascends : (n : ℕ) (ss : List Solution) → Ascends ss → Ascends (take n ss)
take_ascends zero ss up = tt
take_ascends (suc n) [] up = tt
take_ascends (suc n) (s ∷ ss) up = (take_none_less s.value n ss up.0, take_ascends n ss up.1)

take_less : {X : Type 0} (n : ℕ) (xs : List X) → take n (take (suc n) xs) ≡ take n xs
take_less zero xs = refl
take_less (suc n) [] = refl
take_less (suc n) (x ∷ xs) = ap (λ l. x ∷ l) (take_less n xs)

-- what is past the first n has no part in the first n
put_first : (n : ℕ) (x : Solution) (ss : List Solution) → take n (put x (take n ss)) ≡ take n (put x ss)
put_first zero x ss = refl
put_first (suc n) x [] = refl
put_first (suc n) x (s ∷ ss) = cases (int_lt x.value s.value) n (put_first n x ss)
  where
    cases : (b : Bool) (m : ℕ) → take m (put x (take m ss)) ≡ take m (put x ss) → take (suc m) (cond b (x ∷ s ∷ take m ss) (s ∷ put x (take m ss))) ≡ take (suc m) (cond b (x ∷ s ∷ ss) (s ∷ put x ss))
    cases true zero rest = refl
    cases true (suc m) rest = ap (λ l. x ∷ s ∷ l) (take_less m ss)
    cases false m rest = ap (λ l. s ∷ l) rest

-- a list of at most one too many, without the excess
excess_is : (most : ℕ) (ss : List Solution) → length ss ≤ suc most → without_excess most ss ≡ take most ss
excess_is most ss long = cases (cases_lt most (length ss))
  where
    cases : (most < length ss) ⊎ (length ss ≤ most) → without_excess most ss ≡ take most ss
    cases (inl over) =
        let less : length ss - 1 ≡ most = omega arith in
        ap (λ b. cond b (take (length ss - 1) ss) ss) (lt-ltb most (length ss) over) ∙ ap (λ n. take n ss) less
    cases (inr fits) = ap (λ b. cond b (take (length ss - 1) ss) ss) (le-ltb most (length ss) fits) ∙ sym (take_all most ss fits)

length_first : {X : Type 0} (n : ℕ) (xs : List X) → length (take n xs) ≤ n
length_first zero xs = omega arith
length_first (suc n) [] = omega arith
length_first (suc n) (x ∷ xs) = let le : length (take n xs) ≤ n = length_first n xs in omega arith

-- an addition to a pool that has the first of a list in order is one to that list
add_first : (most : ℕ) (x : Solution) (ss : List Solution) → Ascends ss → added (record { most = most; solutions = take most ss }) x ≡ take most (put x ss)
add_first most x ss up =
    let long : length (with_solution x (take most ss)) ≡ suc (length (take most ss)) = length_inserted (take most ss) (place_for x.value (take most ss)) x in
    let le : length (take most ss) ≤ most = length_first most ss in
    excess_is most (with_solution x (take most ss)) (omega (arith, long, le))
    ∙ (ap (take most) (put_is x (take most ss) (take_ascends most ss up)) ∙ put_first most x ss)

-- the key by which they are sorted, and its test
abbrev value_of : Solution → ℤ
value_of s = s.value

abbrev less_by_value : Solution → Solution → Bool
less_by_value x y = is_lt (int_cmp x.value y.value)

tie : Solution → Solution → Bool
tie z = ties less_by_value z

-- those that are greater than one that ties tie with nothing that it does
no_ties : (z : Solution) (v : ℤ) (ss : List Solution) → z.value <ℤ v → NoneLess v ss → filter (ties less_by_value z) ss ≡ []
no_ties z v [] less all = refl
no_ties z v (s ∷ ss) less all =
    let most = all.0 in
    let is : ties less_by_value z s ≡ false = grind (arith, ints) in
    ap (λ b. cond b (s ∷ filter (ties less_by_value z) ss) (filter (ties less_by_value z) ss)) is ∙ no_ties z v ss less all.1

-- a solution is put behind all that it ties with
put_ties : (z x : Solution) (ss : List Solution) → Ascends ss → filter (ties less_by_value z) (put x ss) ≡ filter (ties less_by_value z) ss ++ filter (ties less_by_value z) (x ∷ [])
put_ties z x [] up = refl
put_ties z x (s ∷ ss) up = by_lt_z x.value s.value
    (λ less. let is : int_lt x.value s.value ≡ true = grind (arith, ints) in
    ap (λ b. filter (ties less_by_value z) (cond b (x ∷ s ∷ ss) (s ∷ put x ss))) is ∙ before less (ties less_by_value z x) refl)
    (λ most. let is : int_lt x.value s.value ≡ false = grind (arith, ints) in
    ap (λ b. filter (ties less_by_value z) (cond b (x ∷ s ∷ ss) (s ∷ put x ss))) is ∙ (ap (λ l. cond (ties less_by_value z s) (s ∷ l) l) (put_ties z x ss up.1) ∙ behind (ties less_by_value z s)))
  where
    before : x.value <ℤ s.value → (b : Bool) → ties less_by_value z x ≡ b → filter (ties less_by_value z) (x ∷ s ∷ ss) ≡ filter (ties less_by_value z) (s ∷ ss) ++ filter (ties less_by_value z) (x ∷ [])
    before less true is =
        let smaller : z.value <ℤ s.value = grind (arith, ints) in
        let none : filter (ties less_by_value z) (s ∷ ss) ≡ [] = no_ties z s.value (s ∷ ss) smaller (omega (arith, ints), up.0) in
        ap (λ l. cond (ties less_by_value z x) (x ∷ l) l) none ∙ ap (λ l. l ++ filter (ties less_by_value z) (x ∷ [])) (sym none)
    before less false is =
        ap (λ b. cond b (x ∷ filter (ties less_by_value z) (s ∷ ss)) (filter (ties less_by_value z) (s ∷ ss))) is
        ∙ (sym (append-nil (filter (ties less_by_value z) (s ∷ ss))) ∙ ap (λ b. filter (ties less_by_value z) (s ∷ ss) ++ cond b (x ∷ []) []) (sym is))

    behind : (b : Bool) → cond b (s ∷ (filter (ties less_by_value z) ss ++ filter (ties less_by_value z) (x ∷ []))) (filter (ties less_by_value z) ss ++ filter (ties less_by_value z) (x ∷ [])) ≡ cond b (s ∷ filter (ties less_by_value z) ss) (filter (ties less_by_value z) ss) ++ filter (ties less_by_value z) (x ∷ [])
    behind true = refl
    behind false = refl

-- in order, one by one
ascending_is : (ss : List Solution) → Ascends ss → IsSortedByKey value_of int_cmp ss
ascending_is [] up k d from below = absurd (omega arith)
ascending_is (s ∷ []) up k d from below = absurd (omega arith)
ascending_is (s ∷ t ∷ ss) up zero d from below = let le : s.value ≤ℤ t.value = up.0.0 in grind (arith, ints)
ascending_is (s ∷ t ∷ ss) up (suc k) d from below =
    let next : suc k + 1 ≡ suc (k + 1) = omega arith in
    subst (λ n. is_lt (int_cmp (value_of (get_or (s ∷ t ∷ ss) n d)) (value_of (get_or (t ∷ ss) k d))) ≡ false) (sym next) (ascending_is (t ∷ ss) up.1 k d (omega arith) (omega arith))

-- a list in order that is what all come to
record Sorts (all ss : List Solution) : Type 0 where
  up : Ascends ss
  same : IsPermutation all ss
  stable : (z : Solution) → filter (ties less_by_value z) ss ≡ filter (ties less_by_value z) all

sorts_none : Sorts [] []
sorts_none = record { up = tt; same = IsPermutation-refl []; stable = λ z. refl }

sorts_more : (all ss : List Solution) (x : Solution) → Sorts all ss → Sorts (all ++ x ∷ []) (put x ss)
sorts_more all ss x s = record {
  up = put_ascends x ss s.up;
  same = IsPermutation-push_more all ss (put x ss) x s.same (subst (IsPermutation (x ∷ ss)) (put_is x ss s.up) (IsPermutation-insert ss (place_for x.value ss) x));
  stable = λ z. put_ties z x ss s.up ∙ (ap (λ l. l ++ filter (ties less_by_value z) (x ∷ [])) (s.stable z) ∙ sym (filter-append (ties less_by_value z) all (x ∷ [])));
}

sorted_of : (all ss : List Solution) → Sorts all ss → IsSortedStably all ss
sorted_of all ss s = record { same = s.same; ascending = ascending_is ss s.up; stable = s.stable }

abbrev put_all : List Solution → List Solution → List Solution
put_all ss [] = ss
put_all ss (x ∷ xs) = put_all (put x ss) xs

sorts_all : (all ss xs : List Solution) → Sorts all ss → Sorts (all ++ xs) (put_all ss xs)
sorts_all all ss [] s = subst (λ l. Sorts l ss) (sym (append-nil all)) s
sorts_all all ss (x ∷ xs) s = subst (λ l. Sorts l (put_all (put x ss) xs)) (append_assoc all (x ∷ []) xs) (sorts_all (all ++ x ∷ []) (put x ss) xs (sorts_more all ss x s))

-- a pool after several were added
abbrev grown : PoolState → List Solution → PoolState
grown pool [] = pool
grown pool (x ∷ xs) = grown (record { most = pool.most; solutions = added pool x }) xs

-- a pool that has the first of a list in order
abbrev first_of : ℕ → List Solution → PoolState
first_of most ss = record { most = most; solutions = take most ss }

grown_first : (most : ℕ) (xs ss : List Solution) → Ascends ss → grown (first_of most ss) xs ≡ first_of most (put_all ss xs)
grown_first most [] ss up = refl
grown_first most (x ∷ xs) ss up = ap (λ l. grown (record { most = most; solutions = l }) xs) (add_first most x ss up) ∙ grown_first most xs (put x ss) (put_ascends x ss up)

-- what a request does to the pool that it names, and to another
stepped : (pool : PoolState) (q : PoolRequest) → (pool_step pool q).0 ≡ grown pool (added_by (pool_of q) (Pool q))
stepped pool (Add p value list) = ap (λ b. grown pool (cond b (record { value = value; list = list } ∷ []) [])) (sym (eq-eqb p p refl))
stepped pool (Size p) = refl
stepped pool (Rank p rank) = refl
stepped pool (Take p rank room) = refl

none_added : (p : ℕ) (q : PoolRequest) → pool_of q ≢ p → added_by p (Pool q) ≡ []
none_added p (Add o value list) ne = ap (λ b. cond b (record { value = value; list = list } ∷ []) []) (ne_eqb o p ne)
none_added p (Size o) ne = refl
none_added p (Rank o rank) ne = refl
none_added p (Take o rank room) ne = refl

get_set_same : {X : Type 0} (xs : List X) (i : ℕ) (x y : X) → slice_get xs i ≡ Some x → slice_get (set xs i y) i ≡ Some y
get_set_same [] i x y e = let c : Some x ≡ None = sym e in cc
get_set_same (z ∷ zs) zero x y e = refl
get_set_same (z ∷ zs) (suc i) x y e = get_set_same zs i x y e

get_set_other : {X : Type 0} (xs : List X) (i j : ℕ) (y : X) → i ≢ j → slice_get (set xs i y) j ≡ slice_get xs j
get_set_other [] i j y ne = refl
get_set_other (z ∷ zs) zero zero y ne = absurd (ne refl)
get_set_other (z ∷ zs) zero (suc j) y ne = refl
get_set_other (z ∷ zs) (suc i) zero y ne = refl
get_set_other (z ∷ zs) (suc i) (suc j) y ne = get_set_other zs i j y (λ e. ne (ap suc e))

-- a pool after a request to a desk
pool_after : (desk : DeskState) (q : DeskRequest) (p : ℕ) (pool : PoolState) → slice_get desk.pools p ≡ Some pool → slice_get (desk_after desk q).pools p ≡ Some (grown pool (added_by p q))
pool_after desk (Best q) p pool e = ap (λ (d : DeskState). slice_get d.pools p) (board_of_after desk q) ∙ e
pool_after desk (Pool q) p pool e = cases (slice_get desk.pools (pool_of q)) refl (ℕ_discrete (pool_of q) p)
  where
    cases : (named : Option PoolState) → slice_get desk.pools (pool_of q) ≡ named → Dec (pool_of q ≡ p) → slice_get (after_pool desk q named).pools p ≡ Some (grown pool (added_by p (Pool q)))
    cases None n (yes is) = let c : None ≡ Some pool = sym n ∙ subst (λ k. slice_get desk.pools k ≡ Some pool) (sym is) e in cc
    cases None n (no ne) = e ∙ ap (λ l. Some (grown pool l)) (sym (none_added p q ne))
    cases (Some other) n (yes is) =
        let same : Some other ≡ Some pool = sym n ∙ subst (λ k. slice_get desk.pools k ≡ Some pool) (sym is) e in
        let it : other ≡ pool = cc in
        subst (λ k. slice_get (set desk.pools (pool_of q) (pool_step other q).0) k ≡ Some (grown pool (added_by k (Pool q)))) is
        (get_set_same desk.pools (pool_of q) other (pool_step other q).0 n ∙ ap Some (stepped other q ∙ ap (λ o. grown o (added_by (pool_of q) (Pool q))) it))
    cases (Some other) n (no ne) = get_set_other desk.pools (pool_of q) p (pool_step other q).0 ne ∙ (e ∙ ap (λ l. Some (grown pool l)) (sym (none_added p q ne)))

has_least : (entries : List (Entry DeskRequest Reply)) (desk : DeskState) (p most : ℕ) (all ss : List Solution) → slice_get desk.pools p ≡ Some (first_of most ss) → Sorts all ss
    → IsSomeAnd (slice_get (fold desk entries).pools p) (HasLeast most (all ++ all_added p entries))
has_least [] desk p most all ss is s = subst (λ (o : Option PoolState). IsSomeAnd o (HasLeast most (all ++ []))) (sym is)
    (record { most_is = refl; sorted = ss; stably = subst (λ l. IsSortedStably l ss) (sym (append-nil all)) (sorted_of all ss s); first = refl })
has_least (e ∷ es) desk p most all ss is s =
    let xs : List Solution = added_by p e.request in
    let next : slice_get (desk_after desk e.request).pools p ≡ Some (first_of most (put_all ss xs)) = pool_after desk e.request p (first_of most ss) is ∙ ap Some (grown_first most xs ss s.up) in
    subst (λ l. IsSomeAnd (slice_get (fold (desk_after desk e.request) es).pools p) (HasLeast most l)) (append_assoc all xs (all_added p es))
    (has_least es (desk_after desk e.request) p most (all ++ xs) (put_all ss xs) next (sorts_all all ss xs s))

none_first : (most : ℕ) → first_of most [] ≡ empty_pool most
none_first zero = refl
none_first (suc most) = refl

pub k_least_after : (desk : DeskState) (entries : List (Entry DeskRequest Reply)) (p most : ℕ) → slice_get desk.pools p ≡ Some (empty_pool most) → IsSomeAnd (slice_get (fold desk entries).pools p) (HasLeast most (all_added p entries))
k_least_after desk entries p most is = has_least entries desk p most [] [] (is ∙ ap Some (sym (none_first most))) sorts_none
