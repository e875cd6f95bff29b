-- Free variables, and moves of them.
use Rattle.std.proofs.Common.{◌≡◌, ℕ, ℤ, zero, suc, ◌+◌, ◌<◌, ◌≤◌, Bool, true, false, not, ◌&&◌, List, [], ◌∷◌, ◌++◌, Option, Some, None, map, length, refl, sym, ap, ◌∙◌, subst, arith, slice_get, filter, zip, cond, set, length-set, count_by, ◌||◌, nat_eq, nat_lt, if◌then◌else◌}
use Rattle.std.proofs.lemmas.Bool.Decides.{nat_tests}
use Rattle.std.proofs.lemmas.List.Elements.{filter-append, filter_map-append}
use Rattle.std.proofs.lemmas.List.{append-nil}
use Rattle.std.proofs.lemmas.List.Sums.{length-filter}
use Rattle.std.specs.List.{cons_option, list_all, list_any, range_with_len}
use Rattle.cbl_base.proofs.PlaceLemmas.{others_stay}
use Rattle.cbl_base.specs.declared.faults.RunFault.TheVariants.{DefinedVariable, WrongSolver}
use Rattle.cbl_base.specs.declared.ids.VarId.{VarId}
use Rattle.solver_models.specs.FreeVariables.{free_places, free_values, moves_to, numbers_at}
use Rattle.solver_models.specs.Ids.{has_definition, id_at, is_own}
use Rattle.solver_models.specs.Kept.{AreMarks, mark_at}
use Rattle.solver_models.specs.Moves.{after_moves, commit_refusal, committed}
use Rattle.solver_models.specs.State.{SolverState}
use Rattle.solver_models.specs.Unmarked.{id_in, unmarked, unmarked_below, with_move, with_number}
use Rattle.solver_models.proofs.ListLaws.{map_push, range_push}
use Rattle.term_model.specs.declared.model.Model.{Model}
use Rattle.term_model.proofs.VarLaws.{set_same}

-- ---- one more place
one_place : (test : ℕ → Bool) (n : ℕ) → filter test (range_with_len 0 (n + 1)) ≡ filter test (range_with_len 0 n) ++ cond (test n) (n ∷ []) []
one_place test n =
    ap (filter test) (range_push 0 n ∙ ap (λ k. range_with_len 0 n ++ k ∷ []) (let e : 0 + n ≡ n = omega arith in e)) ∙ filter-append test (range_with_len 0 n) (n ∷ [])

pub place_more : (marks : List Bool) (n : ℕ) → mark_at marks n ≡ false → unmarked_below marks (n + 1) ≡ unmarked_below marks n ++ n ∷ []
place_more marks n free = one_place (λ i. not (mark_at marks i)) n ∙ ap (λ b. unmarked_below marks n ++ cond (not b) (n ∷ []) []) free

pub place_same : (marks : List Bool) (n : ℕ) → mark_at marks n ≡ true → unmarked_below marks (n + 1) ≡ unmarked_below marks n
place_same marks n marked =
    one_place (λ i. not (mark_at marks i)) n ∙ ap (λ b. unmarked_below marks n ++ cond (not b) (n ∷ []) []) marked ∙ append-nil (unmarked_below marks n)

-- ---- moves, one after another
value_next : (xs : List VarId) (ys : List ℤ) → slice_get ys (length (zip xs ys)) ≡ slice_get ys (length xs)
value_next [] ys = refl
value_next (x ∷ xs) [] = refl
value_next (x ∷ xs) (y ∷ ys) = value_next xs ys

zip_push : (xs : List VarId) (x : VarId) (ys : List ℤ) → zip (xs ++ x ∷ []) ys ≡ with_move (zip xs ys) x (slice_get ys (length xs))
zip_push [] x [] = refl
zip_push [] x (y ∷ ys) = refl
zip_push (k ∷ xs) x [] = refl
zip_push (k ∷ xs) x (y ∷ ys) = ap (λ ms. (k, y) ∷ ms) (zip_push xs x ys) ∙ behind (slice_get ys (length xs))
  where
    behind : (o : Option ℤ) → (k, y) ∷ with_move (zip xs ys) x o ≡ with_move ((k, y) ∷ zip xs ys) x o
    behind None = refl
    behind (Some value) = refl

pub moves_pushed : (solver : ℕ) (marks : List Bool) (values : List ℤ) (n : ℕ) (so_far after : List (VarId × ℤ)) → mark_at marks n ≡ false →
    so_far ≡ zip (map (id_in solver) (unmarked_below marks n)) values →
    after ≡ with_move so_far (id_in solver n) (slice_get values (length so_far)) →
    after ≡ zip (map (id_in solver) (unmarked_below marks (n + 1))) values
moves_pushed solver marks values n so_far after free is next =
    let ids = map (id_in solver) (unmarked_below marks n) in
    next ∙ ap (λ ms. with_move ms (id_in solver n) (slice_get values (length ms))) is
    ∙ ap (with_move (zip ids values) (id_in solver n)) (value_next ids values)
    ∙ sym (zip_push ids (id_in solver n) values)
    ∙ ap (λ xs. zip xs values) (sym (map_push (id_in solver) (unmarked_below marks n) n))
    ∙ ap (λ ps. zip (map (id_in solver) ps) values) (sym (place_more marks n free))

-- ---- numbers, one after another
number_pushed : (numbers : List ℤ) (o : Option ℤ) → with_number numbers o ≡ numbers ++ cons_option o []
number_pushed numbers None = sym (append-nil numbers)
number_pushed numbers (Some number) = refl

pub numbers_pushed : (marks : List Bool) (a : List ℤ) (n : ℕ) (so_far after : List ℤ) → mark_at marks n ≡ false → so_far ≡ numbers_at a (unmarked_below marks n) →
    after ≡ with_number so_far (slice_get a n) → after ≡ numbers_at a (unmarked_below marks (n + 1))
numbers_pushed marks a n so_far after free is next =
    next ∙ number_pushed so_far (slice_get a n) ∙ ap (λ xs. xs ++ cons_option (slice_get a n) []) is
    ∙ sym (filter_map-append (slice_get a) (unmarked_below marks n) (n ∷ []))
    ∙ ap (numbers_at a) (sym (place_more marks n free))

-- ---- the places of free variables
abbrev pub Each : (ℕ → Type 0) → List ℕ → Type 0
Each P [] = Unit {0}
Each P (i ∷ is) = P i × Each P is

abbrev pub Rising : List ℕ → Type 0
Rising [] = Unit {0}
Rising (i ∷ is) = Each (λ j. i < j) is × Rising is

each_more : (P Q : ℕ → Type 0) → ((i : ℕ) → P i → Q i) → (is : List ℕ) → Each P is → Each Q is
each_more P Q f [] h = tt
each_more P Q f (i ∷ is) h = (f i h.0, each_more P Q f is h.1)

range_between : (a n : ℕ) → Each (λ i. (a ≤ i) × (i < a + n)) (range_with_len a n)
range_between a zero = tt
range_between a (suc n) =
    ((omega arith, omega arith), each_more (λ i. (a + 1 ≤ i) × (i < a + 1 + n)) (λ i. (a ≤ i) × (i < a + suc n)) (λ i h. let low = h.0 in let high = h.1 in (omega arith, omega arith)) (range_with_len (a + 1) n) (range_between (a + 1) n))

range_rises : (a n : ℕ) → Rising (range_with_len a n)
range_rises a zero = tt
range_rises a (suc n) =
    (each_more (λ i. (a + 1 ≤ i) × (i < a + 1 + n)) (λ i. a < i) (λ i h. let low = h.0 in omega arith) (range_with_len (a + 1) n) (range_between (a + 1) n), range_rises (a + 1) n)

each_filtered : (P : ℕ → Type 0) (test : ℕ → Bool) (is : List ℕ) → Each P is → Each (λ i. P i × (test i ≡ true)) (filter test is)
each_filtered P test [] h = tt
each_filtered P test (i ∷ is) h = by (test i) refl (each_filtered P test is h.1)
  where
    by : (b : Bool) → test i ≡ b → Each (λ i. P i × (test i ≡ true)) (filter test is) → Each (λ i. P i × (test i ≡ true)) (cond b (i ∷ filter test is) (filter test is))
    by true e rest = ((h.0, e), rest)
    by false e rest = rest

each_kept : (P : ℕ → Type 0) (test : ℕ → Bool) (is : List ℕ) → Each P is → Each P (filter test is)
each_kept P test is h = each_more (λ i. P i × (test i ≡ true)) P (λ i k. k.0) (filter test is) (each_filtered P test is h)

rising_filtered : (test : ℕ → Bool) (is : List ℕ) → Rising is → Rising (filter test is)
rising_filtered test [] h = tt
rising_filtered test (i ∷ is) h = by (test i) (rising_filtered test is h.1)
  where
    by : (b : Bool) → Rising (filter test is) → Rising (cond b (i ∷ filter test is) (filter test is))
    by true rest = (each_kept (λ j. i < j) test is h.0, rest)
    by false rest = rest

filter_same : (p q : ℕ → Bool) → ((i : ℕ) → p i ≡ q i) → (is : List ℕ) → filter p is ≡ filter q is
filter_same p q e [] = refl
filter_same p q e (i ∷ is) = ap (λ b. cond b (i ∷ filter p is) (filter p is)) (e i) ∙ ap (λ xs. cond (q i) (i ∷ xs) xs) (filter_same p q e is)

-- the places without a mark are those of the free variables
pub free_unmarked : (M : Model) (marks : List Bool) → AreMarks M marks → unmarked marks ≡ free_places M
free_unmarked M marks are =
    ap (unmarked_below marks) are.count
    ∙ filter_same (λ i. not (mark_at marks i)) (λ i. not (has_definition M i)) (λ i. ap not (are.each i)) (range_with_len 0 (length M.vars.items))

-- how many they are, by the marks
same_count : (b m : Bool) (i : ℕ) (is : List ℕ) (ms : List Bool) → b ≡ not m → length is ≡ length ms → length (cond b (i ∷ is) is) ≡ length (cond (not m) (m ∷ ms) ms)
same_count b true i is ms e long = ap (λ t. length (cond t (i ∷ is) is)) e ∙ long
same_count b false i is ms e long = ap (λ t. length (cond t (i ∷ is) is)) e ∙ ap suc long

counted_from : (test : ℕ → Bool) (marks : List Bool) (a : ℕ) → ((k : ℕ) → test (a + k) ≡ not (mark_at marks k)) → length (filter test (range_with_len a (length marks))) ≡ length (filter not marks)
counted_from test [] a e = refl
counted_from test (m ∷ marks) a e =
    let here : a + 0 ≡ a = omega arith in
    same_count (test a) m a (filter test (range_with_len (a + 1) (length marks))) (filter not marks) (ap test (sym here) ∙ e 0)
    (counted_from test marks (a + 1) (λ k. ap test (let next : a + 1 + k ≡ a + suc k = omega arith in next) ∙ e (suc k)))

pub free_counted : (M : Model) (marks : List Bool) → AreMarks M marks → count_by not marks ≡ length (free_places M)
free_counted M marks are =
    sym (length-filter not marks)
    ∙ sym (counted_from (λ i. not (mark_at marks i)) marks 0 (λ k. ap (λ i. not (mark_at marks i)) (let e : 0 + k ≡ k = omega arith in e)))
    ∙ ap length (free_unmarked M marks are)

free_each : (M : Model) → Each (λ i. (i < length M.vars.items) × (not (has_definition M i) ≡ true)) (free_places M)
free_each M =
    let test : ℕ → Bool = λ i. not (has_definition M i) in
    let all = range_with_len 0 (length M.vars.items) in
    let below = each_more (λ i. (0 ≤ i) × (i < 0 + length M.vars.items)) (λ i. i < length M.vars.items) (λ i h. let high = h.1 in omega arith) all (range_between 0 (length M.vars.items)) in
    each_filtered (λ i. i < length M.vars.items) test all below

-- ---- moves of free variables are never refused
own_is : (n i : ℕ) → i < n → nat_lt i n ≡ true
own_is n i lt = grind (arith, nat_tests)

same_number : (n : ℕ) → nat_eq n n ≡ true
same_number n = grind (arith, nat_tests)

all_own : (s : SolverState) (is : List ℕ) (values : List ℤ) → Each (λ i. (i < length s.model.vars.items) × (not (has_definition s.model i) ≡ true)) is →
    list_all (λ m. is_own s m.0) (zip (map (id_at s) is) values) ≡ true
all_own s [] values h = refl
all_own s (i ∷ is) [] h = refl
all_own s (i ∷ is) (v ∷ values) h =
    ap (λ b. (b && nat_lt i (length s.model.vars.items)) && list_all (λ m. is_own s m.0) (zip (map (id_at s) is) values)) (same_number s.number)
    ∙ ap (λ b. b && list_all (λ m. is_own s m.0) (zip (map (id_at s) is) values)) (own_is (length s.model.vars.items) i h.0.0)
    ∙ all_own s is values h.1

not_is : (b : Bool) → not b ≡ true → b ≡ false
not_is true e = sym e
not_is false e = refl

none_defined : (s : SolverState) (is : List ℕ) (values : List ℤ) → Each (λ i. (i < length s.model.vars.items) × (not (has_definition s.model i) ≡ true)) is →
    list_any (λ m. has_definition s.model m.0.index) (zip (map (id_at s) is) values) ≡ false
none_defined s [] values h = refl
none_defined s (i ∷ is) [] h = refl
none_defined s (i ∷ is) (v ∷ values) h =
    ap (λ b. b || list_any (λ m. has_definition s.model m.0.index) (zip (map (id_at s) is) values)) (not_is (has_definition s.model i) h.0.1)
    ∙ none_defined s is values h.1

pub never_refused : (s : SolverState) (values : List ℤ) → commit_refusal s (moves_to s values) ≡ None
never_refused s values =
    ap (λ b. if not b then Some WrongSolver else (if list_any (λ m. has_definition s.model m.0.index) (moves_to s values) then Some DefinedVariable else None)) (all_own s (free_places s.model) values (free_each s.model))
    ∙ ap (λ b. if b then Some DefinedVariable else None) (none_defined s (free_places s.model) values (free_each s.model))

-- ---- after them the free variables have the values
less_differs : (i j : ℕ) → i < j → i ≡ j → ⊥
less_differs i j lt e = omega (arith, lt, e)

stays_before : (s : SolverState) (is : List ℕ) (values a : List ℤ) (p : ℕ) → Each (λ j. p < j) is → slice_get (after_moves a (zip (map (id_at s) is) values)) p ≡ slice_get a p
stays_before s [] values a p h = refl
stays_before s (i ∷ is) [] a p h = refl
stays_before s (i ∷ is) (v ∷ values) a p h = stays_before s is values (set a i v) p h.1 ∙ others_stay a i p v (less_differs p i h.0)

pub values_there : (s : SolverState) (is : List ℕ) (values a : List ℤ) → length values ≡ length is → Rising is → Each (λ i. i < length a) is →
    numbers_at (after_moves a (zip (map (id_at s) is) values)) is ≡ values
values_there s [] [] a long rise within = refl
values_there s [] (v ∷ values) a long rise within = absurd (omega (arith, long))
values_there s (i ∷ is) [] a long rise within = absurd (omega (arith, long))
values_there s (i ∷ is) (v ∷ values) a long rise within =
    let after = after_moves (set a i v) (zip (map (id_at s) is) values) in
    let more : length values ≡ length is = omega (arith, long) in
    ap (λ o. cons_option o (numbers_at after is)) (stays_before s is values (set a i v) i rise.0 ∙ set_same a i v within.0)
    ∙ ap (λ vs. v ∷ vs) (values_there s is values (set a i v) more rise.1
    (each_more (λ j. j < length a) (λ j. j < length (set a i v)) (λ j lt. subst (λ n. j < n) (sym (length-set a i v)) lt) is within.1))

pub free_after : (s : SolverState) (values : List ℤ) → length s.assignment ≡ length s.model.vars.items → length values ≡ length (free_places s.model) →
    free_values (committed s (moves_to s values)) ≡ values
free_after s values assigned long =
    values_there s (free_places s.model) values s.assignment long
    (rising_filtered (λ i. not (has_definition s.model i)) (range_with_len 0 (length s.model.vars.items)) (range_rises 0 (length s.model.vars.items)))
    (each_more (λ i. (i < length s.model.vars.items) × (not (has_definition s.model i) ≡ true)) (λ i. i < length s.assignment) (λ i h. subst (λ n. i < n) (sym assigned) h.0) (free_places s.model) (free_each s.model))
