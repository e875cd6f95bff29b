-- Where a new solution stands, found from the back.
use Rattle.std.proofs.Common.{◌≡◌, ℕ, zero, suc, ◌+◌, ◌-◌, ◌<◌, ◌≤◌, ℤ, Bool, true, false, not, ◌||◌, cond, nat_lt, List, [], ◌∷◌, ◌++◌, length, take, insert, get_or, set, refl, ap, sym, ◌∙◌, arith, ◌⊎◌, inl, inr}
use Rattle.std.specs.Prelude.{int_lt}
use Rattle.std.proofs.lemmas.List.{take_more, length-take-le, take_all}
use Rattle.std.proofs.lemmas.Bool.{lt-ltb, le-ltb, cases_lt}
use Rattle.pool_monitor.specs.declared.pool.Solution.{Solution}
use Rattle.pool_monitor.specs.Pool.{PoolState, place_for, without_excess, added, is_kept, add_step}
use Rattle.best_monitor.specs.declared.request.Reply.TheVariants as reply

-- a greater one at the end changes no place
place_greater : (v : ℤ) (ss : List Solution) (s : Solution) → int_lt v s.value ≡ true → place_for v (ss ++ s ∷ []) ≡ place_for v ss
place_greater v [] s h = ap (λ b. cond (not b) (suc zero) zero) h
place_greater v (y ∷ ys) s h = ap (λ n. cond (nat_lt 0 n || not (int_lt v y.value)) (suc n) zero) (place_greater v ys s h)

-- behind one at the end that isn't greater
place_at_most : (v : ℤ) (ss : List Solution) (s : Solution) → int_lt v s.value ≡ false → place_for v (ss ++ s ∷ []) ≡ suc (length ss)
place_at_most v [] s h = ap (λ b. cond (not b) (suc zero) zero) h
place_at_most v (y ∷ ys) s h = ap (λ n. cond (nat_lt 0 n || not (int_lt v y.value)) (suc n) zero) (place_at_most v ys s h)
    ∙ ap (λ b. cond (b || not (int_lt v y.value)) (suc (suc (length ys))) zero) (lt-ltb 0 (suc (length ys)) (omega arith))

-- one step of the search from the back
pub place_before : (v : ℤ) (ss : List Solution) (p : ℕ) (d : Solution) → p < length ss → int_lt v (get_or ss p d).value ≡ true → place_for v (take (p + 1) ss) ≡ place_for v (take p ss)
place_before v ss p d within h = ap (place_for v) (take_more ss p d within) ∙ place_greater v (take p ss) (get_or ss p d) h

-- its end
pub place_here : (v : ℤ) (ss : List Solution) (p : ℕ) (d : Solution) → p < length ss → int_lt v (get_or ss p d).value ≡ false → place_for v (take (p + 1) ss) ≡ p + 1
place_here v ss p d within h = ap (place_for v) (take_more ss p d within) ∙ (place_at_most v (take p ss) (get_or ss p d) h ∙ (ap suc (length-take-le p ss (omega arith)) ∙ omega arith))

-- no place lies past the end
pub place_within : (v : ℤ) (ss : List Solution) → place_for v ss ≤ length ss
place_within v [] = omega arith
place_within v (s ∷ ss) = cases (nat_lt 0 (place_for v ss) || not (int_lt v s.value)) (place_within v ss)
  where
    cases : (b : Bool) → place_for v ss ≤ length ss → cond b (suc (place_for v ss)) zero ≤ suc (length ss)
    cases true h = omega arith
    cases false h = omega arith

module _ {X : Type 0} where
  -- the last one exchanged
  pub set_last : (xs : List X) (i : ℕ) (y : X) → i + 1 ≡ length xs → set xs i y ≡ take i xs ++ y ∷ []
  set_last [] i y e = absurd (omega arith)
  set_last (x ∷ []) zero y e = refl
  set_last (x ∷ z ∷ zs) zero y e = absurd (omega arith)
  set_last (x ∷ xs) (suc i) y e = ap (λ l. x ∷ l) (set_last xs i y (omega arith))

  pub length_inserted : (ss : List X) (p : ℕ) (x : X) → length (insert ss p x) ≡ suc (length ss)
  length_inserted ss zero x = refl
  length_inserted [] (suc p) x = refl
  length_inserted (y ∷ ys) (suc p) x = ap suc (length_inserted ys p x)

  -- one put before the end, and the last dropped: dropped first, and then put
  insert_full : (ss : List X) (m p : ℕ) (x : X) → length ss ≡ suc m → p ≤ m → take (suc m) (insert ss p x) ≡ insert (take m ss) p x
  insert_full [] m p x long within = absurd (omega arith)
  insert_full (y ∷ ys) m zero x long within = refl
  insert_full (y ∷ ys) zero (suc p) x long within = absurd (omega arith)
  insert_full (y ∷ ys) (suc m) (suc p) x long within = ap (λ l. y ∷ l) (insert_full ys m p x (omega arith) (omega arith))

  -- one put at the end, and the last dropped
  insert_out : (ss : List X) (p : ℕ) (x : X) → length ss ≤ p → take (length ss) (insert ss p x) ≡ ss
  insert_out [] p x past = refl
  insert_out (y ∷ ys) zero x past = absurd (omega arith)
  insert_out (y ∷ ys) (suc p) x past = ap (λ l. y ∷ l) (insert_out ys p x (omega arith))

-- one more in a list that isn't full
excess_room : (most : ℕ) (ss : List Solution) (p : ℕ) (x : Solution) → length ss < most → without_excess most (insert ss p x) ≡ insert ss p x
excess_room most ss p x room = ap (λ b. cond b (take (length (insert ss p x) - 1) (insert ss p x)) (insert ss p x)) (ap (nat_lt most) (length_inserted ss p x) ∙ le-ltb most (suc (length ss)) (omega arith))

-- one more in a list that is full
excess_full : (most : ℕ) (ss : List Solution) (p : ℕ) (x : Solution) → length ss ≡ most → without_excess most (insert ss p x) ≡ take (length ss) (insert ss p x)
excess_full most ss p x full = ap (λ b. cond b (take (length (insert ss p x) - 1) (insert ss p x)) (insert ss p x)) (ap (nat_lt most) (length_inserted ss p x) ∙ lt-ltb most (suc (length ss)) (omega arith))
    ∙ ap (λ n. take n (insert ss p x)) less
  where
    less : length (insert ss p x) - 1 ≡ length ss
    less = let more : length (insert ss p x) ≡ suc (length ss) = length_inserted ss p x in omega arith

-- a solution whose place is below `most` is put at its place, behind the last was dropped where there were so many
pub added_kept : (pool : PoolState) (x : Solution) → length pool.solutions ≤ pool.most → place_for x.value pool.solutions < pool.most → added pool x ≡ insert (take (pool.most - 1) pool.solutions) (place_for x.value pool.solutions) x
added_kept pool x fits within = cases (cases_lt (length ss) most)
  where
    most : ℕ
    most = pool.most

    ss : List Solution
    ss = pool.solutions

    p : ℕ
    p = place_for x.value pool.solutions

    cases : (length ss < most) ⊎ (most ≤ length ss) → added pool x ≡ insert (take (most - 1) ss) p x
    cases (inl room) = excess_room most ss p x room ∙ ap (λ l. insert l p x) (sym (take_all (most - 1) ss (omega arith)))
    cases (inr full) = let long : length ss ≡ suc (most - 1) = omega arith in excess_full most ss p x (omega arith) ∙ (ap (λ n. take n (insert ss p x)) long ∙ insert_full ss (most - 1) p x (omega arith) (omega arith))

-- any other changes nothing
pub added_out : (pool : PoolState) (x : Solution) → length pool.solutions ≤ pool.most → pool.most ≤ place_for x.value pool.solutions → added pool x ≡ pool.solutions
added_out pool x fits past =
    let within : place_for x.value pool.solutions ≤ length pool.solutions = place_within x.value pool.solutions in
    excess_full pool.most pool.solutions (place_for x.value pool.solutions) x (omega arith) ∙ insert_out pool.solutions (place_for x.value pool.solutions) x (omega arith)

-- so a solution is kept exactly where its place is below `most`
pub kept_by_place : (pool : PoolState) (x : Solution) → length pool.solutions ≤ pool.most → nat_lt (place_for x.value pool.solutions) pool.most ≡ is_kept pool x
kept_by_place pool x fits = cases (cases_lt (length ss) most)
  where
    most : ℕ
    most = pool.most

    ss : List Solution
    ss = pool.solutions

    p : ℕ
    p = place_for x.value pool.solutions

    more : length (insert ss p x) ≡ suc (length ss)
    more = length_inserted ss p x

    cases : (length ss < most) ⊎ (most ≤ length ss) → nat_lt p most ≡ is_kept pool x
    cases (inl room) =
        let within : p ≤ length ss = place_within x.value ss in
        let long : length (added pool x) ≡ suc (length ss) = ap length (excess_room most ss p x room) ∙ more in
        lt-ltb p most (omega arith) ∙ sym (lt-ltb p (length (added pool x)) (omega (arith, long, within)))
    cases (inr full) =
        let long : length (added pool x) ≡ length ss = ap length (excess_full most ss p x (omega arith)) ∙ length-take-le (length ss) (insert ss p x) (omega (arith, more)) in
        let same : most ≡ length (added pool x) = omega arith in
        ap (nat_lt p) same

-- an addition whose place isn't below `most`
pub step_out : (pool : PoolState) (x : Solution) → length pool.solutions ≤ pool.most → pool.most ≤ place_for x.value pool.solutions → add_step pool x ≡ (pool, reply.Truth false)
step_out pool x fits past =
    ap (λ l. (record { most = pool.most; solutions = l }, reply.Truth (is_kept pool x))) (added_out pool x fits past)
    ∙ ap (λ b. (pool, reply.Truth b)) (sym (kept_by_place pool x fits) ∙ le-ltb (place_for x.value pool.solutions) pool.most past)

-- any other
pub step_kept : (pool : PoolState) (x : Solution) (after : List Solution) → length pool.solutions ≤ pool.most → place_for x.value pool.solutions < pool.most → after ≡ insert (take (pool.most - 1) pool.solutions) (place_for x.value pool.solutions) x
    → add_step pool x ≡ (record { most = pool.most; solutions = after }, reply.Truth true)
step_kept pool x after fits within is =
    ap (λ l. (record { most = pool.most; solutions = l }, reply.Truth (is_kept pool x))) (added_kept pool x fits within ∙ sym is)
    ∙ ap (λ b. (record { most = pool.most; solutions = after }, reply.Truth b)) (sym (kept_by_place pool x fits) ∙ lt-ltb (place_for x.value pool.solutions) pool.most within)
