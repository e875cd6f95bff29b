-- What waits: the assignment with it in its places, and the moves that it is.
use Rattle.std.proofs.Common.{◌≡◌, ℕ, zero, suc, ◌+◌, ℤ, List, [], ◌∷◌, ◌++◌, Option, Some, None, length, set, refl, sym, ap, ◌∙◌, arith, slice_get, subst}
use Rattle.std.specs.Prelude.{replicate}
use Rattle.cbl_base.specs.declared.ids.VarId.{VarId}
use Rattle.comet_meaning.specs.Models as meant
use Rattle.ls_solver.specs.Committing as solvers
use Rattle.ls_solver.specs.Committing.{AreDistinct}
use Rattle.run_solvers.specs.Waiting.{or_number, overlaid, moves_from, indexed}

-- where nothing waits the assignment is as it is
pub overlaid_none : (a : List ℤ) → overlaid a (replicate (length a) None) ≡ a
overlaid_none [] = refl
overlaid_none (z ∷ a) = ap (λ zs. z ∷ zs) (overlaid_none a)

-- one more number that waits
pub overlaid_set : (a : List ℤ) (ws : List (Option ℤ)) (i : ℕ) (z : ℤ) → length ws ≡ length a → overlaid a (set ws i (Some z)) ≡ set (overlaid a ws) i z
overlaid_set [] [] i z e = refl
overlaid_set [] (w ∷ ws) i z e = absurd (omega (arith, e))
overlaid_set (x ∷ a) [] i z e = absurd (omega (arith, e))
overlaid_set (x ∷ a) (w ∷ ws) zero z e = refl
overlaid_set (x ∷ a) (w ∷ ws) (suc i) z e = ap (λ zs. or_number w x ∷ zs) (overlaid_set a ws i z (omega (arith, e)))

-- moves by their indices
pub indexed_moves : (a : List ℤ) (moves : List (VarId × ℤ)) → meant.after_moves (indexed moves) a ≡ solvers.after_moves a moves
indexed_moves a [] = refl
indexed_moves a (m ∷ moves) = indexed_moves (solvers.moved a m) moves

-- ---- what waits, as moves
written_behind : (front : List ℤ) (b : ℤ) (bs : List ℤ) (z : ℤ) → set (front ++ b ∷ bs) (length front) z ≡ front ++ z ∷ bs
written_behind [] b bs z = refl
written_behind (a ∷ front) b bs z = ap (λ zs. a ∷ zs) (written_behind front b bs z)

pushed : (front : List ℤ) (z : ℤ) (bs : List ℤ) → front ++ z ∷ bs ≡ (front ++ z ∷ []) ++ bs
pushed [] z bs = refl
pushed (a ∷ front) z bs = ap (λ zs. a ∷ zs) (pushed front z bs)

longer : (front : List ℤ) (z : ℤ) → length front + 1 ≡ length (front ++ z ∷ [])
longer [] z = refl
longer (a ∷ front) z = let more = longer front z in omega (arith, more)

moves_behind : (number : ℕ) (front bs : List ℤ) (ws : List (Option ℤ)) → length bs ≡ length ws → solvers.after_moves (front ++ bs) (moves_from number (length front) ws) ≡ front ++ overlaid bs ws
moves_behind number front [] [] e = refl
moves_behind number front [] (w ∷ ws) e = absurd (omega (arith, e))
moves_behind number front (b ∷ bs) [] e = absurd (omega (arith, e))
moves_behind number front (b ∷ bs) (Some z ∷ ws) e =
    ap (λ xs. solvers.after_moves xs (moves_from number (length front + 1) ws)) (written_behind front b bs z ∙ pushed front z bs)
    ∙ ap (λ n. solvers.after_moves ((front ++ z ∷ []) ++ bs) (moves_from number n ws)) (longer front z)
    ∙ moves_behind number (front ++ z ∷ []) bs ws (omega (arith, e))
    ∙ sym (pushed front z (overlaid bs ws))
moves_behind number front (b ∷ bs) (None ∷ ws) e =
    ap (λ xs. solvers.after_moves xs (moves_from number (length front + 1) ws)) (pushed front b bs)
    ∙ ap (λ n. solvers.after_moves ((front ++ b ∷ []) ++ bs) (moves_from number n ws)) (longer front b)
    ∙ moves_behind number (front ++ b ∷ []) bs ws (omega (arith, e))
    ∙ sym (pushed front b (overlaid bs ws))

pub waiting_moves : (number : ℕ) (a : List ℤ) (ws : List (Option ℤ)) → length ws ≡ length a → solvers.after_moves a (moves_from number 0 ws) ≡ overlaid a ws
waiting_moves number a ws e = moves_behind number [] a ws (sym e)

-- each move is of the solver's variable at a place where a number waits, and is that number
pub moves_are : (number i : ℕ) (ws : List (Option ℤ)) (k : ℕ) (m : VarId × ℤ) → slice_get (moves_from number i ws) k ≡ Some m → (j : ℕ) × (m.0 ≡ record { solver = number; index = i + j }) × (slice_get ws j ≡ Some (Some m.1))
moves_are number i [] k m e = let c : None ≡ Some m = e in cc
moves_are number i (None ∷ ws) k m e =
    let found = moves_are number (i + 1) ws k m e in
    (suc found.0, found.1 ∙ ap (λ (n : ℕ). record { solver = number; index = n }) (let z : i + 1 + found.0 ≡ i + suc found.0 = omega arith in z), found.2)
moves_are number i (Some z ∷ ws) zero m e =
    let same : m ≡ (record { solver = number; index = i }, z) = cc in
    (0, ap (λ (p : VarId × ℤ). p.0) same ∙ ap (λ (n : ℕ). record { solver = number; index = n }) (let z : i ≡ i + 0 = omega arith in z), ap (λ (p : VarId × ℤ). Some (Some p.1)) (sym same))
moves_are number i (Some z ∷ ws) (suc k) m e =
    let found = moves_are number (i + 1) ws k m e in
    (suc found.0, found.1 ∙ ap (λ (n : ℕ). record { solver = number; index = n }) (let z : i + 1 + found.0 ≡ i + suc found.0 = omega arith in z), found.2)

-- no two are of one variable
apart : (number i : ℕ) (z : ℤ) (ws : List (Option ℤ)) (k : ℕ) (m n : VarId × ℤ) → ◌≡◌ {A = Option (VarId × ℤ)} (Some (record { solver = number; index = i }, z)) (Some m) → slice_get (moves_from number (i + 1) ws) k ≡ Some n → m.0 ≡ n.0 → ⊥
apart number i z ws k m n e f same =
    let first : m ≡ (record { solver = number; index = i }, z) = cc in
    let later = moves_are number (i + 1) ws k n f in
    let here : m.0.index ≡ i = ap (λ (p : VarId × ℤ). p.0.index) first in
    let there : n.0.index ≡ i + 1 + later.0 = ap (λ (x : VarId). x.index) later.1 in
    let both : m.0.index ≡ n.0.index = ap (λ (x : VarId). x.index) same in
    omega (arith, here, there, both)

pub moves_distinct : (number i : ℕ) (ws : List (Option ℤ)) → AreDistinct (moves_from number i ws)
moves_distinct number i [] j k m n e f same = let c : None ≡ Some m = e in cc
moves_distinct number i (None ∷ ws) j k m n e f same = moves_distinct number (i + 1) ws j k m n e f same
moves_distinct number i (Some z ∷ ws) zero zero m n e f same = refl
moves_distinct number i (Some z ∷ ws) zero (suc k) m n e f same = absurd (apart number i z ws k m n e f same)
moves_distinct number i (Some z ∷ ws) (suc j) zero m n e f same = absurd (apart number i z ws j n m f e (sym same))
moves_distinct number i (Some z ∷ ws) (suc j) (suc k) m n e f same = ap suc (moves_distinct number (i + 1) ws j k m n e f same)

-- one move, and two of different variables
pub one_each : (P : VarId × ℤ → Type 0) (m : VarId × ℤ) → P m → (k : ℕ) (a : VarId × ℤ) → slice_get (m ∷ []) k ≡ Some a → P a
one_each P m p zero a e = let same : m ≡ a = cc in subst P same p
one_each P m p (suc k) a e = let c : None ≡ Some a = e in cc

pub two_each : (P : VarId × ℤ → Type 0) (m n : VarId × ℤ) → P m → P n → (k : ℕ) (a : VarId × ℤ) → slice_get (m ∷ n ∷ []) k ≡ Some a → P a
two_each P m n p q zero a e = let same : m ≡ a = cc in subst P same p
two_each P m n p q (suc k) a e = one_each P n q k a e

pub one_distinct : (m : VarId × ℤ) → AreDistinct (m ∷ [])
one_distinct m zero zero a b e f same = refl
one_distinct m zero (suc k) a b e f same = let c : None ≡ Some b = f in cc
one_distinct m (suc j) k a b e f same = let c : None ≡ Some a = e in cc

pub two_distinct : (m n : VarId × ℤ) → (m.0.index ≡ n.0.index → ⊥) → AreDistinct (m ∷ n ∷ [])
two_distinct m n ne zero zero a b e f same = refl
two_distinct m n ne zero (suc zero) a b e f same =
    let first : a ≡ m = cc in
    let second : b ≡ n = cc in
    absurd (ne (ap (λ (p : VarId × ℤ). p.0.index) (sym first) ∙ ap (λ (x : VarId). x.index) same ∙ ap (λ (p : VarId × ℤ). p.0.index) second))
two_distinct m n ne zero (suc (suc k)) a b e f same = let c : None ≡ Some b = f in cc
two_distinct m n ne (suc zero) zero a b e f same =
    let first : a ≡ n = cc in
    let second : b ≡ m = cc in
    absurd (ne (ap (λ (p : VarId × ℤ). p.0.index) (sym second) ∙ ap (λ (x : VarId). x.index) (sym same) ∙ ap (λ (p : VarId × ℤ). p.0.index) first))
two_distinct m n ne (suc zero) (suc zero) a b e f same = refl
two_distinct m n ne (suc zero) (suc (suc k)) a b e f same = let c : None ≡ Some b = f in cc
two_distinct m n ne (suc (suc j)) k a b e f same = let c : None ≡ Some a = e in cc

-- of two numbers for one variable the second counts
pub second_counts : (a : List ℤ) (i : ℕ) (y z : ℤ) → set (set a i y) i z ≡ set a i z
second_counts [] i y z = refl
second_counts (x ∷ a) zero y z = refl
second_counts (x ∷ a) (suc i) y z = ap (λ zs. x ∷ zs) (second_counts a i y z)
