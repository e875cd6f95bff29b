-- How often a number stands among the first numbers of a list, after a change.
use Rattle.std.proofs.Common.{◌≡◌, ℕ, zero, suc, ◌+◌, ◌-◌, ◌<◌, ◌≤◌, ◌^◌, ℤ, pos, List, [], ◌∷◌, ◌++◌, length, length-append, get_or, set, take, Result, Ok, refl, ap, sym, ◌∙◌, subst, arith}
use Rattle.std.proofs.lemmas.Bool.{cond-true}
use Rattle.std.proofs.lemmas.List.{take-set-le, length-take}
use Rattle.std.specs.Ordering.{int_eq}
use Rattle.cbl_base.specs.Counts.{count_of}
use Rattle.cbl_base.specs.declared.faults.RunFault.{RunFault}
use Rattle.cbl_base.proofs.CountLemmas.{count_of-cons, count_of-le-length}
use Rattle.cbl_base.proofs.SetLemmas.{int_eq-itself}
use Rattle.cbl_operations.specs.Operations.Count.{count}
use Rattle.node_base.specs.NumberChanges.{IsNumberChange, after_number_change, after_number_changes}
use Rattle.node_base.specs.declared.number_change.NumberChange.{NumberChange}
use Rattle.node_base.proofs.ChangeLemmas.{number_within, number_read, length-after_numbers}
use Rattle.node_count.specs.After.{number_after}
use Rattle.node_count.specs.Standing.{one_where}
use Rattle.node_count.proofs.AfterLemmas.{number_read_after}

-- another number at one of the first places
front_set : (v : ℤ) (n : ℕ) (xs : List ℤ) (p : ℕ) (y : ℤ) → p < n → p < length xs → count_of v (take n (set xs p y)) + one_where v (get_or xs p (pos 0)) ≡ count_of v (take n xs) + one_where v y
front_set v n [] p y lt within = absurd (omega arith)
front_set v zero (x ∷ xs) p y lt within = absurd (omega arith)
front_set v (suc n) (x ∷ xs) zero y lt within = omega (arith, count_of-cons v y (take n xs), count_of-cons v x (take n xs))
front_set v (suc n) (x ∷ xs) (suc p) y lt within =
    let later = front_set v n xs p y (omega arith) (omega arith) in
    omega (arith, later, count_of-cons v x (take n (set xs p y)), count_of-cons v x (take n xs))

front_stands : (v : ℤ) (n : ℕ) (xs : List ℤ) (p : ℕ) → p < n → p < length xs → get_or xs p (pos 0) ≡ v → 0 < count_of v (take n xs)
front_stands v n [] p lt within at = absurd (omega arith)
front_stands v zero (x ∷ xs) p lt within at = absurd (omega arith)
front_stands v (suc n) (x ∷ xs) zero lt within at =
    let one : one_where v x ≡ 1 = subst (λ z. one_where v z ≡ 1) (sym at) (cond-true (int_eq v v) 1 0 (int_eq-itself v)) in
    omega (arith, one, count_of-cons v x (take n xs))
front_stands v (suc n) (x ∷ xs) (suc p) lt within at =
    let later = front_stands v n xs p (omega arith) (omega arith) at in
    omega (arith, later, count_of-cons v x (take n xs))

-- a change among the first, and one behind them
pub turn_inside : (v : ℤ) (n : ℕ) (xs : List ℤ) (c : NumberChange) → IsNumberChange xs c → c.place < n → count_of v (take n (after_number_change xs c)) + one_where v c.old ≡ count_of v (take n xs) + one_where v c.new
turn_inside v n xs c is lt =
    ap (λ z. count_of v (take n (set xs c.place c.new)) + one_where v z) (sym (number_read xs c (pos 0) is)) ∙ front_set v n xs c.place c.new lt (number_within xs c is)

pub turn_stood : (v : ℤ) (n : ℕ) (xs : List ℤ) (c : NumberChange) → IsNumberChange xs c → c.place < n → c.old ≡ v → 0 < count_of v (take n xs)
turn_stood v n xs c is lt same = front_stands v n xs c.place lt (number_within xs c is) (number_read xs c (pos 0) is ∙ same)

pub turn_outside : (v : ℤ) (n : ℕ) (xs : List ℤ) (c : NumberChange) → n ≤ c.place → count_of v (take n (after_number_change xs c)) ≡ count_of v (take n xs)
turn_outside v n xs c le = ap (count_of v) (take-set-le n xs c.place c.new le)

pub front_few : (v : ℤ) (n : ℕ) (xs : List ℤ) → n < 2 ^ 63 → count_of v (take n xs) < 2 ^ 63
front_few v n xs short = omega (arith, short, count_of-le-length v (take n xs), length-take n xs)

-- the cells and the number that is counted
take_front : (xs ys : List ℤ) → take (length xs) (xs ++ ys) ≡ xs
take_front [] ys = refl
take_front (x ∷ xs) ys = ap (λ t. x ∷ t) (take_front xs ys)

pub first_cells : (v : ℤ) (n : ℕ) (xs : List ℤ) (x : ℤ) → n ≡ length xs → count_of v (take n (xs ++ x ∷ [])) ≡ count_of v xs
first_cells v n xs x is = ap (λ k. count_of v (take k (xs ++ x ∷ []))) is ∙ ap (count_of v) (take_front xs (x ∷ []))

last_read : (xs : List ℤ) (x d : ℤ) → get_or (xs ++ x ∷ []) (length xs) d ≡ x
last_read [] x d = refl
last_read (y ∷ xs) x d = last_read xs x d

pub counted_after : (xs : List ℤ) (x : ℤ) (cs : List NumberChange) (n : ℕ) (v : ℤ) (times : ℕ) → n ≡ length xs → v ≡ number_after n x cs → times ≡ count_of v (take n (after_number_changes (xs ++ x ∷ []) cs)) → count.value (after_number_changes (xs ++ x ∷ []) cs) ≡ Ok (pos times)
counted_after xs x cs n v times is is_v is_times =
    let all = xs ++ x ∷ [] in
    let ys = after_number_changes all cs in
    let cells : length ys - 1 ≡ n = omega (arith, is, length-after_numbers all cs, length-append xs (x ∷ [])) in
    let within : n < length all = omega (arith, is, length-append xs (x ∷ [])) in
    let last : get_or ys n (pos 0) ≡ v = number_read_after all cs n (pos 0) within ∙ ap (λ z. number_after n z cs) (ap (λ k. get_or all k (pos 0)) is ∙ last_read xs x (pos 0)) ∙ sym is_v in
    ap (λ k. value_at ys k) cells ∙ ap (λ w. ok (count_of w (take n ys))) last ∙ ap ok (sym is_times)
  where
    ok : ℕ → Result ℤ RunFault
    ok k = Ok (pos k)

    value_at : List ℤ → ℕ → Result ℤ RunFault
    value_at ys k = ok (count_of (get_or ys k (pos 0)) (take k ys))

-- another cell, and another number that is counted
pub cell_set : (xs ys : List ℤ) (x : ℤ) (c : NumberChange) → c.place < length xs → ys ≡ set xs c.place c.new → ys ++ x ∷ [] ≡ set (xs ++ x ∷ []) c.place c.new
cell_set xs ys x c lt is = ap (λ t. t ++ x ∷ []) is ∙ go xs c.place lt
  where
    go : (xs : List ℤ) (p : ℕ) → p < length xs → set xs p c.new ++ x ∷ [] ≡ set (xs ++ x ∷ []) p c.new
    go [] p lt = absurd (omega arith)
    go (y ∷ xs) zero lt = refl
    go (y ∷ xs) (suc p) lt = ap (λ t. y ∷ t) (go xs p (omega arith))

pub counted_set : (xs : List ℤ) (x : ℤ) (c : NumberChange) (n : ℕ) → n ≡ length xs → n ≤ c.place → IsNumberChange (xs ++ x ∷ []) c → xs ++ c.new ∷ [] ≡ set (xs ++ x ∷ []) c.place c.new
counted_set xs x c n is le change =
    let within = number_within (xs ++ x ∷ []) c change in
    let here : c.place ≡ length xs = omega (arith, is, le, within, length-append xs (x ∷ [])) in
    go xs ∙ ap (λ p. set (xs ++ x ∷ []) p c.new) (sym here)
  where
    go : (xs : List ℤ) → xs ++ c.new ∷ [] ≡ set (xs ++ x ∷ []) (length xs) c.new
    go [] = refl
    go (y ∷ xs) = ap (λ t. y ∷ t) (go xs)

-- with no change
pub counted_now : (xs : List ℤ) (x : ℤ) (times : ℕ) → times ≡ count_of x xs → count.value (xs ++ x ∷ []) ≡ Ok (pos times)
counted_now xs x times is = counted_after xs x [] (length xs) x times refl refl (is ∙ sym (first_cells x (length xs) xs x refl))

pub few_cells : (v : ℤ) (xs : List ℤ) → length xs < 2 ^ 63 → count_of v xs < 2 ^ 63
few_cells v xs short = omega (arith, short, count_of-le-length v xs)
