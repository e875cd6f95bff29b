-- The changes of all ids of a store, cut to the variables, are those between the variables' values.
use Rattle.std.proofs.Common.{◌≡◌, ℕ, ℤ, zero, suc, ◌+◌, ◌-◌, ◌<◌, ◌≤◌, Bool, true, false, cond, not, List, [], ◌∷◌, Option, Some, None, length, nat_lt, refl, sym, ap, ◌∙◌, arith, slice_get, true≢false}
use Rattle.std.proofs.lemmas.Bool.Decides.{Decides-int_eq}
use Rattle.std.specs.Prelude.{filter_map, if◌then◌else◌}
use Rattle.std.specs.List.{cons_option, range_with_len}
use Rattle.std.specs.Ordering.{int_eq}
use Rattle.cbl_base.specs.declared.ids.VarId.{VarId}
use Rattle.cbl_base.specs.declared.input.Input.{Input}
use Rattle.cbl_base.specs.declared.input.Input.TheVariants.{Int, Set}
use Rattle.inc_store.specs.Course.{changed_at}
use Rattle.inc_store.specs.Stores.{changes_between}
use Rattle.inc_store.specs.declared.changed.NodeChange.{NodeChange}
use Rattle.ls_events.specs.declared.change.VarChange.{VarChange}
use Rattle.solver_models.specs.Changes.{change_between}
use Rattle.solver_models.specs.KeptChanges.{change_in}
use Rattle.solver_models.proofs.ListLaws.{filter_range}
use Rattle.store_turns.specs.Touch.{differs}
use Rattle.store_turns.specs.declared.outcome.Outcome.TheVariants.{Value}
use Rattle.solver_store.specs.ToldChanges.{variable_changes}

lt_true : (m n : ℕ) → m < n → nat_lt m n ≡ true
lt_true m n lt = grind (arith, lt)

lt_false : (m n : ℕ) → n ≤ m → nat_lt m n ≡ false
lt_false m n le = by (nat_lt m n) refl
  where
    by : (b : Bool) → nat_lt m n ≡ b → nat_lt m n ≡ false
    by true e = let lt : m < n = grind (arith, e) in absurd (omega (arith, le, lt))
    by false e = e

-- what isn't another makes no change
no_change : (x : VarId) (old new : Input) → differs (Value new) old ≡ false → change_between x (Some old) (Some new) ≡ None
no_change x (Int a) (Int b) e = by (int_eq a b) refl
  where
    equal : (t : Bool) → not t ≡ false → t ≡ true
    equal true h = refl
    equal false h = let c : true ≡ false = h in cc

    apart : (a b : ℤ) → int_eq a b ≡ false → not (int_eq b a) ≡ false → ⊥
    apart a b is e = true≢false (sym ((Decides-int_eq a b).1 (sym ((Decides-int_eq b a).0 (equal (int_eq b a) e)))) ∙ is)

    changed : Bool → Option VarChange
    changed t = if t then None else Some (record { var = x; old = a; new = b })

    by : (t : Bool) → int_eq a b ≡ t → change_between x (Some (Int a)) (Some (Int b)) ≡ None
    by true is = ap changed is
    by false is = absurd (apart a b is e)
no_change x (Int a) (Set s) e = refl
no_change x (Set s) new e = refl

module _ (solver count : ℕ) where
  abbrev cut : List NodeChange → List VarChange
  cut = variable_changes solver count

  -- the first one
  here : (id : ℕ) (x y : Input) (rest : List NodeChange) → id < count
      → cut (cond (differs (Value y) x) (changed_at id x y ∷ rest) rest) ≡ cons_option (change_between (record { solver = solver; index = id }) (Some x) (Some y)) (cut rest)
  here id x y rest lt = by (differs (Value y) x) refl
    where
      by : (b : Bool) → differs (Value y) x ≡ b → cut (cond (differs (Value y) x) (changed_at id x y ∷ rest) rest) ≡ cons_option (change_between (record { solver = solver; index = id }) (Some x) (Some y)) (cut rest)
      by true e =
          ap (λ t. cut (cond t (changed_at id x y ∷ rest) rest)) e
          ∙ ap (λ t. cons_option (if t then change_between (record { solver = solver; index = id }) (Some x) (Some y) else None) (cut rest)) (lt_true id count lt)
      by false e =
          ap (λ t. cut (cond t (changed_at id x y ∷ rest) rest)) e
          ∙ ap (λ o. cons_option o (cut rest)) (sym (no_change (record { solver = solver; index = id }) x y e))

  -- none is behind the variables
  past : (id : ℕ) (olds news : List Input) → count ≤ id → cut (changes_between id olds news) ≡ []
  past id [] news le = refl
  past id (x ∷ xs) [] le = refl
  past id (x ∷ xs) (y ∷ ys) le = by (differs (Value y) x) refl (past (suc id) xs ys (omega (arith, le)))
    where
      by : (b : Bool) → differs (Value y) x ≡ b → cut (changes_between (suc id) xs ys) ≡ [] → cut (changes_between id (x ∷ xs) (y ∷ ys)) ≡ []
      by true e later =
          ap (λ t. cut (cond t (changed_at id x y ∷ changes_between (suc id) xs ys) (changes_between (suc id) xs ys))) e
          ∙ ap (λ t. cons_option (if t then change_between (record { solver = solver; index = id }) (Some x) (Some y) else None) (cut (changes_between (suc id) xs ys))) (lt_false id count le)
          ∙ later
      by false e later = ap (λ t. cut (cond t (changed_at id x y ∷ changes_between (suc id) xs ys) (changes_between (suc id) xs ys))) e ∙ later

  -- between lists that begin at an id
  abbrev at : ℕ → List Input → List Input → ℕ → Option VarChange
  at id olds news i = change_between (record { solver = solver; index = i }) (slice_get olds (i - id)) (slice_get news (i - id))

  at_next : (id i : ℕ) (x : Input) (xs : List Input) → id + 1 ≤ i → slice_get (x ∷ xs) (i - id) ≡ slice_get xs (i - (id + 1))
  at_next id i x xs le = ap (slice_get (x ∷ xs)) (let e : i - id ≡ suc (i - (id + 1)) = omega (arith, le) in e)

  from : (k id : ℕ) (olds news : List Input) → k ≤ length olds → length news ≡ length olds → id + k ≡ count
      → cut (changes_between id olds news) ≡ filter_map (at id olds news) (range_with_len id k)
  from zero id olds news few same e = past id olds news (omega (arith, e))
  from (suc k) id [] news few same e = absurd (omega (arith, few))
  from (suc k) id (x ∷ xs) [] few same e = absurd (omega (arith, same))
  from (suc k) id (x ∷ xs) (y ∷ ys) few same e =
      here id x y (changes_between (suc id) xs ys) (omega (arith, e))
      ∙ ap (cons_option (change_between (record { solver = solver; index = id }) (Some x) (Some y))) (
      ap (λ j. cut (changes_between j xs ys)) (let on : suc id ≡ id + 1 = omega arith in on)
      ∙ from k (id + 1) xs ys (omega (arith, few)) (omega (arith, same)) (omega (arith, e))
      ∙ filter_range (at (id + 1) xs ys) (at id (x ∷ xs) (y ∷ ys)) (id + 1) k (λ i le lt.
      ap (λ o. change_between (record { solver = solver; index = i }) o (slice_get ys (i - (id + 1)))) (sym (at_next id i x xs le))
      ∙ ap (change_between (record { solver = solver; index = i }) (slice_get (x ∷ xs) (i - id))) (sym (at_next id i y ys le)))
      )
      ∙ ap (λ o. cons_option o (filter_map (at id (x ∷ xs) (y ∷ ys)) (range_with_len (id + 1) k))) first
    where
      first : change_between (record { solver = solver; index = id }) (Some x) (Some y) ≡ at id (x ∷ xs) (y ∷ ys) id
      first = ap (λ j. change_between (record { solver = solver; index = id }) (slice_get (x ∷ xs) j) (slice_get (y ∷ ys) j)) (let z : 0 ≡ id - id = omega arith in z)

  pub changes_cut : (olds news : List Input) → count ≤ length olds → length news ≡ length olds
      → cut (changes_between 0 olds news) ≡ filter_map (change_in solver olds news) (range_with_len 0 count)
  changes_cut olds news few same =
      from count 0 olds news few same (omega arith)
      ∙ filter_range (at 0 olds news) (change_in solver olds news) 0 count (λ i le lt. ap (λ j. change_between (record { solver = solver; index = i }) (slice_get olds j) (slice_get news j)) (let z : i - 0 ≡ i = omega arith in z))
