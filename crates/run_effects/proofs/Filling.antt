-- The cells of an array get their numbers along each dimension, from its low end to its upper one.
use Rattle.std.proofs.Common.{◌≡◌, refl, sym, subst, ap, ◌∙◌, ℕ, zero, suc, ◌+◌, ◌*◌, ◌-◌, ◌<◌, ◌≤◌, ℤ, pos, negsuc, ◌+ℤ◌, ◌-ℤ◌, ◌≤ℤ◌, ◌<ℤ◌, ◌^◌, Bool, true, false, List, [], ◌∷◌, ◌++◌, map, length, take, drop, get_or, Option, Some, None, if◌then◌else◌, nat_le, rules, arith, FitsSigned, w64}
use Rattle.std.proofs.lemmas.Int.{ints}
use Rattle.std.specs.Prelude.{int_lt, nat_abs, slice_get, option_map}
use Rattle.std.proofs.lemmas.List.{at_drop_more, at_drop_all, take_rest}
use Rattle.std.proofs.lemmas.Nat.{mul-le}
use Rattle.std.proofs.lemmas.Bool.{ne_eqb}
use Rattle.cbl_base.specs.declared.ids.VarId.{VarId}
use Rattle.checked_tree.specs.declared.expressions.Slot.{Slot}
use Rattle.comet_meaning.specs.Values.{size_of}
use Rattle.comet_meaning.specs.Limits.{most_cells}
use Rattle.comet_meaning.specs.State.{State}
use Rattle.comet_meaning.specs.Outcome.{Outcome, Went, Act, then_do, give, each_from, each_in, always}
use Rattle.comet_meaning.specs.Cells.{row_of}
use Rattle.comet_meaning.specs.Declarations.{Dimension, array_of, cell_count, each_cell, every_cell}
use Rattle.comet_meaning.specs.Variables.{variables_with}
use Rattle.comet_meaning.specs.Onward.{GoesOn}
use Rattle.comet_meaning.proofs.GoingOn.{goes_each_from, goes_then}
use Rattle.comet_meaning.proofs.GoingDeclarations.{goes_each_cell, goes_put_named}
use Rattle.run_values.specs.Views.{bounds_seen}
use Rattle.run_values.specs.declared.stop.Stop.{Stop}
use Rattle.run_steps.specs.Does.{Ends}
use Rattle.run_effects.specs.Extents.{along, at_index, capped, extent_seen}
use Rattle.run_effects.specs.declared.cells.Extent.{Extent}
use Rattle.run_steps.proofs.Stops.{ended_then}

-- counts

product_above : (most a b : ℕ) → most < a → capped most (suc most * b) ≡ capped most (a * b)
product_above most a zero h = let e : suc most * 0 ≡ a * 0 = omega arith in ap (capped most) e
product_above most a (suc b) h = above (suc most * suc b) (grind arith) ∙ sym (above (a * suc b) (grind arith)) where
  above : (n : ℕ) → most < n → capped most n ≡ suc most
  above n k = grind (arith, rules)

pub capped_times : (most a b : ℕ) → capped most (capped most a * b) ≡ capped most (a * b)
capped_times most a b = go (nat_le a most) refl where
  go : (t : Bool) → nat_le a most ≡ t → capped most ((if t then a else suc most) * b) ≡ capped most (a * b)
  go true e = refl
  go false e = product_above most a b (search rules)

capped_small : (most n : ℕ) → capped most n ≤ most → (nat_le n most ≡ true) × (capped most n ≡ n)
capped_small most n h = go (nat_le n most) refl where
  go : (t : Bool) → nat_le n most ≡ t → (nat_le n most ≡ true) × (capped most n ≡ n)
  go true e = (e, rw e refl)
  go false e = (let c : capped most n ≡ suc most = rw e refl in absurd (omega arith))

-- what was counted is all
pub counted_all : (most c n : ℕ) → capped most c ≡ capped most n → c ≤ most → (nat_le n most ≡ true) × (c ≡ n)
counted_all most c n e h =
    let own : capped most c ≡ c = grind (arith, rules) in
    let p = capped_small most n (let le : capped most c ≤ most = omega arith in subst (λ k. k ≤ most) e le) in
    (p.0, sym own ∙ (e ∙ p.1))

pub counted_more : (most c n : ℕ) → capped most c ≡ capped most n → c ≤ suc most → most < c → nat_le n most ≡ false
counted_more most c n e h k = go (nat_le n most) refl where
  go : (t : Bool) → nat_le n most ≡ t → t ≡ false
  go true p =
      let own : capped most n ≡ n = rw p refl in
      let le : n ≤ most = search rules in
      let above : capped most c ≡ suc most = grind (arith, rules) in
      absurd (omega arith)
  go false p = refl

-- what is counted so far, with what is left, is all
pub record CountLeft (xs : List Extent) (i c : ℕ) : Type 0 where
  pub same : capped most_cells (c * cell_count (map extent_seen (drop i xs))) ≡ capped most_cells (cell_count (map extent_seen xs))
  pub small : c ≤ suc most_cells

pub count_starts : (xs : List Extent) → CountLeft xs 0 1
count_starts xs = record { same = ap (capped most_cells) (one_times (cell_count (map extent_seen xs))); small = omega arith } where
  one_times : (n : ℕ) → 1 * n ≡ n
  one_times n = omega arith

capped_bound : (most n : ℕ) → capped most n ≤ suc most
capped_bound most n = go (nat_le n most) refl where
  go : (t : Bool) → nat_le n most ≡ t → (if t then n else suc most) ≤ suc most
  go true e = let le : n ≤ most = search rules in omega arith
  go false e = omega arith

times_times : (a b c : ℕ) → a * b * c ≡ a * (b * c)
times_times a b c = grind arith

pub count_step : (xs : List Extent) (i c : ℕ) (d : Extent) → CountLeft xs i c → i < length xs → CountLeft xs (i + 1) (capped most_cells (c * size_of (bounds_seen (get_or xs i d).bounds)))
count_step xs i c d m h =
    let size = size_of (bounds_seen (get_or xs i d).bounds) in
    let rest = cell_count (map extent_seen (drop (i + 1) xs)) in
    record {
      same =
          capped_times most_cells (c * size) rest
          ∙ ap (capped most_cells) (times_times c size rest)
          ∙ ap (λ n. capped most_cells (c * n)) (sym (at_drop_more (λ ys. cell_count (map extent_seen ys)) xs i d h))
          ∙ m.same;
      small = capped_bound most_cells (c * size);
    }

count_whole : (xs : List Extent) (i c : ℕ) → CountLeft xs i c → length xs ≤ i → capped most_cells c ≡ capped most_cells (cell_count (map extent_seen xs))
count_whole xs i c m h = sym (ap (λ n. capped most_cells n) (ap (λ n. c * n) (at_drop_all (λ ys. cell_count (map extent_seen ys)) xs i h) ∙ times_one c)) ∙ m.same where
  times_one : (n : ℕ) → n * 1 ≡ n
  times_one n = omega arith

pub count_over : (xs : List Extent) (i c : ℕ) → CountLeft xs i c → length xs ≤ i → most_cells < c → nat_le (cell_count (map extent_seen xs)) most_cells ≡ false
count_over xs i c m h lt = counted_more most_cells c _ (count_whole xs i c m h) m.small lt

pub product_fits : (c z : ℕ) → c ≤ suc most_cells → z ≤ 2 ^ 64 → c * z < 2 ^ 128
product_fits c z h k = let le = mul-le c z (suc most_cells) (2 ^ 64) h k in omega arith

-- dimensions as the code has them

pub seen_push : (xs : List Extent) (x : Extent) → map extent_seen (xs ++ x ∷ []) ≡ map extent_seen xs ++ extent_seen x ∷ []
seen_push [] x = refl
seen_push (y ∷ ys) x = ap (λ zs. extent_seen y ∷ zs) (seen_push ys x)

module _ {A : Type 0} (visit : List ℤ → A → Act A) (is : List ℤ) (x : A) where
  pub cells_of_none : (xs : List Extent) → None ≡ slice_get xs 0 → each_cell visit (map extent_seen xs) is x ≡ visit is x
  cells_of_none [] e = refl
  cells_of_none (y ∷ ys) e = absurd cc

  pub cells_of_some : (xs : List Extent) (d : Extent) → Some d ≡ slice_get xs 0 → each_cell visit (map extent_seen xs) is x ≡ along visit (extent_seen d) (map extent_seen (take (length xs - 1) (drop 1 xs))) is x
  cells_of_some [] d e = absurd cc
  cells_of_some (y ∷ ys) d e = rw take_rest (ap (λ z. along visit (extent_seen z) (map extent_seen ys) is x) (same y d e)) where
    same : (y d : Extent) → Some d ≡ Some y → y ≡ d
    same y d e = cc

-- all cells, where there is one
module _ {A : Type 0} (visit : List ℤ → List A → Act (List A)) (ds : List Dimension) (s : State) where
  pub all_cells : (cell_count ds ≡ 0 → ⊥) → every_cell visit ds s ≡ each_cell visit ds [] [] s
  unfolding every_cell
  all_cells h = ap (λ (b : Bool). (if b then give [] else each_cell visit ds [] []) s) (ne_eqb (cell_count ds) 0 h)

-- along a dimension

size_some : (z up : ℤ) → z ≤ℤ up → size_of (record { low = z; up = up }) ≡ suc (nat_abs (up -ℤ z))
size_some z up h = let no : int_lt up z ≡ false = grind (arith, ints) in rw no refl

abs_more : (d : ℤ) → pos 0 <ℤ d → nat_abs d ≡ suc (nat_abs (d -ℤ pos 1))
abs_more (pos zero) h = absurd (omega (arith, ints))
abs_more (pos (suc n)) h = let e : pos n ≡ pos (suc n) -ℤ pos 1 = omega (arith, ints) in ap (λ d. suc (nat_abs d)) e
abs_more (negsuc n) h = absurd (omega (arith, ints))

-- how far it is to the upper end
far_more : (z up : ℤ) → z <ℤ up → nat_abs (up -ℤ z) ≡ suc (nat_abs (up -ℤ (z +ℤ pos 1)))
far_more z up h =
    let e : (up -ℤ z) -ℤ pos 1 ≡ up -ℤ (z +ℤ pos 1) = omega (arith, ints) in
    abs_more (up -ℤ z) (omega (arith, ints)) ∙ ap (λ d. suc (nat_abs d)) e

pub far_falls : (z up : ℤ) → z <ℤ up → nat_abs (up -ℤ (z +ℤ pos 1)) < nat_abs (up -ℤ z)
far_falls z up h = let e = far_more z up h in omega arith

size_more : (z up : ℤ) → z <ℤ up → size_of (record { low = z; up = up }) ≡ suc (size_of (record { low = z +ℤ pos 1; up = up }))
size_more z up h = size_some z up (omega (arith, ints)) ∙ ap suc (far_more z up h ∙ sym (size_some (z +ℤ pos 1) up (omega (arith, ints))))

size_last : (z : ℤ) → size_of (record { low = z; up = z }) ≡ 1
size_last z = let e : z -ℤ z ≡ pos 0 = omega (arith, ints) in size_some z z (omega (arith, ints)) ∙ ap (λ d. suc (nat_abs d)) e

size_none : (z up : ℤ) → int_lt up z ≡ true → size_of (record { low = z; up = up }) ≡ 0
size_none z up h = rw h refl

-- what is left along a dimension, from an index, is the whole
pub record AlongLeft {A : Type 0} (visit : List ℤ → A → Act A) (slot : Option Slot) (later : List Dimension) (is : List ℤ) (z up : ℤ) (x : A) (s : State) (w : Outcome A) : Type 0 where
  pub left : along visit (record { slot = slot; bounds = record { low = z; up = up } }) later is x s ≡ w
  pub within : z ≤ℤ up

pub along_none : {A : Type 0} (visit : List ℤ → A → Act A) (slot : Option Slot) (later : List Dimension) (is : List ℤ) (z up : ℤ) (x : A) (s : State) → int_lt up z ≡ true → along visit (record { slot = slot; bounds = record { low = z; up = up } }) later is x s ≡ Went x s
unfolding each_in
along_none visit slot later is z up x s h = ap (λ n. each_from always (λ z y. at_index visit slot later is z y) z n x s) (size_none z up h)

module _ {A : Type 0} {visit : List ℤ → A → Act A} {slot : Option Slot} {later : List Dimension} {is : List ℤ} {z up : ℤ} {x : A} {s : State} {w : Outcome A} (m : AlongLeft visit slot later is z up x s w) where
  along_more : z <ℤ up → then_do (at_index visit slot later is z x s) (along visit (record { slot = slot; bounds = record { low = z +ℤ pos 1; up = up } }) later is) ≡ w
  unfolding each_in
  along_more h = sym (ap (λ n. each_from always (λ z y. at_index visit slot later is z y) z n x s) (size_more z up h)) ∙ m.left

  along_all : z ≡ up → then_do (at_index visit slot later is z x s) give ≡ w
  unfolding each_in
  along_all h = sym (ap (λ n. each_from always (λ z y. at_index visit slot later is z y) z n x s) (ap (λ u. size_of (record { low = z; up = u })) (sym h) ∙ size_last z)) ∙ m.left

  pub along_step : z <ℤ up → {y : A} {t : State} → at_index visit slot later is z x s ≡ Went y t → AlongLeft visit slot later is (z +ℤ pos 1) up y t w
  along_step h e = record {
    left = sym (ap (λ o. then_do o (along visit (record { slot = slot; bounds = record { low = z +ℤ pos 1; up = up } }) later is)) e) ∙ along_more h;
    within = omega (arith, ints);
  }

  pub along_end : z ≡ up → {y : A} {t : State} → at_index visit slot later is z x s ≡ Went y t → w ≡ Went y t
  along_end h e = sym (along_all h) ∙ ap (λ o. then_do o give) e

  pub along_stop : ((js : List ℤ) (y : A) → GoesOn (visit js y)) → (stop : Stop) (t : State) → Ends stop t (at_index visit slot later is z x s) → Ends stop t w
  unfolding each_in
  along_stop k stop t e = subst (Ends stop t) (sym (ap (λ n. each_from always f z n x s) (size_some z up m.within)) ∙ m.left) (ended_then stop t (f z x s) (each_from always f (z +ℤ pos 1) (nat_abs (up -ℤ z))) (λ y. goes_each_from always f (z +ℤ pos 1) (nat_abs (up -ℤ z)) y goes) e) where
    f : ℤ → A → Act A
    f z y = at_index visit slot later is z y

    goes : (v : ℤ) (y : A) → GoesOn (f v y)
    goes v y = goes_then (goes_put_named slot v) (λ _. goes_each_cell visit later (is ++ v ∷ []) y k)

-- the array

pub array_of_none : (xs : List Extent) (numbers : List ℤ) → None ≡ slice_get xs 0 → array_of (map extent_seen xs) numbers ≡ row_of numbers
array_of_none [] numbers e = refl
array_of_none (x ∷ xs) numbers e = absurd cc

pub array_of_some : (xs : List Extent) (x : Extent) (numbers : List ℤ) → Some x ≡ slice_get xs 0 → array_of (map extent_seen xs) numbers ≡ record { rows = bounds_seen x.bounds; columns = option_map (λ (e : Extent). bounds_seen e.bounds) (slice_get xs 1); numbers = numbers }
array_of_some [] x numbers e = absurd cc
array_of_some (y ∷ []) x numbers e = let same : y ≡ x = cc in rw same refl
array_of_some (y ∷ z ∷ zs) x numbers e = let same : y ≡ x = cc in rw same refl

-- the same of variables

pub variables_of_none : (xs : List Extent) (variables : List VarId) → None ≡ slice_get xs 0 → variables_with (map extent_seen xs) variables ≡ record { rows = record { low = pos 0; up = pos 0 }; columns = None; variables = variables }
variables_of_none [] variables e = refl
variables_of_none (x ∷ xs) variables e = absurd cc

pub variables_of_some : (xs : List Extent) (x : Extent) (variables : List VarId) → Some x ≡ slice_get xs 0 → variables_with (map extent_seen xs) variables ≡ record { rows = bounds_seen x.bounds; columns = option_map (λ (e : Extent). bounds_seen e.bounds) (slice_get xs 1); variables = variables }
variables_of_some [] x variables e = absurd cc
variables_of_some (y ∷ []) x variables e = let same : y ≡ x = cc in rw same refl
variables_of_some (y ∷ z ∷ zs) x variables e = let same : y ≡ x = cc in rw same refl

-- tests of the code

pub below : (a b : ℤ) → int_lt a b ≡ true → a <ℤ b
below a b h = grind (arith, ints)

pub reached : (a b : ℤ) → int_lt a b ≡ false → a ≤ℤ b → a ≡ b
reached a b h k = let le : b ≤ℤ a = grind (arith, ints) in omega (arith, ints)

pub fits_next : (a b : ℤ) → a <ℤ b → FitsSigned w64 a → FitsSigned w64 b → FitsSigned w64 (a +ℤ pos 1)
fits_next a b h f g = search (rules, arith, ints)
