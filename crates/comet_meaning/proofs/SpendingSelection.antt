-- A selector's scan only spends fuel where its generators, its condition and its key are pure.
use Rattle.std.proofs.Common.{◌≡◌, refl, ap, ◌∙◌, ℕ, suc, true, Bool, List, [], ◌∷◌}
use Rattle.std.specs.List.{list_all}
use Rattle.cbl_base.specs.declared.place.Place.{Place}
use Rattle.checked_tree.specs.declared.expressions.Slot.{Slot}
use Rattle.checked_tree.specs.Shape as shapes
use Rattle.checked_tree.specs.Shape.{Shape}
use Rattle.checked_tree.specs.Tasks.{Coded}
use Rattle.comet_meaning.specs.State.{State}
use Rattle.comet_meaning.specs.Outcome.{Went, always}
use Rattle.comet_meaning.specs.Values.{number_of}
use Rattle.comet_meaning.specs.Cells.{held}
use Rattle.comet_meaning.specs.Levels.{Level}
use Rattle.comet_meaning.specs.Purity.{is_pure, is_local, pure_functions}
use Rattle.comet_meaning.specs.Candidates.{Candidate, named, in_front, last_of, values_in, values_now, with_candidate, last_form, candidates_form}
use Rattle.comet_meaning.specs.Selection.{Rated, key_form, rated_form, scanned, scan_form}
use Rattle.comet_meaning.specs.Program.{level, code_of}
use Rattle.comet_meaning.specs.Spending.{Outside, with_outside, OnlySpends, OnlyBinds}
use Rattle.comet_meaning.proofs.Spending.{binds, spends_then, binds_then, spends_give, spends_if, spends_unless, binds_each_in, spends_in_scope}
use Rattle.comet_meaning.proofs.SpendingForms.{and_left, and_right, LevelSpends, AllPure, spends_value, spends_number, spends_condition, AllLocal, binds_generated, binds_each_tuple}
use Rattle.comet_meaning.proofs.SpendingPrograms.{knows_pure, spends_level}

-- candidates

held_inside : (slot : Slot) (o : Outside) (s : State) → held (with_outside o s) slot ≡ held s slot
held_inside (Slot.Global i) o s = refl
held_inside (Slot.Local i) o s = refl

values_inside : (gs : List Shape) (o : Outside) (s : State) → values_in (with_outside o s) gs ≡ values_in s gs
values_inside (shapes.generator place slot domain ∷ gs) o s =
    ap (λ v. number_of v ∷ values_in (with_outside o s) gs) (held_inside slot o s) ∙ ap (λ vs. number_of (held s slot) ∷ vs) (values_inside gs o s)
values_inside gs o s = refl

spends_values_now : (gs : List Shape) → OnlySpends (values_now gs)
unfolding values_now
spends_values_now gs = record { from = λ s. refl; inside = λ o s. ap (λ vs. Went vs (with_outside o s)) (values_inside gs o s) }

spends_with_candidate : (at : Place) (c : Candidate) (cs : List Candidate) → OnlySpends (with_candidate at c cs)
spends_with_candidate at c cs = spends_then (spends_unless _ at _) (λ _. spends_give)

binds_last : (k : List Bool) (l : Level) → LevelSpends k l → (at : Place) (front : List Shape) (g : Shape) (cs : List Candidate) → is_pure k g ≡ true → OnlyBinds (last_form l at front g cs)
unfolding last_form
binds_last k l h at front (shapes.generator place slot domain) cs p =
    binds_then (binds (spends_value k l h domain (and_right (is_local slot) (is_pure k domain) p))) (λ d.
    binds_then (binds (spends_values_now front)) (λ known. binds_each_in always _ d cs (λ v ds. binds (spends_with_candidate at _ ds))))
binds_last k l h at front g cs p = binds spends_give

front_pure : (k : List Bool) (gs : List Shape) → AllPure k gs → AllPure k (in_front gs)
front_pure k [] p = tt
front_pure k (g ∷ []) p = tt
front_pure k (g ∷ i ∷ gs) p = (p.0, front_pure k (i ∷ gs) p.1)

last_pure : (k : List Bool) (g : Shape) (gs : List Shape) → AllPure k (g ∷ gs) → is_pure k (last_of g gs) ≡ true
last_pure k g [] p = p.0
last_pure k g (i ∷ gs) p = last_pure k i gs p.1

binds_candidates : (k : List Bool) (l : Level) → LevelSpends k l → (at : Place) (gs : List Shape) → AllPure k gs → OnlyBinds (candidates_form l at gs)
unfolding candidates_form
binds_candidates k l h at [] p = binds spends_give
binds_candidates k l h at (g ∷ []) p = binds_last k l h at [] g [] p.0
binds_candidates k l h at (g ∷ i ∷ gs) p =
    binds_each_tuple k l h _ always _ [] (in_front (g ∷ i ∷ gs)) [] tt (front_pure k (g ∷ i ∷ gs) p) (λ v cs. binds_last k l h at (in_front (g ∷ i ∷ gs)) (last_of i gs) cs (last_pure k i gs p.1))

-- the scan

named_local : (k : List Bool) (gs : List Shape) (t : Candidate) → AllPure k gs → AllLocal (named gs t)
named_local k (shapes.generator place slot domain ∷ gs) (v ∷ vs) p = (and_left (is_local slot) (is_pure k domain) p.0, named_local k gs vs p.1)
named_local k gs t p = tt

spends_key : (k : List Bool) (l : Level) → LevelSpends k l → (e : Shape) → is_pure k e ≡ true → OnlySpends (key_form l e)
unfolding key_form
spends_key k l h shapes.left_out p = spends_give
spends_key k l h e p = spends_number k l h e p

spends_rated : (k : List Bool) (l : Level) → LevelSpends k l → (c key : Shape) (n : ℕ) (xs : List Rated) → is_pure k c ≡ true → is_pure k key ≡ true → OnlySpends (rated_form l c key n xs)
unfolding rated_form
spends_rated k l h c key n xs p q =
    spends_then (spends_condition k l h c p) (λ t. spends_if t (spends_then (spends_key k l h key q) (λ z. spends_give)) spends_give)

binds_scanned : (k : List Bool) (l : Level) → LevelSpends k l → (at : Place) (gs : List Shape) (c key : Shape) (n : ℕ) (ts : List Candidate) (xs : List Rated) → AllPure k gs → is_pure k c ≡ true → is_pure k key ≡ true → OnlyBinds (scanned l at gs c key n ts xs)
unfolding scanned
binds_scanned k l h at gs c key n [] xs p q r = binds spends_give
binds_scanned k l h at gs c key n (t ∷ ts) xs p q r =
    binds_then (binds_generated at (named gs t) (named_local k gs t p) (binds (spends_rated k l h c key n xs q r))) (λ ys. binds_scanned k l h at gs c key (suc n) ts ys p q r)

pub spends_scan : (k : List Bool) (l : Level) → LevelSpends k l → (at : Place) (gs : List Shape) (c key : Shape) → AllPure k gs → is_pure k c ≡ true → is_pure k key ≡ true → OnlySpends (scan_form l at gs c key)
unfolding scan_form
spends_scan k l h at gs c key p q r =
    spends_in_scope (binds_then (binds_candidates k l h at gs p) (λ ts. binds_then (binds_scanned k l h at gs c key 0 ts [] p q r) (λ xs. binds spends_give)))

-- in a program

pub all_pure : (k : List Bool) (gs : List Shape) → list_all (is_pure k) gs ≡ true → AllPure k gs
all_pure k [] p = tt
all_pure k (g ∷ gs) p = (and_left (is_pure k g) (list_all (is_pure k) gs) p, all_pure k gs (and_right (is_pure k g) (list_all (is_pure k) gs) p))

pub pure_scans : (fs : List Coded) (d : ℕ) (at : Place) (gs : List Shape) (c key : Shape) → AllPure (pure_functions fs) gs → is_pure (pure_functions fs) c ≡ true → is_pure (pure_functions fs) key ≡ true → OnlySpends (scan_form (level (code_of fs) d) at gs c key)
pure_scans fs d at gs c key p q r = spends_scan _ (level (code_of fs) d) (spends_level (code_of fs) (knows_pure fs) d) at gs c key p q r
