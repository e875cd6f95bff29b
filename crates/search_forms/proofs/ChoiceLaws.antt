-- A candidate that is rated, the scan of all, the choice, and the body with the chosen one's names.
use Rattle.std.proofs.Common.{◌≡◌, refl, sym, ap, ◌∙◌, subst, ℕ, ℤ, Bool, true, false, List, [], ◌∷◌, ◌++◌, Option, Some, None, Result, Ok, Err, map, length, get_or, min, ◌<◌, ◌≤◌, arith}
use Rattle.std.proofs.Common.{of_z, to_z, w64}
use Rattle.std.proofs.lemmas.Int.{to_z-of_z}
use Rattle.std.specs.Prelude.{if◌then◌else◌, zip, FitsSigned, IsErrAnd}
use Rattle.std.proofs.lemmas.Slice.Zip.{get_or-zip, length-zip}
use Rattle.cbl_base.specs.declared.place.Place.{Place}
use Rattle.checked_tree.specs.declared.expressions.Generator.{Generator}
use Rattle.checked_tree.specs.declared.expressions.Slot.{Slot}
use Rattle.checked_tree.specs.Shape.{Shape, shape_of_generator}
use Rattle.checked_tree.specs.Tasks.{Work}
use Rattle.comet_syntax.specs.declared.tree.expressions.Extreme.{Extreme}
use Rattle.comet_meaning.specs.Candidates.{Candidate, candidates_form, named}
use Rattle.comet_meaning.specs.Cells.{back_in, in_scope, put}
use Rattle.comet_meaning.specs.Generators.{Bound, bind, generated}
use Rattle.comet_meaning.specs.Levels.{Flow, Level}
use Rattle.comet_meaning.specs.Outcome.{Act, Outcome, Went, charge, give, then_do, ◌>>=◌}
use Rattle.comet_meaning.specs.Parts.{condition}
use Rattle.comet_meaning.specs.Selection.{Rated, Scan, candidate_at, choice_form, chosen_of, key_form, rated_form, scan_form, scanned, ties_of, with_chosen}
use Rattle.comet_meaning.specs.State.{State, left}
use Rattle.comet_meaning.specs.Values as values
use Rattle.comet_meaning.specs.Onward.{GoesOn, IsOnward, left_by}
use Rattle.comet_meaning.proofs.Endings.{Passes, halted_then, went_then}
use Rattle.comet_meaning.proofs.GoingOn.{goes_back_in, goes_charge, goes_give, goes_if, goes_then}
use Rattle.comet_meaning.proofs.GoingParts.{LevelGoesOn, goes_bind}
use Rattle.comet_meaning.proofs.GoingSearch.{goes_chosen, goes_key, goes_scanned}
use Rattle.comet_meaning.proofs.Rows.{NamesLeft}
use Rattle.run_steps.specs.Does.{Ends}
use Rattle.run_steps.proofs.Forms.{generator_is}
use Rattle.run_steps.proofs.Stops.{ended_then, stopped_then}
use Rattle.run_values.specs.Did.{Did, Stopped}
use Rattle.run_values.specs.declared.stop.Stop.{Stop}
use Rattle.run_values.specs.declared.stop.Stop.TheVariants.{Cyclic, Fault, NoMemory, Output, Spent}
use Rattle.ls_select.specs.declared.part.Part.{Part}
use Rattle.search_forms.specs.Scans.{ScansAs, ScansTo}
use Rattle.search_forms.specs.Tables.{AreRows}
use Rattle.search_forms.specs.declared.candidates.Candidates.{Candidates}
use Rattle.search_forms.specs.declared.scanning.Scanned.{Scanned}

-- ---- the exit of a `?`

pub part_exit : (x : Option Extreme) (r : Result Part Stop) (s : State) (o : Outcome (List Rated)) (stop : Stop) → IsErrAnd r (λ y. y ≡ stop) → Ends stop s o → ScansTo x r s o
part_exit x (Ok part) s o stop h e = absurd h
part_exit x (Err y) s o stop h e = subst (λ z. Ends z s o) (sym h) e

-- where there was no memory, what was printed is a front of what the whole prints
pub part_unkept : (x : Option Extreme) (r : Result Part Stop) (s : State) (o : Outcome (List Rated)) → IsErrAnd r (λ y. y ≡ NoMemory) → IsOnward (left s) (left_by o) → ScansTo x r s o
part_unkept x r s o h on = part_exit x r s o NoMemory h on.printed

pub scan_exit : (x : Option Extreme) (r : Result Scanned Stop) (s : State) (o : Outcome Scan) (stop : Stop) → IsErrAnd r (λ y. y ≡ stop) → Ends stop s o → ScansAs x r s o
scan_exit x (Ok scan) s o stop h e = absurd h
scan_exit x (Err y) s o stop h e = subst (λ z. Ends z s o) (sym h) e

-- ---- acts that print nothing

pub stopped_passes : (stop : Stop) (t : State) → Passes (λ A o. Stopped stop t o)
stopped_passes (Fault place f) t A B o g k e = halted_then g e
stopped_passes (Spent place) t A B o g k e = halted_then g e
stopped_passes (Cyclic place names) t A B o g k e = halted_then g e
stopped_passes NoMemory t A B o g k e = tt
stopped_passes (Output stop) t A B o g k e = tt

pub did_exit : {X A : Type 0} (view : X → A) (r : Result X Stop) (t : State) (o : Outcome A) (stop : Stop) → IsErrAnd r (λ y. y ≡ stop) → Stopped stop t o → Did view r t o
did_exit view (Ok x) t o stop h e = absurd h
did_exit view (Err y) t o stop h e = subst (λ z. Stopped z t o) (sym h) e

-- a number that is held in a word gets into a cell
module _ (slot : Slot) (z : ℤ) (s t : State) (f : FitsSigned w64 z) where
  pub put_stops : (stop : Stop) → Stopped stop t (put slot (values.Number (to_z w64 (of_z w64 z))) s) → Stopped stop t (put slot (values.Number z) s)
  put_stops stop h = subst (λ x. Stopped stop t (put slot (values.Number x) s)) (to_z-of_z w64 z f) h

  pub put_went : put slot (values.Number (to_z w64 (of_z w64 z))) s ≡ Went tt t → put slot (values.Number z) s ≡ Went tt t
  put_went h = subst (λ x. put slot (values.Number x) s ≡ Went tt t) (to_z-of_z w64 z f) h

-- ---- names and their values

-- the name of a generator, with its value
abbrev pub pair_bound : Generator × ℤ → Bound
pair_bound p = record { slot = p.0.slot; value = p.1 }

pub named_pairs : (gs : List Generator) (vs : List ℤ) → named (map shape_of_generator gs) vs ≡ map pair_bound (zip gs vs)
named_pairs [] vs = refl
named_pairs (g ∷ gs) [] = ap (λ x. named (x ∷ map shape_of_generator gs) []) (generator_is g)
named_pairs (g ∷ gs) (v ∷ vs) =
    ap (λ x. named (x ∷ map shape_of_generator gs) (v ∷ vs)) (generator_is g) ∙ ap (λ bs. record { slot = g.slot; value = v } ∷ bs) (named_pairs gs vs)

pub names_moved : {X : Type 0} {f : X → Bound} {xs : List X} {i : ℕ} {s : State} {w : Outcome (Unit {0})} (j : ℕ) → NamesLeft f xs i s w → j ≡ i → NamesLeft f xs j s w
names_moved {f = f} {xs} {s = s} {w} j m e = subst (λ i. NamesLeft f xs i s w) (sym e) m

-- a pair of two lists
pub pair_there : (gs : List Generator) (vs : List ℤ) (i : ℕ) (g : Generator) (v : ℤ) → i < length gs → i < length vs → ((d : Generator) → g ≡ get_or gs i d) → ((d : ℤ) → v ≡ get_or vs i d) →
    (i < length (zip gs vs)) × (◌≡◌ {A = Generator × ℤ} (g, v) (get_or (zip gs vs) i (g, v)))
pair_there gs vs i g v h k e f = (
  let z = length-zip gs vs in omega (arith, z),
  (ap (λ (x : Generator). (x, v)) (e g) ∙ ap (λ (y : ℤ). (get_or gs i g, y)) (f v)) ∙ sym (get_or-zip gs vs i (g, v) h k),
)

pub pairs_end : (gs : List Generator) (vs : List ℤ) (i : ℕ) → i ≡ min (length gs) (length vs) → length (zip gs vs) ≤ i
pairs_end gs vs i h = let z = length-zip gs vs in omega (arith, z, h)

-- ---- a candidate that is rated

module _ (l : Level) (c key : Shape) (n : ℕ) (xs : List Rated) (s : State) where
  abbrev rated_behind : Bool → Act (List Rated)
  rated_behind b = if b then (key_form l key >>= λ k. give (xs ++ record { number = n; key = k } ∷ [])) else give xs

  pub rated_not : {b : Bool} {t : State} → condition l c s ≡ Went b t → b ≡ false → rated_form l c key n xs s ≡ Went xs t
  unfolding rated_form
  rated_not {t = t} e is = went_then rated_behind e ∙ ap (λ b. rated_behind b t) is

  pub rated_kept : {b : Bool} {t u : State} {k : ℤ} → condition l c s ≡ Went b t → b ≡ true → key_form l key t ≡ Went k u → (z : ℤ) → z ≡ k →
      rated_form l c key n xs s ≡ Went (xs ++ record { number = n; key = z } ∷ []) u
  unfolding rated_form
  rated_kept {t = t} {u} e is f z same =
      went_then rated_behind e
      ∙ ap (λ b. rated_behind b t) is
      ∙ went_then (λ k. give (xs ++ record { number = n; key = k } ∷ [])) f
      ∙ ap (λ k. Went (xs ++ record { number = n; key = k } ∷ []) u) (sym same)

  pub rated_untested : LevelGoesOn l → (stop : Stop) (t : State) → Ends stop t (condition l c s) → Ends stop t (rated_form l c key n xs s)
  unfolding rated_form
  rated_untested h stop t e = ended_then stop t _ rated_behind (λ b. goes_if b (goes_then (goes_key l h key) (λ k. goes_give)) goes_give) e

  pub rated_unkeyed : LevelGoesOn l → {b : Bool} {u : State} → condition l c s ≡ Went b u → b ≡ true → (stop : Stop) (t : State) → Ends stop t (key_form l key u) → Ends stop t (rated_form l c key n xs s)
  unfolding rated_form
  rated_unkeyed h {u = u} e is stop t f =
      subst (Ends stop t) (sym (went_then rated_behind e ∙ ap (λ b. rated_behind b u) is)) (ended_then stop t _ (λ k. give (xs ++ record { number = n; key = k } ∷ [])) (λ k. goes_give) f)

-- ---- what is done with the names

module _ {A : Type 0} (at : Place) (bs : List Bound) (next : Act A) (s : State) where
  pub generated_is : {t u : State} → charge 1 at s ≡ Went tt t → bind bs t ≡ Went tt u → generated at bs next s ≡ next u
  unfolding generated
  generated_is e f = went_then (λ _. bind bs >>= λ _. next) e ∙ went_then (λ _. next) f

  pub generated_ends : {t u : State} → charge 1 at s ≡ Went tt t → bind bs t ≡ Went tt u → (stop : Stop) (w : State) → Ends stop w (next u) → Ends stop w (generated at bs next s)
  generated_ends e f stop w d = subst (Ends stop w) (sym (generated_is e f)) d

  pub generated_uncharged : GoesOn next → (stop : Stop) (t : State) → t.printed ≡ s.printed → Stopped stop t (charge 1 at s) → Ends stop t (generated at bs next s)
  unfolding generated
  generated_uncharged g stop t same e = stopped_then stop s t (λ _. bind bs >>= λ _. next) (goes_charge 1 at) same (λ _. goes_then (goes_bind bs) (λ _. g)) e

  pub generated_unbound : GoesOn next → {u : State} → charge 1 at s ≡ Went tt u → (stop : Stop) (t : State) → t.printed ≡ u.printed → Stopped stop t (bind bs u) → Ends stop t (generated at bs next s)
  unfolding generated
  generated_unbound g {u} c stop t same e =
      subst (Ends stop t) (sym (went_then (λ _. bind bs >>= λ _. next) c)) (stopped_then stop u t (λ _. next) (goes_bind bs) same (λ _. g) e)

-- ---- all candidates

-- a table whose rows are so wide
pub own_rows : {c : Candidates} {n : ℕ} → AreRows c n → AreRows c c.width
own_rows r = record { wide = refl; whole = r.whole; few = r.few }

module _ (l : Level) (at : Place) (gs : List Shape) (c key : Shape) (s : State) where
  abbrev listed_behind : List Candidate → Act Scan
  listed_behind ts = scanned l at gs c key 0 ts [] >>= λ xs. give (record { candidates = ts; kept = xs })

  goes_listed : LevelGoesOn l → (ts : List Candidate) → GoesOn (listed_behind ts)
  goes_listed h ts = goes_then (goes_scanned l h at gs c key 0 ts []) (λ xs. goes_give)

  pub scan_unlisted : LevelGoesOn l → (stop : Stop) (t : State) → Ends stop t (candidates_form l at gs s) → Ends stop t (scan_form l at gs c key s)
  unfolding scan_form in_scope
  scan_unlisted h stop t e =
      ended_then stop t _ (back_in s.frame) (λ x. goes_back_in s.frame x) (ended_then stop t (candidates_form l at gs s) listed_behind (λ ts. goes_listed h ts) e)

  pub scan_unscored : LevelGoesOn l → {ts : List Candidate} {u : State} → candidates_form l at gs s ≡ Went ts u → (stop : Stop) (t : State) → Ends stop t (scanned l at gs c key 0 ts [] u) → Ends stop t (scan_form l at gs c key s)
  unfolding scan_form in_scope
  scan_unscored h {ts} {u} e stop t f =
      subst (λ (o : Outcome (List Candidate)). Ends stop t (then_do (then_do o listed_behind) (back_in s.frame))) (sym e)
      (ended_then stop t _ (back_in s.frame) (λ x. goes_back_in s.frame x) (ended_then stop t (scanned l at gs c key 0 ts [] u) (λ xs. give (record { candidates = ts; kept = xs })) (λ xs. goes_give) f))

  pub scan_is : {ts : List Candidate} {xs : List Rated} {t u : State} (frame : List values.Value) → frame ≡ s.frame → candidates_form l at gs s ≡ Went ts t → scanned l at gs c key 0 ts [] t ≡ Went xs u →
      scan_form l at gs c key s ≡ Went (record { candidates = ts; kept = xs }) (record u { frame = frame })
  unfolding scan_form in_scope
  scan_is {ts} {xs} {t} {u} frame same e f =
      ap (λ (o : Outcome (List Candidate)). then_do (then_do o listed_behind) (back_in s.frame)) e
      ∙ ap (λ (o : Outcome (List Rated)). then_do (then_do o (λ xs. give (record { candidates = ts; kept = xs }))) (back_in s.frame)) f
      ∙ ap (λ (vs : List values.Value). Went (record { candidates = ts; kept = xs }) (record u { frame = vs })) (sym same)

-- ---- the chosen one

module _ (l : Level) (at : Place) (x : Option Extreme) (gs : List Shape) (c key : Shape) (s : State) where
  abbrev scan_behind : Scan → Act (Option Candidate)
  scan_behind scan = chosen_of (ties_of x scan.kept) >>= λ n. give (candidate_at scan.candidates n)

  pub choice_ends : (stop : Stop) (t : State) → Ends stop t (scan_form l at gs c key s) → Ends stop t (choice_form l at x gs c key s)
  unfolding choice_form
  choice_ends stop t e = ended_then stop t _ scan_behind (λ scan. goes_then (goes_chosen (ties_of x scan.kept)) (λ n. goes_give)) e

  pub choice_is : {scan : Scan} {t u : State} (ns : List ℕ) {n : Option ℕ} → scan_form l at gs c key s ≡ Went scan t → ns ≡ ties_of x scan.kept → chosen_of ns t ≡ Went n u →
      choice_form l at x gs c key s ≡ Went (candidate_at scan.candidates n) u
  unfolding choice_form
  choice_is {scan} {t} ns e same f =
      went_then scan_behind e
      ∙ ap (λ (o : Outcome (Option ℕ)). then_do o (λ n. give (candidate_at scan.candidates n))) (ap (λ ms. chosen_of ms t) (sym same) ∙ f)

pub goes_body : (l : Level) → LevelGoesOn l → (gs : List Shape) (body : Work) (t : Option Candidate) → GoesOn (with_chosen l gs body t)
goes_body l h gs body None = goes_give
goes_body l h gs body (Some t) = goes_then (goes_bind (named gs t)) (λ _. h.stmt body)
