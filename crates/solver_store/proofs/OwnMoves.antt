-- Moves that a solver doesn't refuse are moves of free cells of its store, no two of one; and the numbers after them are
-- the same in whatever order they are written.
use Rattle.std.proofs.Common.{◌≡◌, ℕ, ℤ, zero, suc, ◌+◌, ◌<◌, ◌≤◌, Bool, true, false, cond, nat_lt, ◌||◌, List, [], ◌∷◌, map, Option, Some, None, is_some, length, refl, sym, ap, ◌∙◌, slice_get, arith}
use Rattle.std.specs.Prelude.{filter, nat_eq, not, slice_set, unwrap_or, zip, if◌then◌else◌}
use Rattle.std.specs.List.{list_all, list_any, range_with_len}
use Rattle.std.specs.Option.{option_and_then}
use Rattle.std.proofs.lemmas.Bool.{and_parts, eqb-true, eqb-false}
use Rattle.cbl_base.specs.NumberRule.{NumberRule}
use Rattle.cbl_base.specs.declared.faults.RunFault.TheVariants.{DefinedVariable, WrongSolver}
use Rattle.cbl_base.specs.declared.ids.VarId.{VarId}
use Rattle.graph_values.specs.Graphs.{HoldsTerms, inputs_of, inputs_of_cell, inputs_of_node, term_at}
use Rattle.graph_values.specs.Members.{cells_of, variables_of}
use Rattle.inc_store.specs.Moves.{AreMoves, is_moved}
use Rattle.model_store.specs.Settings.{AreOfVariables, numbers_after}
use Rattle.solver_models.specs.FreeVariables.{moves_to}
use Rattle.solver_models.specs.Ids.{has_definition, id_at, is_given, is_own}
use Rattle.solver_models.specs.Moves.{AreDistinct, after_moves, commit_refusal, moved}
use Rattle.solver_models.specs.State.{SolverState}
use Rattle.solver_models.proofs.ReadLaws.{given_within}
use Rattle.store_build.proofs.GatherLemmas.{before_first}
use Rattle.store_turns.specs.Meaning.{Graph, is_empty}
use Rattle.term_count.proofs.PlaceLaws.{both}
use Rattle.term_model.specs.Definitions.{definition_of, term_of}
use Rattle.term_model.specs.declared.model.Model.{Model}
use Rattle.solver_store.specs.FreeMoves.{AreFree}

neither : (a b : Bool) → (a || b) ≡ false → (a ≡ false) × (b ≡ false)
neither true b e = let c : true ≡ false = e in cc
neither false b e = (refl, e)

none_of : (o : Option ℕ) → is_some o ≡ false → o ≡ None
none_of None e = refl
none_of (Some d) e = let c : true ≡ false = e in cc

-- ---- the numbers after moves
set_swap : (a : List ℤ) (i j : ℕ) (v w : ℤ) → (i ≡ j → ⊥) → slice_set (slice_set a i v) j w ≡ slice_set (slice_set a j w) i v
set_swap [] i j v w ne = refl
set_swap (x ∷ a) zero zero v w ne = absurd (ne refl)
set_swap (x ∷ a) zero (suc j) v w ne = refl
set_swap (x ∷ a) (suc i) zero v w ne = refl
set_swap (x ∷ a) (suc i) (suc j) v w ne = ap (λ b. x ∷ b) (set_swap a i j v w (λ e. ne (ap suc e)))

-- a number that none of the moves gives may be written before them
before_moves : (ms : List (VarId × ℤ)) (a : List ℤ) (i : ℕ) (v : ℤ) → is_moved ms i ≡ false → numbers_after ms (slice_set a i v) ≡ slice_set (numbers_after ms a) i v
before_moves [] a i v none = refl
before_moves (m ∷ ms) a i v none =
    let parts = neither (nat_eq m.0.index i) (is_moved ms i) none in
    ap (λ b. slice_set b m.0.index m.1) (before_moves ms a i v parts.1)
    ∙ set_swap (numbers_after ms a) i m.0.index v m.1 (λ e. eqb-false m.0.index i parts.0 (sym e))

pub numbers_same : (M : Model) (ms : List (VarId × ℤ)) (a : List ℤ) → AreFree M ms → numbers_after ms a ≡ after_moves a ms
numbers_same M [] a are = refl
numbers_same M (m ∷ ms) a are = sym (before_moves ms a m.0.index m.1 are.2) ∙ numbers_same M ms (moved a m) are.3

-- ---- they are of variables, and of free cells
pub of_variables : (M : Model) (ms : List (VarId × ℤ)) → AreFree M ms → AreOfVariables M ms
of_variables M [] are = tt
of_variables M (m ∷ ms) are = (are.0, of_variables M ms are.3)

module _ (users : ℕ → NumberRule) (M : Model) (g : Graph) (holds : HoldsTerms users M g) where
  free_cell : (i : ℕ) → i < variables_of M → definition_of M i ≡ None → g.is_free i ≡ true
  free_cell i lt none =
      let low = before_first i (cells_of M) (omega (arith, lt)) in
      let inputs : inputs_of M i ≡ [] =
      ap (λ b. cond b (inputs_of_cell M (option_and_then (term_of M.defs.items) (definition_of M i))) (inputs_of_node M (term_at M i))) low
      ∙ ap (λ e. inputs_of_cell M (option_and_then (term_of M.defs.items) e)) none in
      holds.free i (omega (arith, lt)) ∙ both (nat_lt i (cells_of M)) (is_empty (inputs_of M i)) low (ap is_empty inputs)

  pub are_moves : (ms : List (VarId × ℤ)) → AreFree M ms → AreMoves g ms
  are_moves [] are = tt
  are_moves (m ∷ ms) are = (
    (let lt = are.0 in let size = holds.size in omega (arith, lt, size)),
    free_cell m.0.index are.0 are.1,
    are.2,
    are_moves ms are.3,
  )

-- ---- what a solver doesn't refuse
moved_place : (ms : List (VarId × ℤ)) (i : ℕ) → is_moved ms i ≡ true → (k : ℕ) × (m : VarId × ℤ) × (slice_get ms k ≡ Some m) × (m.0.index ≡ i)
moved_place [] i h = let c : false ≡ true = h in cc
moved_place (m ∷ ms) i h = by (nat_eq m.0.index i) refl (moved_place ms i)
  where
    by : (b : Bool) → nat_eq m.0.index i ≡ b → (is_moved ms i ≡ true → (k : ℕ) × (n : VarId × ℤ) × (slice_get ms k ≡ Some n) × (n.0.index ≡ i)) → (k : ℕ) × (n : VarId × ℤ) × (slice_get (m ∷ ms) k ≡ Some n) × (n.0.index ≡ i)
    by true e later = (zero, m, refl, eqb-true m.0.index i e)
    by false e later = let f = later (sym (ap (λ b. b || is_moved ms i) e) ∙ h) in (suc f.0, f.1, f.2, f.3)

all_at : (p : VarId × ℤ → Bool) (ms : List (VarId × ℤ)) (k : ℕ) (m : VarId × ℤ) → list_all p ms ≡ true → slice_get ms k ≡ Some m → p m ≡ true
all_at p [] k m all at = let c : None ≡ Some m = at in cc
all_at p (n ∷ ms) zero m all at = ap p (sym (ap (λ o. unwrap_or o n) at)) ∙ (and_parts (p n) (list_all p ms) all).0
all_at p (n ∷ ms) (suc k) m all at = all_at p ms k m (and_parts (p n) (list_all p ms) all).1 at

same_var : (x y : VarId) → x.solver ≡ y.solver → x.index ≡ y.index → x ≡ y
same_var x y e f = λ i. record { solver = e i; index = f i }

given_solver : (number count : ℕ) (x : VarId) → is_given number count x ≡ true → x.solver ≡ number
given_solver number count x h = eqb-true x.solver number (and_parts (nat_eq x.solver number) (nat_lt x.index count) h).0

module _ (number : ℕ) (M : Model) where
  abbrev own : VarId × ℤ → Bool
  own m = is_given number (length M.vars.items) m.0

  once_moved : (m : VarId × ℤ) (ms : List (VarId × ℤ)) → own m ≡ true → list_all own ms ≡ true → AreDistinct (m ∷ ms) → is_moved ms m.0.index ≡ false
  once_moved m ms is all distinct = by (is_moved ms m.0.index) refl
    where
      by : (b : Bool) → is_moved ms m.0.index ≡ b → is_moved ms m.0.index ≡ false
      by false e = e
      by true e =
          let f = moved_place ms m.0.index e in
          let other : own f.1 ≡ true = all_at own ms f.0 f.1 all f.2 in
          let same : m.0 ≡ f.1.0 = same_var m.0 f.1.0 (given_solver number (length M.vars.items) m.0 is ∙ sym (given_solver number (length M.vars.items) f.1.0 other)) (sym f.3) in
          let c : zero ≡ suc f.0 = distinct zero (suc f.0) m f.1 refl f.2 same in
          absurd (omega (arith, c))

  free_from : (ms : List (VarId × ℤ)) → list_all own ms ≡ true → list_any (λ m. has_definition M m.0.index) ms ≡ false → AreDistinct ms → AreFree M ms
  free_from [] all none distinct = tt
  free_from (m ∷ ms) all none distinct =
      let parts = and_parts (own m) (list_all own ms) all in
      let free = neither (has_definition M m.0.index) (list_any (λ n. has_definition M n.0.index) ms) none in (
        given_within number (length M.vars.items) m.0 parts.0,
        none_of (definition_of M m.0.index) free.0,
        once_moved m ms parts.0 parts.1 distinct,
        free_from ms parts.1 free.1 (λ j k p q at there same. (let e : suc j ≡ suc k = distinct (suc j) (suc k) p q at there same in omega (arith, e))),
      )

pub own_moves : (s : SolverState) (ms : List (VarId × ℤ)) → AreDistinct ms → commit_refusal s ms ≡ None → AreFree s.model ms
own_moves s ms distinct none =
    let parts = by (list_all (λ m. is_own s m.0) ms) (list_any (λ m. has_definition s.model m.0.index) ms) none in
    free_from s.number s.model ms parts.0 parts.1 distinct
  where
    by : (own defined : Bool) → (if not own then Some WrongSolver else (if defined then Some DefinedVariable else None)) ≡ None → (own ≡ true) × (defined ≡ false)
    by true true h = let c : Some DefinedVariable ≡ None = h in cc
    by true false h = (refl, refl)
    by false defined h = let c : Some WrongSolver ≡ None = h in cc

-- ---- the moves of a restore
module _ (s : SolverState) where
  abbrev free : ℕ → Bool
  free i = not (has_definition s.model i)

  abbrev given : List ℕ → List ℤ → List (VarId × ℤ)
  given places values = zip (map (id_at s) places) values

  -- by whether the first is free
  abbrev from : Bool → ℕ → List ℕ → List ℕ
  from b a rest = cond b (a ∷ rest) rest

  below : (n a i : ℕ) (values : List ℤ) → i < a → is_moved (given (filter free (range_with_len a n)) values) i ≡ false
  below zero a i values lt = refl
  below (suc n) a i values lt = by (free a) values (λ vs. below n (a + 1) i vs (omega (arith, lt)))
    where
      apart : (b : Bool) → nat_eq a i ≡ b → nat_eq a i ≡ false
      apart true e = let same = eqb-true a i e in absurd (omega (arith, same, lt))
      apart false e = e

      by : (b : Bool) (values : List ℤ) → ((vs : List ℤ) → is_moved (given (filter free (range_with_len (a + 1) n)) vs) i ≡ false) → is_moved (given (from b a (filter free (range_with_len (a + 1) n))) values) i ≡ false
      by true [] later = refl
      by true (v ∷ values) later = ap (λ b. b || is_moved (given (filter free (range_with_len (a + 1) n)) values) i) (apart (nat_eq a i) refl) ∙ later values
      by false values later = later values

  restored : (n a : ℕ) (values : List ℤ) → a + n ≤ variables_of s.model → AreFree s.model (given (filter free (range_with_len a n)) values)
  restored zero a values le = tt
  restored (suc n) a values le = by (free a) refl values (λ vs. restored n (a + 1) vs (omega (arith, le)))
    where
      not_defined : (o : Option ℕ) → not (is_some o) ≡ true → o ≡ None
      not_defined None h = refl
      not_defined (Some d) h = let c : false ≡ true = h in cc

      by : (b : Bool) → free a ≡ b → (values : List ℤ) → ((vs : List ℤ) → AreFree s.model (given (filter free (range_with_len (a + 1) n)) vs)) → AreFree s.model (given (from b a (filter free (range_with_len (a + 1) n))) values)
      by true e [] later = tt
      by true e (v ∷ values) later = (omega (arith, le), not_defined (definition_of s.model a) e, below n (a + 1) a values (omega arith), later values)
      by false e values later = later values

  pub free_restored : (values : List ℤ) → AreFree s.model (moves_to s values)
  free_restored values = restored (length s.model.vars.items) 0 values (omega arith)
