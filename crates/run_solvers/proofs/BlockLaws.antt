-- What waits while a `with` is open, and its commit at the end.
use Rattle.std.proofs.Common.{◌≡◌, ℕ, zero, suc, ◌+◌, ◌<◌, ℤ, true, false, ◌&&◌, Vec, Global, List, [], ◌∷◌, ◌++◌, Option, Some, None, Ok, is_some, length, length-set, set, drop, refl, sym, ap, ◌∙◌, subst, true≢false, nat_eq, arith, slice_get, append_assoc}
use Rattle.std.specs.Prelude.{nat_lt, replicate, if◌then◌else◌}
use Rattle.std.specs.Option.{option_map}
use Rattle.cbl_base.proofs.PlaceLemmas.{others_stay}
use native.Mathlib.Decide.{ℕ_discrete}
use Rattle.cbl_base.specs.Inputs.{number_kind}
use Rattle.cbl_base.specs.declared.faults.RunFault.TheVariants.{NotClosed}
use Rattle.cbl_base.specs.declared.ids.VarId.{VarId}
use Rattle.cbl_base.specs.declared.place.Place.{Place}
use Rattle.ls_solver.specs.Ids.{has_definition, is_own}
use Rattle.ls_solver.specs.State as solvers
use Rattle.ls_solver.proofs.ReadLaws.{given_within}
use Rattle.term_model.specs.Definitions.{definition_of}
use Rattle.term_model.specs.Kinds.{kinds_in}
use Rattle.term_model.specs.Wellformed.{HasDefinedSets}
use Rattle.comet_meaning.specs.Models as meant
use Rattle.run_solvers.specs.Changing.{committed_one, evaluated, moved_one, opened_one, refused, waiting_now}
use Rattle.run_solvers.specs.Kept.{AreWaiting}
use Rattle.run_solvers.specs.Makes.{made_or}
use Rattle.run_solvers.specs.Views.{solver_seen}
use Rattle.run_solvers.specs.Waiting.{overlaid, moves_from, indexed}
use Rattle.run_solvers.proofs.CommitLaws.{free_defined, waits_for}
use Rattle.run_solvers.proofs.WaitingLaws.{indexed_moves, moves_are, overlaid_none, overlaid_set, second_counts, waiting_moves}

-- a free variable is a number
pub free_number : (S : solvers.SolverState) (x : VarId) → HasDefinedSets S.model → is_own S x ≡ true → has_definition S.model x.index ≡ false → kinds_in S.model.vars.items x.index ≡ Some number_kind
free_number S x sets own free = sets x.index (given_within S.number (length S.model.vars.items) x own) (free_defined S x.index free)

-- ---- one more number that waits
pub waiting_kept : (S : solvers.SolverState) (ws : List (Option ℤ)) (i : ℕ) (z : ℤ) → has_definition S.model i ≡ false → AreWaiting S (Some ws) → AreWaiting S (Some (set ws i (Some z)))
waiting_kept S ws i z free are = (are.0, length-set ws i (Some z) ∙ are.1, λ j y at. free_at j y at (ℕ_discrete j i))
  where
    free_at : (j : ℕ) (y : ℤ) → slice_get (set ws i (Some z)) j ≡ Some (Some y) → Dec (j ≡ i) → definition_of S.model j ≡ None
    free_at j y at (yes e) = ap (definition_of S.model) e ∙ free_defined S i free
    free_at j y at (no ne) = are.2 j y (sym (others_stay ws i j (Some z) ne) ∙ at)

-- the same where it isn't known whether numbers wait
pub waiting_more : (S : solvers.SolverState) (w v : Option (List (Option ℤ))) (i : ℕ) (z : ℤ) → v ≡ option_map (λ ws. set ws i (Some z)) w → has_definition S.model i ≡ false → AreWaiting S w → AreWaiting S v
waiting_more S None v i z e free are = subst (AreWaiting S) (sym e) tt
waiting_more S (Some ws) v i z e free are = subst (AreWaiting S) (sym e) (waiting_kept S ws i z free are)

-- a move is one that waits
pub waited_one : (S : solvers.SolverState) (names : List (List ℕ)) (w v : Option (List (Option ℤ))) (i : ℕ) (z : ℤ) → v ≡ option_map (λ ws. set ws i (Some z)) w → is_some w ≡ true → length S.assignment ≡ length S.model.vars.items → AreWaiting S w →
    moved_one ((i, z) ∷ []) (solver_seen S names w) (solver_seen S names w).waiting ≡ Ok (solver_seen S names v)
waited_one S names None v i z e h long are = absurd (true≢false (sym h))
waited_one S names (Some ws) v i z e h long are = waits_for S names ws i z (are.1 ∙ sym long) ∙ ap (λ (u : Option (List (Option ℤ))). Ok (solver_seen S names u)) (sym e)

-- the first of two moves waits, and then the second is to be made
waits_first : (S : solvers.SolverState) (names : List (List ℕ)) (w v : Option (List (Option ℤ))) (i j : ℕ) (y z : ℤ) → v ≡ option_map (λ ws. set ws i (Some y)) w → is_some w ≡ true → length S.assignment ≡ length S.model.vars.items → AreWaiting S w →
    moved_one ((i, y) ∷ (j, z) ∷ []) (solver_seen S names w) (solver_seen S names w).waiting ≡ moved_one ((j, z) ∷ []) (solver_seen S names v) (solver_seen S names v).waiting
waits_first S names None v i j y z e h long are = absurd (true≢false (sym h))
waits_first S names (Some ws) v i j y z e h long are =
    ap (λ (a : List ℤ). Ok (record (solver_seen S names None) { waiting = Some (set a j z) })) (sym (overlaid_set S.assignment ws i y (are.1 ∙ sym long)))
    ∙ ap (λ (u : Option (List (Option ℤ))). moved_one ((j, z) ∷ []) (solver_seen S names u) (solver_seen S names u).waiting) (sym e)

pub waited_first : (S : solvers.SolverState) (names : List (List ℕ)) (w v : Option (List (Option ℤ))) (i j : ℕ) (x y z u : ℤ) → x ≡ y → u ≡ z → v ≡ option_map (λ ws. set ws i (Some x)) w → is_some w ≡ true → length S.assignment ≡ length S.model.vars.items → AreWaiting S w →
    moved_one ((i, y) ∷ (j, z) ∷ []) (solver_seen S names w) (solver_seen S names w).waiting ≡ moved_one ((j, u) ∷ []) (solver_seen S names v) (solver_seen S names v).waiting
waited_first S names w v i j x y z u e f next h long are =
    ap (λ (n : ℤ). moved_one ((i, n) ∷ (j, z) ∷ []) (solver_seen S names w) (solver_seen S names w).waiting) (sym e)
    ∙ ap (λ (n : ℤ). moved_one ((i, x) ∷ (j, n) ∷ []) (solver_seen S names w) (solver_seen S names w).waiting) (sym f)
    ∙ waits_first S names w v i j x u next h long are

-- where nothing waits nothing does then
pub none_waits : (w v : Option (List (Option ℤ))) (i : ℕ) (z : ℤ) → v ≡ option_map (λ ws. set ws i (Some z)) w → is_some w ≡ false → (w ≡ None) × (v ≡ None)
none_waits None v i z e h = (refl, e)
none_waits (Some ws) v i z e h = absurd (true≢false h)

pub nothing_kept : (S : solvers.SolverState) (v : Option (List (Option ℤ))) → v ≡ None → AreWaiting S v
nothing_kept S v e = subst (AreWaiting S) (sym e) tt

-- and moves are made at once
pub moved_now : (S : solvers.SolverState) (names : List (List ℕ)) (w v : Option (List (Option ℤ))) (moves : List (ℕ × ℤ)) → w ≡ None → v ≡ None →
    moved_one moves (solver_seen S names w) (solver_seen S names w).waiting ≡ evaluated (record (solver_seen S names v) { assignment = meant.after_moves moves S.assignment })
moved_now S names w v moves e f =
    ap (λ (u : Option (List (Option ℤ))). moved_one moves (solver_seen S names u) (solver_seen S names u).waiting) e
    ∙ ap (λ (u : Option (List (Option ℤ))). evaluated (record (solver_seen S names u) { assignment = meant.after_moves moves S.assignment })) (sym f)

-- of two moves of one variable the second counts
pub moved_second : (S : solvers.SolverState) (names : List (List ℕ)) (w v : Option (List (Option ℤ))) (i j : ℕ) (y z : ℤ) → w ≡ None → v ≡ None → i ≡ j →
    moved_one ((i, y) ∷ (j, z) ∷ []) (solver_seen S names w) (solver_seen S names w).waiting ≡ evaluated (record (solver_seen S names v) { assignment = meant.after_moves ((j, z) ∷ []) S.assignment })
moved_second S names w v i j y z e f same =
    moved_now S names w v ((i, y) ∷ (j, z) ∷ []) e f
    ∙ ap (λ (a : List ℤ). evaluated (record (solver_seen S names v) { assignment = a })) (ap (λ n. set (set S.assignment n y) j z) same ∙ second_counts S.assignment j y z)

pub waits_is : {X Y : Type 0} (f : X → Y) (w : Option X) → is_some (option_map f w) ≡ is_some w
waits_is f None = refl
waits_is f (Some x) = refl

pub written_is : (w : Option (Vec (Option ℤ) Global)) (i : ℕ) (z : ℤ) → option_map (λ u. set u.items i (Some z)) w ≡ option_map (λ ws. set ws i (Some z)) (option_map (λ u. u.items) w)
written_is None i z = refl
written_is (Some u) i z = refl

-- the numbers of a list that waits, and of none
pub items_none : (w : Option (Vec (Option ℤ) Global)) → w ≡ None → option_map (λ u. u.items) w ≡ None
items_none w e = ap (λ (v : Option (Vec (Option ℤ) Global)). option_map (λ u. u.items) v) e

pub items_some : (w : Option (Vec (Option ℤ) Global)) (x : Vec (Option ℤ) Global) → w ≡ Some x → option_map (λ u. u.items) w ≡ Some x.items
items_some w x e = ap (λ (v : Option (Vec (Option ℤ) Global)). option_map (λ u. u.items) v) e

-- ---- the end, where something waits and where nothing does
pub nothing_committed : (S : solvers.SolverState) (names : List (List ℕ)) (w v : Option (List (Option ℤ))) → w ≡ None → v ≡ None →
    made_or (solver_seen S names w) (committed_one (solver_seen S names w) (solver_seen S names w).waiting) ≡ Ok (solver_seen S names v)
nothing_committed S names w v e f =
    ap (λ (u : Option (List (Option ℤ))). made_or (solver_seen S names u) (committed_one (solver_seen S names u) (solver_seen S names u).waiting)) e
    ∙ ap (λ (u : Option (List (Option ℤ))). Ok (solver_seen S names u)) (sym f)

pub waiting_committed : (S : solvers.SolverState) (names : List (List ℕ)) (w v : Option (List (Option ℤ))) (ws : List (Option ℤ)) → w ≡ Some ws → v ≡ None →
    made_or (solver_seen S names w) (committed_one (solver_seen S names w) (solver_seen S names w).waiting) ≡ evaluated (record (solver_seen S names v) { assignment = overlaid S.assignment ws })
waiting_committed S names w v ws e f =
    ap (λ (u : Option (List (Option ℤ))). made_or (solver_seen S names u) (committed_one (solver_seen S names u) (solver_seen S names u).waiting)) e
    ∙ ap (λ (u : Option (List (Option ℤ))). evaluated (record (solver_seen S names u) { assignment = overlaid S.assignment ws })) (sym f)

-- ---- the beginning

pub opened_open : (S : solvers.SolverState) (names : List (List ℕ)) (w : Option (List (Option ℤ))) (at : Place) → S.closed ≡ false → opened_one at (solver_seen S names w) ≡ refused at NotClosed
opened_open S names w at e = ap (λ b. if b then Ok (record (solver_seen S names w) { waiting = waiting_now (solver_seen S names w) }) else refused at NotClosed) e

module _ (S : solvers.SolverState) (names : List (List ℕ)) (at : Place) (shut : S.closed ≡ true) where
  by_closed : (w : Option (List (Option ℤ))) → opened_one at (solver_seen S names w) ≡ Ok (record (solver_seen S names w) { waiting = waiting_now (solver_seen S names w) })
  by_closed w = ap (λ b. if b then Ok (record (solver_seen S names w) { waiting = waiting_now (solver_seen S names w) }) else refused at NotClosed) shut

  pub opened_made : opened_one at (solver_seen S names None) ≡ Ok (solver_seen S names (Some (replicate (length S.assignment) None)))
  opened_made = by_closed None ∙ ap (λ (a : List ℤ). Ok (record (solver_seen S names None) { waiting = Some a })) (sym (overlaid_none S.assignment))

  pub opened_inner : (ws : List (Option ℤ)) → opened_one at (solver_seen S names (Some ws)) ≡ Ok (solver_seen S names (Some ws))
  opened_inner ws = by_closed (Some ws)

  -- the same by whether something waits
  pub opened_again : (w : Option (List (Option ℤ))) → is_some w ≡ true → opened_one at (solver_seen S names w) ≡ Ok (solver_seen S names w)
  opened_again None h = absurd (true≢false (sym h))
  opened_again (Some ws) h = opened_inner ws

  pub opened_first : (w : Option (List (Option ℤ))) (ws : List (Option ℤ)) → is_some w ≡ false → ws ≡ replicate (length S.assignment) None → opened_one at (solver_seen S names w) ≡ Ok (solver_seen S names (Some ws))
  opened_first None ws h e = opened_made ∙ ap (λ (us : List (Option ℤ)). Ok (solver_seen S names (Some us))) (sym e)
  opened_first (Some us) ws h e = absurd (true≢false h)

  nothing_at : (n i : ℕ) (z : ℤ) → slice_get (replicate n None) i ≡ Some (Some z) → ⊥
  nothing_at zero i z e = let c : None ≡ Some (Some z) = e in cc
  nothing_at (suc n) zero z e = let c : Some None ≡ Some (Some z) = e in cc
  nothing_at (suc n) (suc i) z e = nothing_at n i z e

  count_nothing : (n : ℕ) → length (replicate {A = Option ℤ} n None) ≡ n
  count_nothing zero = refl
  count_nothing (suc n) = ap suc (count_nothing n)

  pub opened_kept : length S.assignment ≡ length S.model.vars.items → AreWaiting S (Some (replicate (length S.assignment) None))
  opened_kept long = (shut, count_nothing (length S.assignment) ∙ long, λ i z at. absurd (nothing_at (length S.assignment) i z at))

-- ---- the end
module _ (S : solvers.SolverState) (number : ℕ) (ws : List (Option ℤ)) (own : S.number ≡ number) (are : AreWaiting S (Some ws)) where
  pub all_moves : length S.assignment ≡ length S.model.vars.items → meant.after_moves (indexed (moves_from number 0 ws)) S.assignment ≡ overlaid S.assignment ws
  all_moves long = indexed_moves S.assignment (moves_from number 0 ws) ∙ waiting_moves number S.assignment ws (are.1 ∙ sym long)

  inside : (ys : List (Option ℤ)) (j : ℕ) (y : Option ℤ) → slice_get ys j ≡ Some y → j < length ys
  inside [] j y e = let c : None ≡ Some y = e in cc
  inside (x ∷ ys) zero y e = omega arith
  inside (x ∷ ys) (suc j) y e = let lt = inside ys j y e in omega (arith, lt)

  pub all_free : (k : ℕ) (m : VarId × ℤ) → slice_get (moves_from number 0 ws) k ≡ Some m → (is_own S m.0 ≡ true) × (has_definition S.model m.0.index ≡ false)
  all_free k m at =
      let found = moves_are number 0 ws k m at in
      let lt : found.0 < length S.model.vars.items = subst (λ n. found.0 < n) are.1 (inside ws found.0 (Some m.1) found.2) in
      let index : m.0.index ≡ found.0 = ap (λ (x : VarId). x.index) found.1 ∙ (let z : 0 + found.0 ≡ found.0 = omega arith in z) in
      let solver : m.0.solver ≡ S.number = ap (λ (x : VarId). x.solver) found.1 ∙ sym own in
      let eq : nat_eq m.0.solver S.number ≡ true = grind (arith, solver) in
      let below : nat_lt m.0.index (length S.model.vars.items) ≡ true = grind (arith, index, lt) in
      (ap (λ b. b && nat_lt m.0.index (length S.model.vars.items)) eq ∙ below, ap (has_definition S.model) index ∙ ap is_some (are.2 found.0 m.1 found.2))

-- ---- the loop that lists what waits
pub moves_more : (number : ℕ) (ws : List (Option ℤ)) (i : ℕ) (w : Option ℤ) (so_far : List (VarId × ℤ)) → i < length ws → drop i ws ≡ w ∷ drop (i + 1) ws → so_far ++ moves_from number i (drop i ws) ≡ moves_from number 0 ws →
    (y z : ℤ) → y ≡ z → w ≡ Some z → (so_far ++ (record { solver = number; index = i }, y) ∷ []) ++ moves_from number (i + 1) (drop (i + 1) ws) ≡ moves_from number 0 ws
moves_more number ws i w so_far lt cut is y z same e =
    ap (λ (n : ℤ). (so_far ++ (record { solver = number; index = i }, n) ∷ []) ++ moves_from number (i + 1) (drop (i + 1) ws)) same
    ∙ append_assoc so_far ((record { solver = number; index = i }, z) ∷ []) (moves_from number (i + 1) (drop (i + 1) ws))
    ∙ ap (λ (rest : List (Option ℤ)). so_far ++ moves_from number i rest) (sym (cut ∙ ap (λ (v : Option ℤ). v ∷ drop (i + 1) ws) e)) ∙ is

pub none_there : (o : Option ℤ) → ((z : ℤ) → o ≡ Some z → ⊥) → o ≡ None
none_there None h = refl
none_there (Some z) h = absurd (h z refl)

pub moves_skip : (number : ℕ) (ws : List (Option ℤ)) (i : ℕ) (w : Option ℤ) (so_far : List (VarId × ℤ)) → i < length ws → drop i ws ≡ w ∷ drop (i + 1) ws → so_far ++ moves_from number i (drop i ws) ≡ moves_from number 0 ws →
    w ≡ None → so_far ++ moves_from number (i + 1) (drop (i + 1) ws) ≡ moves_from number 0 ws
moves_skip number ws i w so_far lt cut is e = ap (λ (rest : List (Option ℤ)). so_far ++ moves_from number i rest) (sym (cut ∙ ap (λ (v : Option ℤ). v ∷ drop (i + 1) ws) e)) ∙ is
