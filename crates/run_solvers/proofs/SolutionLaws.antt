-- Solutions: what is kept and restored of a solver is what the meaning of programs says.
use Rattle.std.proofs.Common.{◌≡◌, ℕ, zero, suc, ◌+◌, ◌<◌, ◌≤◌, ℤ, pos, Bool, true, false, ◌&&◌, Vec, Global, List, [], ◌∷◌, ◌++◌, ◌-◌, append_assoc, Option, Some, None, Result, Ok, Err, is_some, length, length-set, set, map, filter, filter_map, zip, get_or, refl, sym, ap, ◌∙◌, subst, true≢false, nat_eq, arith, slice_get}
use Rattle.std.specs.Prelude.{not, cond, if◌then◌else◌}
use Rattle.std.specs.Option.{option_map}
use Rattle.std.specs.List.{cons_option, range_with_len}
use Rattle.std.proofs.Math.Path.{fun_ext}
use Rattle.std.proofs.lemmas.List.{append-nil}
use Rattle.cbl_base.specs.declared.faults.RunFault.{RunFault}
use Rattle.cbl_base.specs.declared.faults.RunFault.TheVariants.{NotClosed, WrongSolver}
use Rattle.cbl_base.specs.declared.ids.VarId.{VarId}
use Rattle.cbl_base.specs.declared.place.Place.{Place}
use Rattle.ls_events.specs.declared.change.VarChange.{VarChange}
use Rattle.ls_events.specs.declared.solution.Solution.{Solution}
use Rattle.ls_solver.specs.Committing as commits
use Rattle.ls_solver.specs.Committing.{Commits, Fails}
use Rattle.ls_solver.specs.Ids.{has_definition, is_own}
use Rattle.ls_solver.specs.Restoring.{Restores, RestoresBy, restore_refusal, snapshot_refusal, solution_of}
use Rattle.ls_solver.specs.State as solvers
use Rattle.ls_solver.specs.declared.fault.SolverFault.{SolverFault}
use Rattle.ls_solver.specs.declared.fault.SolverFault.TheVariants as faults
use Rattle.ls_solver.specs.OfSolverModels.FreeVariables.{free_places, free_values, moves_to}
use Rattle.ls_solver.specs.OfSolverModels.Ids.{id_at}
use Rattle.ls_solver.proofs.OfSolverModels.FreeLaws.{never_refused as never_refused_moves}
use Rattle.comet_meaning.specs.Models as meant
use Rattle.comet_meaning.specs.Models.{number_now}
use Rattle.comet_meaning.specs.Outcome.{Faulted, Went, ◌>>=◌, give, unless}
use Rattle.comet_meaning.specs.State.{State}
use Rattle.comet_meaning.specs.Solutions.{free_variables, free_numbers}
use Rattle.comet_meaning.specs.Solvers.{SolverState, variable_count}
use Rattle.run_solvers.specs.Changing.{Made, evaluated, moved_one, refused}
use Rattle.run_solvers.specs.Kept.{AreWaiting}
use Rattle.run_solvers.specs.Solutions.{kept_numbers, restored_one}
use Rattle.run_solvers.specs.Views.{solver_seen}
use Rattle.run_solvers.specs.Waiting.{indexed, overlaid, waiting_behind}
use Rattle.run_solvers.proofs.BlockLaws.{moved_now, waiting_kept}
use Rattle.run_solvers.proofs.CommitLaws.{commits_fault, commits_ok}
use Rattle.run_solvers.proofs.SeenLaws.{count_seen, defined_seen}
use Rattle.run_solvers.proofs.WaitingLaws.{overlaid_set}

-- ---- the free variables

pub free_seen : (S : solvers.SolverState) (names : List (List ℕ)) (w : Option (List (Option ℤ))) → free_variables (solver_seen S names w) ≡ free_places S.model
free_seen S names w =
    ap (λ (f : ℕ → Bool). filter (λ i. not (f i)) (range_with_len 0 (variable_count (solver_seen S names w)))) (fun_ext (defined_seen S names w))
    ∙ ap (λ n. filter (λ i. not (has_definition S.model i)) (range_with_len 0 n)) (count_seen S names w)

found_or : (a : List ℤ) (i : ℕ) → i < length a → slice_get a i ≡ Some (get_or a i (pos 0))
found_or [] i lt = absurd (omega (arith, lt))
found_or (z ∷ a) zero lt = refl
found_or (z ∷ a) (suc i) lt = found_or a i (omega (arith, lt))

numbers_from : (a : List ℤ) (p : ℕ → Bool) (i n : ℕ) → i + n ≤ length a →
    filter_map (slice_get a) (filter p (range_with_len i n)) ≡ map (λ j. get_or a j (pos 0)) (filter p (range_with_len i n))
numbers_from a p i zero le = refl
numbers_from a p i (suc n) le = by (p i) (numbers_from a p (i + 1) n (omega (arith, le)))
  where
    by : (b : Bool) → filter_map (slice_get a) (filter p (range_with_len (i + 1) n)) ≡ map (λ j. get_or a j (pos 0)) (filter p (range_with_len (i + 1) n)) →
        filter_map (slice_get a) (cond b (i ∷ filter p (range_with_len (i + 1) n)) (filter p (range_with_len (i + 1) n))) ≡ map (λ j. get_or a j (pos 0)) (cond b (i ∷ filter p (range_with_len (i + 1) n)) (filter p (range_with_len (i + 1) n)))
    by true rest = ap (λ o. cons_option o (filter_map (slice_get a) (filter p (range_with_len (i + 1) n)))) (found_or a i (omega (arith, le))) ∙ ap (λ xs. get_or a i (pos 0) ∷ xs) rest
    by false rest = rest

-- the numbers that are kept
pub kept_seen : (S : solvers.SolverState) (names : List (List ℕ)) (w : Option (List (Option ℤ))) → length S.assignment ≡ length S.model.vars.items → free_values S ≡ free_numbers (solver_seen S names w)
kept_seen S names w long =
    numbers_from S.assignment (λ i. not (has_definition S.model i)) 0 (length S.model.vars.items) (omega (arith, long))
    ∙ ap (λ ps. map (λ j. get_or S.assignment j (pos 0)) ps) (sym (free_seen S names w))

-- ---- the moves

indexed_zip : (S : solvers.SolverState) (ps : List ℕ) (values : List ℤ) → indexed (zip (map (id_at S) ps) values) ≡ zip ps values
indexed_zip S [] values = refl
indexed_zip S (p ∷ ps) [] = refl
indexed_zip S (p ∷ ps) (z ∷ values) = ap (λ ms. (p, z) ∷ ms) (indexed_zip S ps values)

-- ---- what is asked first

module _ (S : solvers.SolverState) (names : List (List ℕ)) (w : Option (List (Option ℤ))) (at : Place) (values : List ℤ) where
  abbrev m : SolverState
  m = solver_seen S names w

  abbrev moved : Made
  moved = moved_one (zip (free_places S.model) values) m m.waiting

  restored_by : (b c : Bool) → S.closed ≡ b → nat_eq (length values) (length (free_places S.model)) ≡ c →
      restored_one at values m ≡ (if b then (if c then moved else refused at WrongSolver) else refused at NotClosed)
  restored_by b c e f =
      ap (λ (ps : List ℕ). if S.closed then (if nat_eq (length values) (length ps) then moved_one (zip ps values) m m.waiting else refused at WrongSolver) else refused at NotClosed) (free_seen S names w)
      ∙ ap (λ t. if t then (if nat_eq (length values) (length (free_places S.model)) then moved else refused at WrongSolver) else refused at NotClosed) e
      ∙ ap (λ t. if b then (if t then moved else refused at WrongSolver) else refused at NotClosed) f

  refusal_by : (x : Solution) (b c : Bool) → x.solver ≡ S.number → x.values ≡ values → S.closed ≡ b → nat_eq (length values) (length (free_places S.model)) ≡ c →
      restore_refusal S x ≡ (if not b then Some NotClosed else (if not c then Some WrongSolver else None))
  refusal_by x b c own same e f =
      ap (λ t. if not t then Some NotClosed else (if not (nat_eq x.solver S.number && nat_eq (length x.values) (length (free_places S.model))) then Some WrongSolver else None)) e
      ∙ ap (λ t. if not b then Some NotClosed else (if not (t && nat_eq (length x.values) (length (free_places S.model))) then Some WrongSolver else None)) itself
      ∙ ap (λ t. if not b then Some NotClosed else (if not t then Some WrongSolver else None)) (ap (λ vs. nat_eq (length vs) (length (free_places S.model))) same ∙ f)
    where
      itself : nat_eq x.solver S.number ≡ true
      itself = grind (arith, own)

  pub restored_foreign : S.closed ≡ true → (length values ≡ length (free_places S.model) → ⊥) → restored_one at values m ≡ refused at WrongSolver
  restored_foreign e f = restored_by true false e (differ (nat_eq (length values) (length (free_places S.model))) refl)
    where
      differ : (b : Bool) → nat_eq (length values) (length (free_places S.model)) ≡ b → nat_eq (length values) (length (free_places S.model)) ≡ false
      differ false h = h
      differ true h = absurd (f (grind (arith, h)))

  pub restored_moves : S.closed ≡ true → length values ≡ length (free_places S.model) → restored_one at values m ≡ moved
  restored_moves e f = restored_by true true e same
    where
      same : nat_eq (length values) (length (free_places S.model)) ≡ true
      same = grind (arith, f)

  -- a restore that is refused, and one that is made, where nothing waits
  module _ (x : Solution) (T : solvers.SolverState) (own : x.solver ≡ S.number) (same : x.values ≡ values) (nothing : w ≡ None) where
    abbrev moves : List (VarId × ℤ)
    moves = moves_to S x.values

    moved_moves : moved ≡ evaluated (record m { assignment = meant.after_moves (indexed moves) S.assignment })
    moved_moves =
        moved_now S names w w (zip (free_places S.model) values) nothing nothing
        ∙ ap (λ ms. evaluated (record m { assignment = meant.after_moves ms S.assignment })) (ap (zip (free_places S.model)) (sym same) ∙ sym (indexed_zip S (free_places S.model) x.values))

    -- by what is asked first
    abbrev Answers : Result (Vec VarChange Global) SolverFault → Bool → Bool → Type 0
    Answers r false c = (r ≡ Err (faults.Run NotClosed)) × (T ≡ S)
    Answers r true false = (r ≡ Err (faults.Run WrongSolver)) × (T ≡ S)
    Answers r true true = Commits S moves T r

    by_refusal : (r : Result (Vec VarChange Global) SolverFault) (b c : Bool) → RestoresBy (if not b then Some NotClosed else (if not c then Some WrongSolver else None)) S x T r → Answers r b c
    by_refusal r false c h = h
    by_refusal r true false h = h
    by_refusal r true true h = h

    answered : (r : Result (Vec VarChange Global) SolverFault) (b c : Bool) → S.closed ≡ b → nat_eq (length values) (length (free_places S.model)) ≡ c → Restores S x T r → Answers r b c
    answered r b c e f h = by_refusal r b c (subst (λ o. RestoresBy o S x T r) (refusal_by x b c own same e f) h)

    restored_with : (changes : Vec VarChange Global) (b c : Bool) → S.closed ≡ b → nat_eq (length values) (length (free_places S.model)) ≡ c → Answers (Ok changes) b c →
        (restored_one at values m ≡ Ok (solver_seen T names w)) × Commits S moves T (Ok changes)
    restored_with changes false c e f h = let d : ◌≡◌ {A = Result (Vec VarChange Global) SolverFault} (Ok changes) (Err (faults.Run NotClosed)) = h.0 in cc
    restored_with changes true false e f h = let d : ◌≡◌ {A = Result (Vec VarChange Global) SolverFault} (Ok changes) (Err (faults.Run WrongSolver)) = h.0 in cc
    restored_with changes true true e f h = (restored_by true true e f ∙ moved_moves ∙ commits_ok S T names moves w nothing changes h, h)

    pub restored_ok : (changes : Vec VarChange Global) → Restores S x T (Ok changes) → (restored_one at values m ≡ Ok (solver_seen T names w)) × Commits S moves T (Ok changes)
    restored_ok changes h = restored_with changes S.closed (nat_eq (length values) (length (free_places S.model))) refl refl (answered (Ok changes) S.closed (nat_eq (length values) (length (free_places S.model))) refl refl h)

    refused_with : (fault : RunFault) (b c : Bool) → S.closed ≡ b → nat_eq (length values) (length (free_places S.model)) ≡ c → Answers (Err (faults.Run fault)) b c → restored_one at values m ≡ Err (Faulted at fault)
    refused_with fault false c e f h =
        let d : ◌≡◌ {A = Result (Vec VarChange Global) SolverFault} (Err (faults.Run fault)) (Err (faults.Run NotClosed)) = h.0 in
        let g : fault ≡ NotClosed = cc in
        restored_by false c e f ∙ ap (λ x. Err (Faulted at x)) (sym g)
    refused_with fault true false e f h =
        let d : ◌≡◌ {A = Result (Vec VarChange Global) SolverFault} (Err (faults.Run fault)) (Err (faults.Run WrongSolver)) = h.0 in
        let g : fault ≡ WrongSolver = cc in
        restored_by true false e f ∙ ap (λ x. Err (Faulted at x)) (sym g)
    refused_with fault true true e f h = absurd (never_refused fault h)
      where
        never_refused : (fault : RunFault) → Fails S moves T (faults.Run fault) → ⊥
        never_refused fault h = let d : commits.commit_refusal S moves ≡ None = never_refused_moves S x.values in let g = h.0 in cc

    pub restored_refused : (fault : RunFault) → Restores S x T (Err (faults.Run fault)) → restored_one at values m ≡ Err (Faulted at fault)
    restored_refused fault h = refused_with fault S.closed (nat_eq (length values) (length (free_places S.model))) refl refl (answered (Err (faults.Run fault)) S.closed (nat_eq (length values) (length (free_places S.model))) refl refl h)

    failed_with : (place : Place) (fault : RunFault) (b c : Bool) → S.closed ≡ b → nat_eq (length values) (length (free_places S.model)) ≡ c → Answers (Err (faults.At place fault)) b c → restored_one at values m ≡ Err (Faulted place fault)
    failed_with place fault false c e f h = let d : ◌≡◌ {A = Result (Vec VarChange Global) SolverFault} (Err (faults.At place fault)) (Err (faults.Run NotClosed)) = h.0 in cc
    failed_with place fault true false e f h = let d : ◌≡◌ {A = Result (Vec VarChange Global) SolverFault} (Err (faults.At place fault)) (Err (faults.Run WrongSolver)) = h.0 in cc
    failed_with place fault true true e f h = restored_by true true e f ∙ moved_moves ∙ commits_fault S T names moves w nothing place fault h

    pub restored_failed : (place : Place) (fault : RunFault) → Restores S x T (Err (faults.At place fault)) → restored_one at values m ≡ Err (Faulted place fault)
    restored_failed place fault h = failed_with place fault S.closed (nat_eq (length values) (length (free_places S.model))) refl refl (answered (Err (faults.At place fault)) S.closed (nat_eq (length values) (length (free_places S.model))) refl refl h)

-- ---- numbers that wait

overlaid_behind : (a : List ℤ) (ms : List (ℕ × ℤ)) (ws : List (Option ℤ)) → length ws ≡ length a → overlaid a (waiting_behind ms ws) ≡ meant.after_moves ms (overlaid a ws)
overlaid_behind a [] ws e = refl
overlaid_behind a (p ∷ ms) ws e =
    overlaid_behind a ms (set ws p.0 (Some p.1)) (length-set ws p.0 (Some p.1) ∙ e)
    ∙ ap (meant.after_moves ms) (overlaid_set a ws p.0 p.1 e)

pub waited_all : (S : solvers.SolverState) (names : List (List ℕ)) (w v : Option (List (Option ℤ))) (ms : List (ℕ × ℤ)) → v ≡ option_map (waiting_behind ms) w → is_some w ≡ true → length S.assignment ≡ length S.model.vars.items → AreWaiting S w →
    moved_one ms (solver_seen S names w) (solver_seen S names w).waiting ≡ Ok (solver_seen S names v)
waited_all S names None v ms e h long are = absurd (true≢false (sym h))
waited_all S names (Some ws) v ms e h long are =
    ap (λ (a : List ℤ). Ok (record (solver_seen S names None) { waiting = Some a })) (sym (overlaid_behind S.assignment ms ws (are.1 ∙ sym long)))
    ∙ ap (λ (u : Option (List (Option ℤ))). Ok (solver_seen S names u)) (sym e)

-- each is of a free variable
abbrev pub AllFree : solvers.SolverState → List ℕ → Type 0
AllFree S [] = Unit {0}
AllFree S (p ∷ ps) = (has_definition S.model p ≡ false) × AllFree S ps

free_filtered : (S : solvers.SolverState) (i n : ℕ) → AllFree S (filter (λ j. not (has_definition S.model j)) (range_with_len i n))
free_filtered S i zero = tt
free_filtered S i (suc n) = by (has_definition S.model i) refl (free_filtered S (i + 1) n)
  where
    by : (b : Bool) → has_definition S.model i ≡ b → AllFree S (filter (λ j. not (has_definition S.model j)) (range_with_len (i + 1) n)) →
        AllFree S (cond (not b) (i ∷ filter (λ j. not (has_definition S.model j)) (range_with_len (i + 1) n)) (filter (λ j. not (has_definition S.model j)) (range_with_len (i + 1) n)))
    by true e rest = rest
    by false e rest = (e, rest)

all_kept : (S : solvers.SolverState) (ps : List ℕ) (values : List ℤ) (ws : List (Option ℤ)) → AllFree S ps → AreWaiting S (Some ws) → AreWaiting S (Some (waiting_behind (zip ps values) ws))
all_kept S [] values ws free are = are
all_kept S (p ∷ ps) [] ws free are = are
all_kept S (p ∷ ps) (z ∷ values) ws free are = all_kept S ps values (set ws p (Some z)) free.1 (waiting_kept S ws p z free.0 are)

pub waiting_all : (S : solvers.SolverState) (w v : Option (List (Option ℤ))) (values : List ℤ) → v ≡ option_map (waiting_behind (zip (free_places S.model) values)) w → AreWaiting S w → AreWaiting S v
waiting_all S None v values e are = subst (AreWaiting S) (sym e) tt
waiting_all S (Some ws) v values e are = subst (AreWaiting S) (sym e) (all_kept S (free_places S.model) values ws (free_filtered S 0 (length S.model.vars.items)) are)

-- what waits is of a closed solver
pub waits_closed : (S : solvers.SolverState) (w : Option (List (Option ℤ))) → is_some w ≡ true → AreWaiting S w → S.closed ≡ true
waits_closed S None h are = absurd (true≢false (sym h))
waits_closed S (Some ws) h are = are.0

pub written_all : (w : Option (Vec (Option ℤ) Global)) (ms : List (ℕ × ℤ)) → option_map (λ u. waiting_behind ms u.items) w ≡ option_map (waiting_behind ms) (option_map (λ u. u.items) w)
written_all None ms = refl
written_all (Some u) ms = refl

-- ---- the loops

-- what is still to be filtered
pub filtered_more : (p : ℕ → Bool) (i n : ℕ) (so_far after : List ℕ) (all : List ℕ) → i < n → all ≡ so_far ++ filter p (range_with_len i (n - i)) → after ≡ cond (p i) (so_far ++ i ∷ []) so_far → all ≡ after ++ filter p (range_with_len (i + 1) (n - (i + 1)))
filtered_more p i n so_far after all lt e next =
    e ∙ ap (λ k. so_far ++ filter p (range_with_len i k)) (let z : n - i ≡ suc (n - (i + 1)) = omega (arith, lt) in z)
    ∙ by (p i) ∙ ap (λ xs. xs ++ filter p (range_with_len (i + 1) (n - (i + 1)))) (sym next)
  where
    by : (b : Bool) → so_far ++ cond b (i ∷ filter p (range_with_len (i + 1) (n - (i + 1)))) (filter p (range_with_len (i + 1) (n - (i + 1)))) ≡ cond b (so_far ++ i ∷ []) so_far ++ filter p (range_with_len (i + 1) (n - (i + 1)))
    by true = sym (append_assoc so_far (i ∷ []) (filter p (range_with_len (i + 1) (n - (i + 1)))))
    by false = refl

pub filtered_all : (p : ℕ → Bool) (i n : ℕ) (so_far all : List ℕ) → n ≤ i → all ≡ so_far ++ filter p (range_with_len i (n - i)) → so_far ≡ all
filtered_all p i n so_far all le e =
    sym (e ∙ ap (λ k. so_far ++ filter p (range_with_len i k)) (let z : n - i ≡ 0 = omega (arith, le) in z) ∙ append-nil so_far)

-- a variable that the solver has is defined exactly where it says so
pub defined_as : (S : solvers.SolverState) (x : VarId) (d : Bool) → x.solver ≡ S.number → x.index < length S.model.vars.items → d ≡ (is_own S x && has_definition S.model x.index) → d ≡ has_definition S.model x.index
defined_as S x d own lt e = e ∙ ap (λ b. b && has_definition S.model x.index) given
  where
    given : is_own S x ≡ true
    given = grind (arith, own, lt)

pub free_pushed : (so_far after : List ℕ) (i : ℕ) (d e : Bool) → d ≡ e → d ≡ false → after ≡ so_far ++ i ∷ [] → after ≡ cond (not e) (so_far ++ i ∷ []) so_far
free_pushed so_far after i d e same free is = is ∙ ap (λ b. cond (not b) (so_far ++ i ∷ []) so_far) (sym free ∙ same)

pub defined_left : (so_far after : List ℕ) (i : ℕ) (d e : Bool) → d ≡ e → d ≡ true → after ≡ so_far → after ≡ cond (not e) (so_far ++ i ∷ []) so_far
defined_left so_far after i d e same defined is = is ∙ ap (λ b. cond (not b) (so_far ++ i ∷ []) so_far) (sym defined ∙ same)

-- a solver that is closed keeps a solution
pub closed_of : (b : Bool) → (if not b then Some NotClosed else None) ≡ None → b ≡ true
closed_of true e = refl
closed_of false e = let d : ◌≡◌ {A = Option RunFault} (Some NotClosed) None = e in cc

pub keeps : (S : solvers.SolverState) (names : List (List ℕ)) (w : Option (List (Option ℤ))) (at : Place) (s : State) (x : Solution) → length S.assignment ≡ length S.model.vars.items → snapshot_refusal S ≡ None → x ≡ solution_of S →
    kept_numbers at (solver_seen S names w) s ≡ Went x.values s
keeps S names w at s x long e is =
    ap (λ b. (unless b at NotClosed >>= λ _. give (free_numbers (solver_seen S names w))) s) (closed_of S.closed e)
    ∙ ap (λ vs. Went vs s) (sym (kept_seen S names w long) ∙ sym (ap (λ (y : Solution). y.values) is))
