-- Solvers by their numbers: what is done to one that is there is done to the state, and one that isn't there has no
-- variables.
use Rattle.std.proofs.Common.{◌≡◌, ℕ, zero, suc, ◌<◌, ◌≤◌, ℤ, Bool, true, false, not, ◌&&◌, ◌||◌, List, [], ◌∷◌, ◌++◌, Option, Some, None, Result, Ok, Err, IfOk, ◌⊎◌, inl, inr, length, get_or, set, map, zip, refl, sym, ap, ◌∙◌, subst, arith, rules, slice_get, nat_eq}
use Rattle.std.specs.Prelude.{IfErr, OnOk, is_some, nat_lt, if◌then◌else◌}
use Rattle.std.proofs.lemmas.List.{get_or-map, get_or_past, length-map, map-set}
use Rattle.std.proofs.lemmas.Option.{slice_get-get_or}
use Rattle.cbl_base.proofs.PlaceLemmas.{others_stay}
use native.Mathlib.Decide.{ℕ_discrete}
use Rattle.cbl_base.specs.declared.ids.VarId.{VarId}
use Rattle.cbl_base.specs.declared.place.Place.{Place}
use Rattle.cbl_base.specs.declared.faults.Limit.TheVariants.{TermNodes}
use Rattle.cbl_base.specs.declared.faults.RunFault.TheVariants.{AlreadyClosed, DefinedVariable, NotClosed, TooMany, WrongSolver}
use Rattle.model_view.specs.Building.{empty_model}
use Rattle.model_view.specs.Variables.{all_variables}
use Rattle.model_view.proofs.PlainSubterms.{map_append}
use Rattle.model_values.specs.Fresh.{Fresh}
use Rattle.model_values.specs.declared.failure.Failure.{Failure}
use Rattle.term_model.specs.Wellformed.{HasDefinedSets}
use Rattle.term_model.specs.declared.model.Model.{Model}
use Rattle.term_model.specs.declared.model.VarDecl.{VarDecl}
use Rattle.term_model.specs.declared.model.VarKind.{VarKind}
use Rattle.term_model.specs.declared.model.VarKind.TheVariants.{Number}
use Rattle.term_model.specs.declared.term.Term.{Term}
use Rattle.term_model.proofs.VarLaws.{set_same}
use Rattle.comet_meaning.specs.Values.{Value, Solver}
use Rattle.comet_meaning.specs.Solvers.{SolverState, new_solver, has_variable, is_defined, fresh_values, variable_count}
use Rattle.comet_meaning.specs.State.{State, left}
use Rattle.comet_meaning.specs.Outcome.{Went, Halted, Faulted, SpentAt, Cyclic, Act, ◌>>=◌, fault, give}
use Rattle.comet_meaning.specs.Parts.{solver_at, variable_value}
use Rattle.comet_meaning.specs.Solutions.{free_variables}
use Rattle.run_solvers.specs.Solutions.{restored_one}
use Rattle.comet_meaning.specs.Limits.{most_variables}
use Rattle.comet_meaning.specs.Models.{owns, exchanged, term_for, has_room, defined_by, make_solver, put_solver, domain_at}
use Rattle.comet_meaning.specs.Variables.{Beginning, free, defined, next_variable, first_number, with_variable}
use Rattle.run_values.specs.Did.{Did, Stopped, IsFaultOrMemory}
use Rattle.run_values.specs.declared.stop.Stop.{Stop}
use Rattle.run_values.specs.declared.stop.Stop.TheVariants as stops
use Rattle.run_values.specs.declared.stop.Stop.TheVariants.{Fault, Spent, NoMemory, Output}
use Rattle.run_solvers.specs.Changing.{Made, by_values, evaluated, moved_one, assigned_one, swapped_one, defined_one, begun_one, added_one, committed_one, opened_one, changed, changed_where, refused, waiting_now}
use Rattle.run_solvers.specs.Kept.{AreKept, HasDefinedOthers, IsKept, IsWholeHeld}
use Rattle.run_solvers.specs.Makes.{Changes, Ends, Makes, Tries, made_or}
use Rattle.run_solvers.specs.Opening.{opened, opening}
use Rattle.run_solvers.specs.Stopping.{IsEndOrMemory}
use Rattle.run_solvers.specs.Views.{held_seen}
use Rattle.run_solvers.specs.declared.held.Held.{Held}
use Rattle.run_solvers.proofs.Acts.{tested}

-- ---- a change that was made, or that was broken off
pub finished : {N X : Type 0} (old mid new : Held N) (made result : Result X Stop) (meant : Made) → Tries old mid made meant → result ≡ made → IsKept new → new.number ≡ mid.number → OnOk made (new ≡ mid) → Changes old new result meant
finished {N = N} old mid new (Ok x) result meant tried same kept number unchanged = record {
  meant = subst (λ r. Makes (held_seen new) r meant) (sym same) (subst (λ (h : Held N). meant ≡ Ok (held_seen h)) (sym unchanged) tried.meant);
  kept = kept;
  number = number ∙ tried.number;
}
finished old mid new (Err stop) result meant tried same kept number unchanged = record {
  meant = subst (λ r. Makes (held_seen new) r meant) (sym same) tried.meant;
  kept = kept;
  number = number ∙ tried.number;
}

-- a definition leaves a solver that is kept, where all sets had theirs
pub others_of : (M : Model) (x : ℕ) → HasDefinedSets M → HasDefinedOthers M x
others_of M x sets i lt none = inr (sets i lt none)

pub kept_from : {N X : Type 0} (r : Result X Stop) (h : Held N) (M : Model) (x : ℕ) → OnOk r (IsWholeHeld h) → OnOk r (HasDefinedOthers M x → HasDefinedSets h.solver.model) → HasDefinedOthers M x → OnOk r (IsKept h)
kept_from (Ok y) h M x whole sets others = (whole, sets others)
kept_from (Err stop) h M x whole sets others = tt

-- and so does a new number
pub numbers_kept : {N X : Type 0} (r : Result X Stop) (h : Held N) (kind : VarKind) → OnOk r (IsWholeHeld h) → OnOk r (kind ≡ Number → HasDefinedSets h.solver.model) → kind ≡ Number → OnOk r (IsKept h)
numbers_kept (Ok y) h kind whole sets number = (whole, sets number)
numbers_kept (Err stop) h kind whole sets number = tt

-- ---- solvers that are kept

pub none_kept : {N : Type 0} → AreKept {N = N} []
none_kept = record { numbered = λ k h at. let c : None ≡ Some h = at in cc; kept = λ k h at. let c : None ≡ Some h = at in cc }

module _ {N : Type 0} (held : List (Held N)) (are : AreKept held) (k : ℕ) (new : Held N) where
  abbrev HasRules : ℕ → Held N → Type 0
  HasRules j h = (h.number ≡ j) × IsKept h

  pub changed_kept : k < length held → new.number ≡ k → IsKept new → AreKept (set held k new)
  changed_kept lt number kept = record { numbered = λ j h at. (rules_at j h at (ℕ_discrete j k)).0; kept = λ j h at. (rules_at j h at (ℕ_discrete j k)).1 }
    where
      rules_at : (j : ℕ) (h : Held N) → slice_get (set held k new) j ≡ Some h → Dec (j ≡ k) → HasRules j h
      rules_at j h at (yes e) =
          let there : Some new ≡ Some h = sym (set_same held k new lt) ∙ ap (slice_get (set held k new)) (sym e) ∙ at in
          let same : new ≡ h = cc in
          subst (HasRules j) same (number ∙ sym e, kept)
      rules_at j h at (no ne) =
          let old : slice_get held j ≡ Some h = sym (others_stay held k j new ne) ∙ at in
          (are.numbered j h old, are.kept j h old)

  front : (xs : List (Held N)) (j : ℕ) (h : Held N) → slice_get (xs ++ new ∷ []) j ≡ Some h → (slice_get xs j ≡ Some h) ⊎ ((j ≡ length xs) × (new ≡ h))
  front [] zero h at = inr (refl, cc)
  front [] (suc j) h at = let c : None ≡ Some h = at in cc
  front (x ∷ xs) zero h at = inl at
  front (x ∷ xs) (suc j) h at = next (front xs j h at)
    where
      next : (slice_get xs j ≡ Some h) ⊎ ((j ≡ length xs) × (new ≡ h)) → (slice_get xs j ≡ Some h) ⊎ ((suc j ≡ suc (length xs)) × (new ≡ h))
      next (inl e) = inl e
      next (inr e) = inr (ap suc e.0, e.1)

  pub pushed_kept : new.number ≡ length held → IsKept new → AreKept (held ++ new ∷ [])
  pushed_kept number kept = record { numbered = λ j h at. (rules_at j h (front held j h at)).0; kept = λ j h at. (rules_at j h (front held j h at)).1 }
    where
      rules_at : (j : ℕ) (h : Held N) → (slice_get held j ≡ Some h) ⊎ ((j ≡ length held) × (new ≡ h)) → HasRules j h
      rules_at j h (inl old) = (are.numbered j h old, are.kept j h old)
      rules_at j h (inr e) = subst (HasRules j) e.1 (number ∙ sym e.0, kept)

pub kept_there : {N : Type 0} (held : List (Held N)) (k : ℕ) (h : Held N) → AreKept held → k < length held → h ≡ get_or held k h → (h.number ≡ k) × IsKept h
kept_there held k h are lt there =
    let at : slice_get held k ≡ Some h = slice_get-get_or held k h lt ∙ ap Some (sym there) in
    (are.numbered k h at, are.kept k h at)

-- ---- by their numbers

pub found : {N : Type 0} (held : List (Held N)) (k : ℕ) (h : Held N) (s : State) → s.solvers ≡ map held_seen held → k < length held → h ≡ get_or held k h → solver_at s k ≡ held_seen h
found held k h s is lt there = ap (λ (ms : List SolverState). get_or ms k new_solver) is ∙ get_or-map held_seen held k h new_solver lt ∙ ap held_seen (sym there)

pub not_found : {N : Type 0} (held : List (Held N)) (k : ℕ) (s : State) → s.solvers ≡ map held_seen held → length held ≤ k → solver_at s k ≡ new_solver
not_found held k s is le = ap (λ (ms : List SolverState). get_or ms k new_solver) is ∙ get_or_past (map held_seen held) k new_solver (omega (arith, le, length-map held held_seen))

-- one solver more
pub made_solver : {N : Type 0} (s : State) (held : List (Held N)) (new : Held N) → s.solvers ≡ map held_seen held → held_seen new ≡ new_solver → make_solver s ≡ Went (Solver (length held)) (record s { solvers = map held_seen (held ++ new ∷ []) })
unfolding make_solver
made_solver s held new is seen =
    ap (λ (ms : List SolverState). Went (Solver (length ms)) (record s { solvers = ms ++ new_solver ∷ [] })) is
    ∙ ap (λ (n : ℕ). Went (Solver n) (record s { solvers = map held_seen held ++ new_solver ∷ [] })) (length-map held held_seen)
    ∙ ap (λ (ms : List SolverState). Went (Solver (length held)) (record s { solvers = ms })) (ap (λ (m : SolverState). map held_seen held ++ m ∷ []) (sym seen) ∙ sym (map_append held_seen held (new ∷ [])))

-- what is made of one solver is made in the state

stopped : {A : Type 0} (stop : Stop) (x : A) (k : ℕ) (s : State) (ms : List SolverState) (meant : Made) → Ends stop meant → Stopped stop (record s { solvers = ms }) (changed x k meant s)
stopped (Fault place f) x k s ms meant h = ap (λ (made : Made). changed x k made s) h
stopped (Spent place) x k s ms meant h = absurd h
stopped (stops.Cyclic place names) x k s ms meant h = ap (λ (made : Made). changed x k made s) h
stopped NoMemory x k s ms meant h = tt
stopped (Output stop) x k s ms meant h = absurd h

pub does : {N X A : Type 0} (view : X → A) (x : A) (k : ℕ) (s : State) (held : List (Held N)) (new : Held N) (r : Result X Stop) (meant : Made) →
    s.solvers ≡ map held_seen held → IfOk r (λ y. view y ≡ x) → Makes (held_seen new) r meant → Did view r (record s { solvers = map held_seen (set held k new) }) (changed x k meant s)
does view x k s held new (Ok y) meant is same h =
    ap (λ (made : Made). changed x k made s) h
    ∙ ap (λ z. Went z (record s { solvers = set s.solvers k (held_seen new) })) (sym same)
    ∙ ap (λ (ms : List SolverState). Went (view y) (record s { solvers = ms })) (ap (λ (ms : List SolverState). set ms k (held_seen new)) is ∙ sym (map-set held_seen held k new))
does view x k s held new (Err stop) meant is same h = stopped stop x k s (map held_seen (set held k new)) meant h

constant : {X A : Type 0} (x : A) (r : Result X Stop) → IfOk r (λ y. x ≡ x)
constant x (Ok y) = refl
constant x (Err stop) = tt

-- the same where what is answered is always one
pub does_so : {N X A : Type 0} (x : A) (k : ℕ) (s : State) (held : List (Held N)) (new : Held N) (r : Result X Stop) (meant : Made) →
    s.solvers ≡ map held_seen held → Makes (held_seen new) r meant → Did (λ y. x) r (record s { solvers = map held_seen (set held k new) }) (changed x k meant s)
does_so x k s held new r meant is h = does (λ y. x) x k s held new r meant is (constant x r) h

-- ---- why it stops

pub ends_so : (stop : Stop) (meant : Made) → Ends stop meant → IsEndOrMemory stop
ends_so (Fault place f) meant h = tt
ends_so (Spent place) meant h = h
ends_so (stops.Cyclic place names) meant h = tt
ends_so NoMemory meant h = tt
ends_so (Output stop) meant h = h

pub makes_so : {X : Type 0} (m : SolverState) (r : Result X Stop) (meant : Made) → Makes m r meant → IfErr r IsEndOrMemory
makes_so m (Ok x) meant h = tt
makes_so m (Err stop) meant h = ends_so stop meant h

-- what is made without a cycle
abbrev pub IsNoCycle : Made → Type 0
IsNoCycle (Ok m) = Unit {0}
IsNoCycle (Err (Faulted place f)) = Unit {0}
IsNoCycle (Err (SpentAt place)) = ⊥
IsNoCycle (Err (Cyclic place names)) = ⊥

faults_so : (stop : Stop) (meant : Made) → IsNoCycle meant → Ends stop meant → IsFaultOrMemory stop
faults_so (Fault place f) meant none h = tt
faults_so (Spent place) meant none h = h
faults_so (stops.Cyclic place names) meant none h = subst IsNoCycle h none
faults_so NoMemory meant none h = tt
faults_so (Output stop) meant none h = h

pub no_cycle_so : {X : Type 0} (m : SolverState) (r : Result X Stop) (meant : Made) → IsNoCycle meant → Makes m r meant → IfErr r IsFaultOrMemory
no_cycle_so m (Ok x) meant none h = tt
no_cycle_so m (Err stop) meant none h = faults_so stop meant none h

pub either : (b : Bool) (made other : Made) → IsNoCycle made → IsNoCycle other → IsNoCycle (if b then made else other)
either true made other h k = h
either false made other h k = k

values_none : (m : SolverState) (r : Result Fresh Failure) → IsNoCycle (by_values m r)
values_none m (Ok fresh) = tt
values_none m (Err failure) = tt

evaluated_none : (m : SolverState) → IsNoCycle (evaluated m)
evaluated_none m = either m.closed (by_values m (fresh_values m)) (Ok m) (values_none m (fresh_values m)) tt

moved_none : (moves : List (ℕ × ℤ)) (m : SolverState) (w : Option (List ℤ)) → IsNoCycle (moved_one moves m w)
moved_none moves m None = evaluated_none _
moved_none moves m (Some a) = tt

pub assigned_none : (at : Place) (x : VarId) (z : ℤ) (m : SolverState) → IsNoCycle (assigned_one at x z m)
assigned_none at x z m = either (owns x.solver m x) _ _ (either (is_defined m x.index) _ _ tt (moved_none ((x.index, z) ∷ []) m m.waiting)) tt

pub restored_none : (at : Place) (values : List ℤ) (m : SolverState) → IsNoCycle (restored_one at values m)
restored_none at values m = either m.closed _ _ (either (nat_eq (length values) (length (free_variables m))) _ _ (moved_none (zip (free_variables m) values) m m.waiting) tt) tt

pub swapped_none : (at : Place) (x y : VarId) (m : SolverState) → IsNoCycle (swapped_one at x y m)
swapped_none at x y m = either (owns x.solver m x && owns x.solver m y) _ _ (either (is_defined m x.index || is_defined m y.index) _ _ tt (moved_none (exchanged m x.index y.index) m m.waiting)) tt

asked_none : (shut own had room : Bool) (at : Place) (m : SolverState) →
    IsNoCycle (if shut then refused at AlreadyClosed else (if own then (if had then refused at DefinedVariable else (if room then Ok m else refused at (TooMany TermNodes))) else refused at WrongSolver))
asked_none true own had room at m = tt
asked_none false true true room at m = tt
asked_none false true false true at m = tt
asked_none false true false false at m = tt
asked_none false false had room at m = tt

pub defined_none : (at : Place) (x : VarId) (t : Term) (m : SolverState) → IsNoCycle (defined_one at x t m)
defined_none at x t m = asked_none m.closed (owns x.solver m x && all_variables (owns x.solver m) t) (is_defined m x.index) (has_room m (term_for m x.index t)) at (defined_by m x t)

begun_none : (at : Place) (x : VarId) (b : Beginning) (m : SolverState) → IsNoCycle (begun_one at x b m)
begun_none at x (free z) m = tt
begun_none at x (defined t) m = defined_none at x t m

pub added_none : (at : Place) (k : ℕ) (d : VarDecl) (name : List ℕ) (b : Beginning) (m : SolverState) → IsNoCycle (added_one at k d name b m)
added_none at k d name b m = either m.closed _ _ tt (either (nat_lt (variable_count m) most_variables) _ _ (begun_none at (next_variable k m) b (with_variable m d name (first_number b))) tt)

pub opened_none : (at : Place) (m : SolverState) → IsNoCycle (opened_one at m)
opened_none at m = either m.closed _ _ tt tt

pub committed_none : (m : SolverState) (w : Option (List ℤ)) → IsNoCycle (made_or m (committed_one m w))
committed_none m None = tt
committed_none m (Some a) = evaluated_none _

-- ---- one that isn't there

neither_there : (b c : Bool) → c ≡ false → (b && c) ≡ false
neither_there true c e = e
neither_there false c e = refl

unowned : (x : VarId) → owns x.solver new_solver x ≡ false
unfolding empty_model
unowned x = neither_there (nat_eq x.solver x.solver) (has_variable new_solver x.index) (search (rules, arith))

pub assigned_nowhere : (at : Place) (x : VarId) (z : ℤ) (m : SolverState) → m ≡ new_solver → assigned_one at x z m ≡ refused at WrongSolver
assigned_nowhere at x z m e = rw (e, unowned x) refl

pub swapped_nowhere : (at : Place) (x y : VarId) (m : SolverState) → m ≡ new_solver → swapped_one at x y m ≡ refused at WrongSolver
swapped_nowhere at x y m e = rw (e, unowned x) refl

pub defined_nowhere : (at : Place) (x : VarId) (t : Term) (m : SolverState) → m ≡ new_solver → defined_one at x t m ≡ refused at WrongSolver
defined_nowhere at x t m e = rw (e, unowned x) refl

pub reads_nothing : (at : Place) (x : ℕ) (m : SolverState) (s : State) → m ≡ new_solver → variable_value at x m s ≡ Halted (Faulted at WrongSolver) (left s)
unfolding variable_value empty_model
reads_nothing at x m s none = rw none (outside _ (has_variable new_solver x) (search (rules, arith))) where
  outside : (a : Act Value) (b : Bool) → b ≡ false → (if b then a else fault at WrongSolver) s ≡ Halted (Faulted at WrongSolver) (left s)
  outside a b e = rw e refl

pub domain_nowhere : (at : Place) (x : VarId) (m : SolverState) (s : State) → m ≡ new_solver → domain_at at x m s ≡ Halted (Faulted at WrongSolver) (left s)
unfolding domain_at
domain_nowhere at x m s none = rw (none, unowned x) refl

-- ---- the beginning of a `with` changes one solver, or leaves it as it is, and so does its end

-- a solver that is put back in its place
same_place : (ms : List SolverState) (k : ℕ) (m : SolverState) → set ms k (get_or ms k m) ≡ ms
same_place [] k m = refl
same_place (n ∷ ms) zero m = refl
same_place (n ∷ ms) (suc k) m = ap (λ (rest : List SolverState). n ∷ rest) (same_place ms k m)

put_back : {A : Type 0} (x : A) (k : ℕ) (s : State) → changed x k (Ok (solver_at s k)) s ≡ Went x s
put_back x k s = ap (λ (ms : List SolverState). Went x (record s { solvers = ms })) (same_place s.solvers k new_solver)

pub opens : (at : Place) (k : ℕ) (s : State) → opened at k s ≡ changed (not (is_some (solver_at s k).waiting)) k (opened_one at (solver_at s k)) s
opens at k s =
    tested (solver_at s k).closed at NotClosed (not (is_some (solver_at s k).waiting)) k (λ u. opening k (solver_at s k)) (Ok (record (solver_at s k) { waiting = waiting_now (solver_at s k) })) s (inner (solver_at s k).waiting refl)
  where
    inner : (w : Option (List ℤ)) → (solver_at s k).waiting ≡ w →
        (if is_some w then give false else (put_solver k (record (solver_at s k) { waiting = Some (solver_at s k).assignment }) >>= λ u. give true)) s
        ≡ changed (not (is_some w)) k (Ok (record (solver_at s k) { waiting = if is_some w then w else Some (solver_at s k).assignment })) s
    inner None e = refl
    inner (Some a) e = sym (put_back false k s) ∙ ap (λ (v : Option (List ℤ)). changed false k (Ok (record (solver_at s k) { waiting = v })) s) e

pub commits_or : (k : ℕ) (s : State) (made : Option Made) → changed_where k made s ≡ changed tt k (made_or (solver_at s k) made) s
commits_or k s None = sym (put_back tt k s)
commits_or k s (Some made) = refl
