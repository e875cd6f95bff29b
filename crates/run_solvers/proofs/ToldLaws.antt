-- What a commit of a solver tells are the changes that the meaning of programs sees.
use Rattle.std.proofs.Common.{◌≡◌, ◌<◌, ℕ, ℤ, Bool, true, false, Vec, Global, List, [], ◌∷◌, Option, Some, None, Result, Ok, Err, length, length-set, get_or, set, map, filter_map, refl, sym, ap, ◌∙◌, subst}
use Rattle.std.specs.Prelude.{IfOk, OnOk, if◌then◌else◌}
use Rattle.std.specs.Option.{option_map}
use Rattle.std.specs.List.{cons_option, range_with_len}
use Rattle.std.proofs.lemmas.List.{get_or-map}
use Rattle.std.proofs.lemmas.Option.{slice_get-get_or}
use Rattle.term_model.proofs.VarLaws.{set_same}
use Rattle.std.specs.Ordering.{int_eq}
use Rattle.cbl_base.specs.declared.ids.VarId.{VarId}
use Rattle.cbl_base.specs.declared.input.Input.{Input}
use Rattle.cbl_base.specs.declared.input.Input.TheVariants as inputs
use Rattle.ls_events.specs.declared.change.VarChange.{VarChange}
use Rattle.ls_solver.specs.Committing as commits
use Rattle.ls_solver.specs.Committing.{Commits}
use Rattle.ls_solver.specs.Reading.{fresh_value}
use Rattle.ls_solver.specs.State as solvers
use Rattle.ls_solver.specs.OfSolverModels.Changes as solver_changes
use Rattle.comet_meaning.specs.Changes as meant
use Rattle.comet_meaning.specs.Changes.{Change, changes_between, changes_of}
use Rattle.comet_meaning.specs.Parts.{value_of, value_now}
use Rattle.comet_meaning.specs.Solvers.{SolverState, new_solver, variable_count}
use Rattle.comet_meaning.proofs.ChangeLaws.{nothing_changed}
use Rattle.run_values.specs.declared.stop.Stop.{Stop}
use Rattle.run_solvers.specs.Changing.{Made}
use Rattle.run_solvers.specs.Kept.{IsKept}
use Rattle.run_solvers.specs.Makes.{Makes, Moves, TriesToMove}
use Rattle.run_solvers.specs.Told.{told, all_told, Tells, TellsIn}
use Rattle.run_solvers.specs.Views.{held_seen, solver_seen}
use Rattle.run_solvers.specs.declared.held.Held.{Held}
use Rattle.run_solvers.proofs.SeenLaws.{count_seen, now_seen}

-- ---- one variable

module _ (k i : ℕ) where
  by_equal : (b : Bool) (old new : ℤ) →
      option_map (told k) (if b then None else Some (record { index = i; old = old; new = new }))
      ≡ (if b then None else Some (record { var = record { solver = k; index = i }; old = old; new = new }))
  by_equal true old new = refl
  by_equal false old new = refl

  told_between : (a b : Option Input) → option_map (told k) (meant.change_between i (value_of a) (value_of b)) ≡ solver_changes.change_between (record { solver = k; index = i }) a b
  told_between (Some (inputs.Int x)) (Some (inputs.Int y)) = by_equal (int_eq x y) x y
  told_between (Some (inputs.Int x)) (Some (inputs.Set t)) = refl
  told_between (Some (inputs.Int x)) None = refl
  told_between (Some (inputs.Set s)) b = refl
  told_between None b = refl

-- ---- all of them

map_cons : {B C : Type 0} (f : B → C) (o : Option B) (xs : List B) → map f (cons_option o xs) ≡ cons_option (option_map f o) (map f xs)
map_cons f (Some y) xs = refl
map_cons f None xs = refl

map_filtered : {A B C : Type 0} (f : B → C) (g : A → Option B) (h : A → Option C) (xs : List A) → ((x : A) → option_map f (g x) ≡ h x) → map f (filter_map g xs) ≡ filter_map h xs
map_filtered f g h [] e = refl
map_filtered f g h (x ∷ xs) e =
    map_cons f (g x) (filter_map g xs)
    ∙ ap (λ o. cons_option o (map f (filter_map g xs))) (e x)
    ∙ ap (λ ys. cons_option (h x) ys) (map_filtered f g h xs e)

module _ (S T : solvers.SolverState) (names : List (List ℕ)) (w v : Option (List (Option ℤ))) where
  abbrev m : SolverState
  m = solver_seen S names w

  abbrev n : SolverState
  n = solver_seen T names v

  one : (i : ℕ) → option_map (told S.number) (meant.change_between i (value_now m i) (value_now n i)) ≡ solver_changes.change_at S T i
  one i =
      ap (λ x. option_map (told S.number) (meant.change_between i x (value_now n i))) (now_seen S names w i)
      ∙ ap (λ y. option_map (told S.number) (meant.change_between i (value_of (fresh_value S i)) y)) (now_seen T names v i)
      ∙ told_between S.number i (fresh_value S i) (fresh_value T i)

  between : map (told S.number) (changes_between m n) ≡ solver_changes.changes_of S T
  between =
      map_filtered (told S.number) (λ x. meant.change_between x (value_now m x) (value_now n x)) (solver_changes.change_at S T) (range_with_len 0 (variable_count m)) one
      ∙ ap (λ c. filter_map (solver_changes.change_at S T) (range_with_len 0 c)) (count_seen S names w)

  closed_told : S.closed ≡ true → map (told S.number) (changes_of m n) ≡ solver_changes.changes_of S T
  closed_told e = ap (λ b. map (told S.number) (if b then changes_between m n else [])) e ∙ between

  open_told : S.closed ≡ false → map (told S.number) (changes_of m n) ≡ []
  open_told e = ap (λ b. map (told S.number) (if b then changes_between m n else [])) e

  by_closed : (b : Bool) → S.closed ≡ b → (changes : List VarChange) → commits.IsTold S T changes → changes ≡ map (told S.number) (changes_of m n)
  by_closed true e changes t = t.changes_ e ∙ sym (closed_told e)
  by_closed false e changes t = t.open_ e ∙ sym (open_told e)

  pub told_commit : (k : ℕ) → S.number ≡ k → (moves : List (VarId × ℤ)) (changes : Vec VarChange Global) → Commits S moves T (Ok changes) → changes.items ≡ all_told k m n
  told_commit k number moves changes c = by_closed S.closed refl changes.items c.2 ∙ ap (λ j. map (told j) (changes_of m n)) number

-- ---- where nothing changes

pub nothing_told : (k : ℕ) (m n : SolverState) (changes : Vec VarChange Global) → n.model ≡ m.model → n.assignment ≡ m.assignment → n.rules ≡ m.rules → changes.items ≡ [] → changes.items ≡ all_told k m n
nothing_told k m n changes p q r none = none ∙ sym (ap (map (told k)) (nothing_changed m n p q r))

-- ---- a change that was made, or that was broken off

pub finished_moves : {N : Type 0} (old mid new : Held N) (made result : Result (Vec VarChange Global) Stop) (meant : Made) → TriesToMove old mid made meant → result ≡ made → IsKept new → new.number ≡ mid.number → OnOk made (new ≡ mid) → Moves old new result meant
finished_moves {N = N} old mid new (Ok x) result meant tried same kept number unchanged = record {
  meant = subst (λ r. Makes (held_seen new) r meant) (sym same) (subst (λ (h : Held N). meant ≡ Ok (held_seen h)) (sym unchanged) tried.meant);
  kept = kept;
  number = number ∙ tried.number;
  told = subst (λ r. IfOk r (λ changes. changes.items ≡ all_told old.number (held_seen old) (held_seen new))) (sym same) (subst (λ (h : Held N). x.items ≡ all_told old.number (held_seen old) (held_seen h)) (sym unchanged) tried.told);
}
finished_moves old mid new (Err stop) result meant tried same kept number unchanged = record {
  meant = subst (λ r. Makes (held_seen new) r meant) (sym same) tried.meant;
  kept = kept;
  number = number ∙ tried.number;
  told = subst (λ r. IfOk r (λ changes. changes.items ≡ all_told old.number (held_seen old) (held_seen new))) (sym same) tt;
}

-- ---- the solver with a number

there_now : {N : Type 0} (held : List (Held N)) (k : ℕ) (new : Held N) → k < length held → get_or (set held k new) k new ≡ new
there_now held k new lt =
    let e : Some (get_or (set held k new) k new) ≡ Some new = sym (slice_get-get_or (set held k new) k new (subst (λ n. k < n) (sym (length-set held k new)) lt)) ∙ set_same held k new lt in
    cc

pub tells_there : {N : Type 0} (held : List (Held N)) (k : ℕ) (h new : Held N) (result : Result (Vec VarChange Global) Stop) → h.number ≡ k → k < length held → h ≡ get_or held k h → Tells h.number (held_seen h) (held_seen new) result →
    TellsIn k (map held_seen held) (map held_seen (set held k new)) result
tells_there held k h new result number lt there tells =
    subst (λ (m : SolverState). Tells k m (get_or (map held_seen (set held k new)) k new_solver) result) (sym (get_or-map held_seen held k h new_solver lt ∙ ap held_seen (sym there)))
    (subst (λ (n : SolverState). Tells k (held_seen h) n result) (sym (get_or-map held_seen (set held k new) k new new_solver (subst (λ n. k < n) (sym (length-set held k new)) lt) ∙ ap held_seen (there_now held k new lt)))
    (subst (λ j. Tells j (held_seen h) (held_seen new) result) number tells))
