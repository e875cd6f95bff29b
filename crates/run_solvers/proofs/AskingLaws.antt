-- What is asked about a solver's systems and objectives is what the meaning of programs asks.
use Rattle.std.proofs.Common.{◌≡◌, ℕ, ℤ, pos, Bool, true, false, ◌&&◌, List, [], ◌∷◌, Option, Some, None, Result, Ok, refl, sym, ap, ◌∙◌, subst}
use Rattle.std.specs.Prelude.{not, if◌then◌else◌}
use Rattle.std.specs.List.{list_all}
use Rattle.std.proofs.Math.Path.{fun_ext}
use Rattle.cbl_base.specs.declared.faults.RunFault.{RunFault}
use Rattle.cbl_base.specs.declared.faults.RunFault.TheVariants.{NotClosed, WrongSolver}
use Rattle.cbl_base.specs.declared.ids.VarId.{VarId}
use Rattle.cbl_base.specs.declared.place.Place.{Place}
use Rattle.ls_solver.specs.Answers.{IsOnlyRefusal}
use Rattle.ls_solver.specs.Ids.{is_own}
use Rattle.ls_solver.specs.Replying.{delta_reply, fresh_total, read_refusal, replied, reply_refusal, variable_reply}
use Rattle.ls_solver.specs.State as solvers
use Rattle.ls_solver.specs.Totals.{is_own_total, whole_of}
use Rattle.ls_solver.specs.declared.fault.SolverFault.{SolverFault}
use Rattle.ls_solver.specs.declared.fault.SolverFault.TheVariants as faults
use Rattle.ls_solver.specs.OfSolverModels.declared.totals.SystemId.{SystemId}
use Rattle.ls_solver.specs.OfSolverModels.declared.totals.TotalId.{TotalId}
use Rattle.posted_users.specs.KeptRule.{users_of}
use Rattle.term_model.specs.declared.posting.Side.TheVariants.{Systems, Objectives}
use Rattle.model_values.specs.Delta.{value_of}
use Rattle.model_values.specs.Fresh.{whole_by}
use Rattle.model_values.specs.declared.asked.AskStop.{AskStop}
use Rattle.model_values.specs.declared.deltas.Move.{Move}
use Rattle.model_values.specs.declared.failure.Failure.{Failure}
use Rattle.model_values.specs.declared.wholes.Whole.{Whole}
use Rattle.ls_solver.specs.OfViolationShares.VariableViolations as shares
use Rattle.total_view.proofs.PlainShares.{same_variable_violations}
use Rattle.total_view.proofs.PlainTotals.{same_delta, same_value_of}
use Rattle.comet_meaning.specs.Models.{owns}
use Rattle.comet_meaning.specs.Outcome.{Act, Faulted, Halted, Went, ◌>>=◌, give, give_or_met, unless}
use Rattle.comet_meaning.specs.Solvers.{SolverState}
use Rattle.comet_meaning.specs.State.{State, left}
use Rattle.comet_meaning.specs.Systems.{asking, delta_answer, give_asked, has_whole, of_whole, valuing, violations_answer}
use Rattle.comet_meaning.specs.Values as values
use Rattle.run_values.specs.Did.{Stopped}
use Rattle.run_values.specs.declared.stop.Stop.{Stop}
use Rattle.run_solvers.specs.Refusals.{StopsAs}
use Rattle.run_solvers.specs.Totals.{total_in}
use Rattle.run_solvers.specs.Views.{solver_seen}
use Rattle.run_solvers.proofs.SeenLaws.{owns_seen}
use Rattle.run_solvers.proofs.TotalLaws.{has_seen}

-- ---- which system or objective

abbrev pub done_with : (ℕ → Whole → Act values.Value) → Option TotalId → Act values.Value
done_with f None = give values.Nothing
done_with f (Some k) = f k.solver (whole_of k)

pub whole_done : (f : ℕ → Whole → Act values.Value) (v : values.Value) (s : State) → of_whole f v s ≡ done_with f (total_in v) s
whole_done f (values.System k i) s = refl
whole_done f (values.Objective k i) s = refl
whole_done f values.Nothing s = refl
whole_done f (values.Number z) s = refl
whole_done f (values.Truth b) s = refl
whole_done f (values.Range b) s = refl
whole_done f (values.Set xs) s = refl
whole_done f (values.Array n) s = refl
whole_done f (values.Row xs) s = refl
whole_done f (values.Variable x) s = refl
whole_done f (values.Variables n) s = refl
whole_done f (values.Solver n) s = refl
whole_done f (values.Input n) s = refl
whole_done f (values.Distribution b) s = refl
whole_done f (values.Selector n) s = refl
whole_done f (values.Move n) s = refl
whole_done f (values.Solution n) s = refl

pub done_so : (f : ℕ → Whole → Act values.Value) (v : values.Value) (o : Option TotalId) (s : State) → o ≡ total_in v → of_whole f v s ≡ done_with f o s
done_so f v o s e = whole_done f v s ∙ ap (λ p. done_with f p s) (sym e)

-- ---- questions about variables

abbrev refusal_by : Bool → Bool → Option RunFault
refusal_by b c = if not b then Some NotClosed else (if not c then Some WrongSolver else None)

asked_by : (at : Place) (b c : Bool) (answer : Result ℤ AskStop) (s : State) → (unless b at NotClosed >>= λ _. unless c at WrongSolver >>= λ _. give_asked at answer) s ≡ give_asked at (replied (refusal_by b c) answer) s
asked_by at true true answer s = refl
asked_by at true false answer s = refl
asked_by at false c answer s = refl

and_true : (b : Bool) → (b && true) ≡ b
and_true true = refl
and_true false = refl

module _ (S : solvers.SolverState) (names : List (List ℕ)) (waiting : Option (List (Option ℤ))) (at : Place) (k : TotalId) (own : k.solver ≡ S.number) (s : State) where
  abbrev m : SolverState
  m = solver_seen S names waiting

  all_seen : (xs : List VarId) → (has_whole m (whole_of k) && list_all (owns k.solver m) xs) ≡ (is_own_total S k && list_all (is_own S) xs)
  all_seen xs =
      ap (λ b. b && list_all (owns k.solver m) xs) (has_seen S names waiting k own)
      ∙ ap (λ (p : VarId → Bool). is_own_total S k && list_all p xs) (fun_ext (λ x. owns_seen S names waiting k.solver x own))

  asked_seen : (xs : List VarId) (answer : Result ℤ AskStop) → asking at k.solver (whole_of k) xs answer m s ≡ give_asked at (replied (reply_refusal S k xs) answer) s
  unfolding asking
  asked_seen xs answer =
      ap (λ b. (unless S.closed at NotClosed >>= λ _. unless b at WrongSolver >>= λ _. give_asked at answer) s) (all_seen xs)
      ∙ asked_by at S.closed (is_own_total S k && list_all (is_own S) xs) answer s

  pub asks_delta : (xs : List VarId) (move : Move) → asking at k.solver (whole_of k) xs (delta_answer m (whole_of k) move) m s ≡ give_asked at (delta_reply S k xs move) s
  asks_delta xs move =
      asked_seen xs (delta_answer m (whole_of k) move) ∙ ap (λ answer. give_asked at (replied (reply_refusal S k xs) answer) s) (same_delta (users_of S.rules) S.model S.assignment (whole_of k) move)

  -- of a system

  abbrev system : SystemId
  system = record { solver = k.solver; index = k.index }

  system_answer : (x : VarId) → k.side ≡ Systems → violations_answer m (whole_of k) x ≡ violations_answer m (whole_by Systems k.index) x
  system_answer x e = ap (λ side. violations_answer m (whole_by side k.index) x) e

  system_refusal : (xs : List VarId) → k.side ≡ Systems → reply_refusal S k xs ≡ reply_refusal S (record { side = Systems; solver = k.solver; index = k.index }) xs
  system_refusal xs e = ap (λ side. reply_refusal S (record { side = side; solver = k.solver; index = k.index }) xs) e

  pub asks_violations : (x : VarId) → k.side ≡ Systems → asking at k.solver (whole_of k) (x ∷ []) (violations_answer m (whole_of k) x) m s ≡ give_asked at (variable_reply S system x) s
  asks_violations x e =
      asked_seen (x ∷ []) (violations_answer m (whole_of k) x)
      ∙ ap (λ answer. give_asked at (replied (reply_refusal S k (x ∷ [])) answer) s) (system_answer x e ∙ same_variable_violations (users_of S.rules) S.model S.assignment k.index x.index)
      ∙ ap (λ refusal. give_asked at (replied refusal (variable_violations)) s) (system_refusal (x ∷ []) e)
    where
      variable_violations : Result ℤ AskStop
      variable_violations = shares.variable_violations_of (users_of S.rules) S.model S.assignment k.index x.index

  -- of an objective

  no_violations : (x : VarId) (b c : Bool) → k.side ≡ Objectives → S.closed ≡ b → (is_own_total S k && is_own S x) ≡ c →
      asking at k.solver (whole_of k) (x ∷ []) (violations_answer m (whole_of k) x) m s ≡ give_asked at (replied (refusal_by b c) (Ok (pos 0))) s
  no_violations x b c e shut owned =
      asked_seen (x ∷ []) (violations_answer m (whole_of k) x)
      ∙ ap (λ side. give_asked at (replied (reply_refusal S k (x ∷ [])) (violations_answer m (whole_by side k.index) x)) s) e
      ∙ ap (λ d. give_asked at (replied (refusal_by d (is_own_total S k && (is_own S x && true))) (Ok (pos 0))) s) shut
      ∙ ap (λ d. give_asked at (replied (refusal_by b d) (Ok (pos 0))) s) (ap (λ d. is_own_total S k && d) (and_true (is_own S x)) ∙ owned)

  pub unasked_open : (x : VarId) → k.side ≡ Objectives → S.closed ≡ false → asking at k.solver (whole_of k) (x ∷ []) (violations_answer m (whole_of k) x) m s ≡ Halted (Faulted at NotClosed) (left s)
  unasked_open x e shut = no_violations x false (is_own_total S k && is_own S x) e shut refl

  pub unasked_foreign : (x : VarId) → k.side ≡ Objectives → S.closed ≡ true → (is_own_total S k && is_own S x) ≡ false →
      asking at k.solver (whole_of k) (x ∷ []) (violations_answer m (whole_of k) x) m s ≡ Halted (Faulted at WrongSolver) (left s)
  unasked_foreign x e shut owned = no_violations x true false e shut owned

  pub asks_none : (x : VarId) → k.side ≡ Objectives → S.closed ≡ true → (is_own_total S k && is_own S x) ≡ true →
      asking at k.solver (whole_of k) (x ∷ []) (violations_answer m (whole_of k) x) m s ≡ Went (values.Number (pos 0)) s
  asks_none x e shut owned = no_violations x true true e shut owned

  -- ---- the violations of a system, and the value of an objective

  valued_by : (b c : Bool) (value : Result ℤ Failure) → S.closed ≡ b → is_own_total S k ≡ c → fresh_total S k ≡ value →
      valuing at (whole_of k) m s ≡ (unless b at NotClosed >>= λ _. unless c at WrongSolver >>= λ _. give_or_met value >>= λ z. give (values.Number z)) s
  unfolding valuing
  valued_by b c value shut owned is =
      ap (λ d. (unless d at NotClosed >>= λ _. unless (has_whole m (whole_of k)) at WrongSolver >>= λ _. give_or_met (value_of (users_of m.rules) m.model m.assignment (whole_of k)) >>= λ z. give (values.Number z)) s) shut
      ∙ ap (λ d. (unless b at NotClosed >>= λ _. unless d at WrongSolver >>= λ _. give_or_met (value_of (users_of m.rules) m.model m.assignment (whole_of k)) >>= λ z. give (values.Number z)) s) (has_seen S names waiting k own ∙ owned)
      ∙ ap (λ v. (unless b at NotClosed >>= λ _. unless c at WrongSolver >>= λ _. give_or_met v >>= λ z. give (values.Number z)) s) (same_value_of (users_of S.rules) S.model S.assignment (whole_of k) ∙ is)

  read_by : (b c : Bool) (f : RunFault) → refusal_by b (c && true) ≡ Some f → (unless b at NotClosed >>= λ _. unless c at WrongSolver >>= λ _. give_or_met (fresh_total S k) >>= λ z. give (values.Number z)) s ≡ Halted (Faulted at f) (left s)
  read_by true true f e = let no_ : None ≡ Some f = e in cc
  read_by true false f e = let same : WrongSolver ≡ f = cc in ap (λ (g : RunFault). Halted (Faulted at g) (left s)) same
  read_by false c f e = let same : NotClosed ≡ f = cc in ap (λ (g : RunFault). Halted (Faulted at g) (left s)) same

  readable_by : (b c : Bool) → refusal_by b (c && true) ≡ None → (b ≡ true) × (c ≡ true)
  readable_by true true e = (refl, refl)
  readable_by true false e = let no_ : Some WrongSolver ≡ None = e in cc
  readable_by false c e = let no_ : Some NotClosed ≡ None = e in cc

  pub value_there : read_refusal S k ≡ None → (z : ℤ) → fresh_total S k ≡ Ok z → valuing at (whole_of k) m s ≡ Went (values.Number z) s
  value_there none z is = let parts = readable_by S.closed (is_own_total S k) none in valued_by true true (Ok z) parts.0 parts.1 is

  value_unread : (f : RunFault) → read_refusal S k ≡ Some f → valuing at (whole_of k) m s ≡ Halted (Faulted at f) (left s)
  value_unread f some = valued_by S.closed (is_own_total S k) (fresh_total S k) refl refl refl ∙ read_by S.closed (is_own_total S k) f some

  pub value_stops : (fault : SolverFault) (stop : Stop) → IsOnlyRefusal (read_refusal S k) fault → StopsAs at names fault stop → Stopped stop s (valuing at (whole_of k) m s)
  value_stops (faults.Run f) stop is told = subst (λ (t : Stop). Stopped t s (valuing at (whole_of k) m s)) (sym told) (value_unread f is)
  value_stops (faults.At place f) stop is told = absurd is
  value_stops (faults.Cyclic ids) stop is told = absurd is
  value_stops faults.NoMemory stop is told = absurd is
