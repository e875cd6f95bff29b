-- A new variable of a solver, with its name, is what the meaning of programs says.
use Rattle.std.proofs.Common.{◌≡◌, ℕ, zero, suc, ◌+◌, ◌<◌, ℤ, Bool, true, false, List, [], ◌∷◌, ◌++◌, Option, Some, None, Ok, ◌⊎◌, inl, inr, length, refl, sym, ap, ◌∙◌, subst, true≢false, arith, length-append}
use Rattle.std.specs.Prelude.{nat_lt, if◌then◌else◌}
use Rattle.std.specs.Option.{option_map}
use Rattle.cbl_base.specs.Inputs.{number_kind}
use Rattle.cbl_base.specs.declared.faults.Limit.TheVariants.{Variables}
use Rattle.cbl_base.specs.declared.faults.RunFault.{RunFault}
use Rattle.cbl_base.specs.declared.faults.RunFault.TheVariants.{AlreadyClosed, TooMany}
use Rattle.cbl_base.specs.declared.limits.TheConstants.{MAX_VARIABLES}
use Rattle.cbl_base.specs.declared.place.Place.{Place}
use Rattle.ls_solver.specs.Answers.{IsRefusal}
use Rattle.ls_solver.specs.Declaring.{Declares, variable_refusal}
use Rattle.ls_solver.specs.State as solvers
use Rattle.ls_solver.specs.declared.fault.SolverFault.{SolverFault}
use Rattle.ls_solver.specs.declared.fault.SolverFault.TheVariants as faults
use Rattle.ls_solver.proofs.ListLaws.{slice_front}
use Rattle.ls_solver.proofs.ModelLaws.{definitions_same, grown_variable}
use Rattle.model_view.proofs.PlainChanges.{gets_variable}
use Rattle.term_model.specs.Definitions.{definition_of}
use Rattle.term_model.specs.Kinds.{kind_of_var, kinds_in}
use Rattle.term_model.specs.Wellformed.{HasDefinedSets}
use Rattle.term_model.specs.declared.model.VarDecl.{VarDecl}
use Rattle.term_model.specs.declared.model.VarKind.TheVariants.{Number}
use Rattle.comet_meaning.specs.Solvers.{SolverState}
use Rattle.comet_meaning.specs.Variables.{with_variable}
use Rattle.run_values.specs.declared.stop.Stop.{Stop}
use Rattle.run_solvers.specs.Changing.{Made, refused, declared_one}
use Rattle.run_solvers.specs.Kept.{AreWaiting, HasDefinedOthers, IsWhole}
use Rattle.run_solvers.specs.Makes.{Ends}
use Rattle.run_solvers.specs.Refusals.{StopsAs}
use Rattle.run_solvers.specs.Views.{solver_seen}
use Rattle.run_solvers.proofs.SeenLaws.{count_seen}

module _ (S T : solvers.SolverState) (names : List (List ℕ)) (waiting : Option (List (Option ℤ))) (at : Place) (d : VarDecl) (name : List ℕ) (z : ℤ) where
  abbrev m : SolverState
  m = solver_seen S names waiting

  abbrev made_by : Bool → Bool → Made
  made_by b c = if b then refused at AlreadyClosed else (if c then Ok (with_variable m d name z) else refused at (TooMany Variables))

  abbrev refusal_by : Bool → Bool → Option RunFault
  refusal_by b c = if b then Some AlreadyClosed else (if c then None else Some (TooMany Variables))

  declared_tests : declared_one at d name z m ≡ made_by S.closed (nat_lt (length S.model.vars.items) MAX_VARIABLES)
  declared_tests = ap (λ n. if S.closed then refused at AlreadyClosed else (if nat_lt n MAX_VARIABLES then Ok (with_variable m d name z) else refused at (TooMany Variables))) (count_seen S names waiting)

  made_refused : (b c : Bool) (f : RunFault) → refusal_by b c ≡ Some f → made_by b c ≡ refused at f
  made_refused true c f e = let same : AlreadyClosed ≡ f = cc in ap (refused at) same
  made_refused false true f e = let no_ : None ≡ Some f = e in cc
  made_refused false false f e = let same : TooMany Variables ≡ f = cc in ap (refused at) same

  made_free : (b c : Bool) → refusal_by b c ≡ None → (b ≡ false) × (made_by b c ≡ Ok (with_variable m d name z))
  made_free true c e = let no_ : Some AlreadyClosed ≡ None = e in cc
  made_free false true e = (refl, refl)
  made_free false false e = let no_ : Some (TooMany Variables) ≡ None = e in cc

  refusal_is : variable_refusal S ≡ refusal_by S.closed (nat_lt (length S.model.vars.items) MAX_VARIABLES)
  refusal_is = refl

  pub declares_stops : (fault : SolverFault) (stop : Stop) → IsRefusal (variable_refusal S) fault → StopsAs at names fault stop → Ends stop (declared_one at d name z m)
  declares_stops (faults.Run f) stop is told = subst (λ (x : Stop). Ends x (declared_one at d name z m)) (sym told) (declared_tests ∙ made_refused S.closed (nat_lt (length S.model.vars.items) MAX_VARIABLES) f (sym refusal_is ∙ is))
  declares_stops (faults.At place f) stop is told = absurd is
  declares_stops (faults.Cyclic ids) stop is told = absurd is
  declares_stops faults.NoMemory stop is told = subst (λ (x : Stop). Ends x (declared_one at d name z m)) (sym told) tt

  -- nothing waits in an open solver, so what waits stays as it is
  same_waiting : (w : Option (List (Option ℤ))) → S.closed ≡ false → AreWaiting S w → w ≡ None
  same_waiting None e h = refl
  same_waiting (Some ws) e h = absurd (true≢false (sym h.0 ∙ e))

  after_seen : waiting ≡ None → Declares S T d z → solver_seen T (names ++ name ∷ []) waiting ≡ with_variable m d name z
  after_seen none h =
      rw (none, h.assignment, h.rules, h.closed, gets_variable S.model T.model d h.model.vars h.model.defs h.model.systems h.model.objectives h.model.posted) refl

  pub declares_ok : (number : ℕ) → variable_refusal S ≡ None → IsWhole number S names waiting → Declares S T d z → declared_one at d name z m ≡ Ok (solver_seen T (names ++ name ∷ []) waiting)
  declares_ok number none whole h =
      let free = made_free S.closed (nat_lt (length S.model.vars.items) MAX_VARIABLES) (sym refusal_is ∙ none) in
      declared_tests ∙ free.1 ∙ ap (λ (n : SolverState). Ok n) (sym (after_seen (same_waiting waiting free.0 whole.waits_) h))

  pub declared_whole : (number : ℕ) → variable_refusal S ≡ None → IsWhole number S names waiting → Declares S T d z → IsWhole number T (names ++ name ∷ []) waiting
  declared_whole number none whole h =
      let free = made_free S.closed (nat_lt (length S.model.vars.items) MAX_VARIABLES) (sym refusal_is ∙ none) in
      let vars : length T.model.vars.items ≡ length S.model.vars.items + 1 = ap length h.model.vars ∙ length-append S.model.vars.items (d ∷ []) in
      let longer : length (names ++ name ∷ []) ≡ length names + 1 = length-append names (name ∷ []) in
      record {
        number_ = h.number ∙ whole.number_;
        usable = h.usable ∙ whole.usable;
        named = longer ∙ ap (λ n. n + 1) whole.named ∙ sym vars;
        waits_ = subst (AreWaiting T) (sym (same_waiting waiting free.0 whole.waits_)) tt;
      }

  -- the new variable alone may be a set without a definition
  before_or_last : (i n : ℕ) → i < n + 1 → (i < n) ⊎ (i ≡ n)
  before_or_last zero zero lt = inr refl
  before_or_last zero (suc n) lt = inl (omega arith)
  before_or_last (suc i) zero lt = absurd (omega (arith, lt))
  before_or_last (suc i) (suc n) lt = next (before_or_last i n (omega (arith, lt)))
    where
      next : (i < n) ⊎ (i ≡ n) → (suc i < suc n) ⊎ (suc i ≡ suc n)
      next (inl l) = inl (omega (arith, l))
      next (inr e) = inr (ap suc e)

  pub declared_others : HasDefinedSets S.model → Declares S T d z → HasDefinedOthers T.model (length S.model.vars.items)
  declared_others sets h i lt none = by (before_or_last i (length S.model.vars.items) (subst (λ n. i < n) (ap length h.model.vars ∙ length-append S.model.vars.items (d ∷ [])) lt))
    where
      by : (i < length S.model.vars.items) ⊎ (i ≡ length S.model.vars.items) → (i ≡ length S.model.vars.items) ⊎ (kinds_in T.model.vars.items i ≡ Some number_kind)
      by (inr e) = inl e
      by (inl l) =
          let free : definition_of S.model i ≡ None = sym (definitions_same S.model T.model (d ∷ []) (grown_variable S.model T.model d h.model) i) ∙ none in
          inr (ap (λ (ds : List VarDecl). kinds_in ds i) h.model.vars ∙ ap (option_map (λ (decl : VarDecl). kind_of_var decl.kind)) (slice_front S.model.vars.items (d ∷ []) i l) ∙ sets i l free)

  last_kind : (ds : List VarDecl) → kinds_in (ds ++ d ∷ []) (length ds) ≡ Some (kind_of_var d.kind)
  last_kind [] = refl
  last_kind (e ∷ ds) = last_kind ds

  pub declared_numbers : HasDefinedSets S.model → Declares S T d z → d.kind ≡ Number → HasDefinedSets T.model
  declared_numbers sets h number i lt none = by (declared_others sets h i lt none)
    where
      by : (i ≡ length S.model.vars.items) ⊎ (kinds_in T.model.vars.items i ≡ Some number_kind) → kinds_in T.model.vars.items i ≡ Some number_kind
      by (inr k) = k
      by (inl e) = ap (λ (ds : List VarDecl). kinds_in ds i) h.model.vars ∙ ap (kinds_in (S.model.vars.items ++ d ∷ [])) e ∙ last_kind S.model.vars.items ∙ ap (λ k. Some (kind_of_var k)) number
