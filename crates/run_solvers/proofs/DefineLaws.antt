-- What a definition makes of a solver, and how it stops, is what the meaning of programs says.
use Rattle.std.proofs.Common.{◌≡◌, ℕ, ℤ, ◌<◌, ◌≤◌, Bool, true, false, ◌&&◌, ◌||◌, List, Option, Some, None, Ok, ◌⊎◌, inl, inr, is_some, fold, map, length, refl, sym, ap, ◌∙◌, subst, true≢false, nat_eq, arith}
use Rattle.std.specs.Prelude.{not, nat_le, if◌then◌else◌}
use Rattle.std.proofs.lemmas.Bool.{le-leb}
use Rattle.cbl_base.specs.Inputs.{number_kind}
use Rattle.cbl_base.specs.declared.faults.Limit.TheVariants.{TermNodes}
use Rattle.cbl_base.specs.declared.faults.RunFault.{RunFault}
use Rattle.cbl_base.specs.declared.faults.RunFault.TheVariants.{AlreadyClosed, DefinedVariable, TooMany, WrongSolver}
use Rattle.cbl_base.specs.declared.ids.VarId.{VarId}
use Rattle.cbl_base.specs.declared.limits.TheConstants.{MAX_TERM_DEPTH, MAX_TERM_NODES}
use Rattle.cbl_base.specs.declared.place.Place.{Place}
use Rattle.ls_solver.specs.Answers.{IsRefusal}
use Rattle.ls_solver.specs.Defining.{Defines, are_too_many, define_refusal, distinct_with, early_refusal, first_refusal, is_own_definition, size_refusal}
use Rattle.ls_solver.specs.Ids.{has_definition, is_own, names_only}
use Rattle.ls_solver.specs.State as solvers
use Rattle.ls_solver.specs.declared.fault.SolverFault.{SolverFault}
use Rattle.ls_solver.specs.declared.fault.SolverFault.TheVariants as faults
use Rattle.ls_solver.proofs.DefinitionLaws.{has_more}
use Rattle.model_view.specs.Building.{with_definition}
use Rattle.model_view.specs.Plain.{plain_model, plain_term}
use Rattle.model_view.specs.Variables.{all_variables}
use Rattle.model_view.proofs.PlainChanges.{gets_definition}
use Rattle.model_view.proofs.PlainModels.{same_distinct}
use Rattle.model_view.proofs.PlainSubterms.{fold_plain, same_subterms}
use Rattle.model_view.proofs.PlainTerms.{length_map}
use Rattle.term_model.specs.Definitions.{definition_of}
use Rattle.term_model.specs.Depth.{depth_of}
use Rattle.term_model.specs.Kinds.{kinds_in}
use Rattle.term_model.specs.Subterms.{distinct_subterms, subterms, with_subterm}
use Rattle.term_model.specs.Wellformed.{HasDefinedSets, IsWellFormed}
use Rattle.term_model.specs.declared.model.Model.{Model}
use Rattle.term_model.specs.declared.model.VarDecl.{VarDecl}
use Rattle.term_model.specs.declared.term.Term.{Term}
use Rattle.comet_meaning.specs.Models.{owns, term_for, has_room}
use Rattle.comet_meaning.specs.Solvers.{SolverState, is_defined}
use Rattle.run_values.specs.declared.stop.Stop.{Stop}
use Rattle.run_solvers.specs.Changing.{Made, refused, defined_one}
use Rattle.run_solvers.specs.Kept.{AreWaiting, HasDefinedOthers, IsWhole}
use Rattle.run_solvers.specs.Makes.{Ends}
use Rattle.run_solvers.specs.Refused.{sized_one}
use Rattle.run_solvers.specs.Refusals.{StopsAs}
use Rattle.posted_users.specs.KeptRule.{KeptRule}
use Rattle.run_solvers.specs.Views.{solver_seen}
use Rattle.run_solvers.proofs.SeenLaws.{owns_seen, names_seen, defined_seen}

-- a solver is seen by its parts
pub seen_by : (T : solvers.SolverState) (names : List (List ℕ)) (waiting : Option (List (Option ℤ))) (M : Model) (a : List ℤ) (rules : List KeptRule) (closed : Bool) → plain_model T.model ≡ M → T.assignment ≡ a → T.rules ≡ rules → T.closed ≡ closed →
    solver_seen T names waiting ≡ record (solver_seen (record T { assignment = a; rules = rules; closed = closed }) names waiting) { model = M }
seen_by T names waiting M a rules closed e f r g = rw (e, f, r, g) refl

-- ---- before the size
abbrev early : Bool → Bool → Bool → Option RunFault
early b c d = if b then Some AlreadyClosed else (if not c then Some WrongSolver else (if d then Some DefinedVariable else None))

abbrev made_by : Place → Bool → Bool → Bool → Made → Made
made_by at b c d made = if b then refused at AlreadyClosed else (if c then (if d then refused at DefinedVariable else made) else refused at WrongSolver)

early_made : (at : Place) (b c d : Bool) (made : Made) (f : RunFault) → early b c d ≡ Some f → made_by at b c d made ≡ refused at f
early_made at true c d made f e = let same : AlreadyClosed ≡ f = cc in ap (refused at) same
early_made at false false d made f e = let same : WrongSolver ≡ f = cc in ap (refused at) same
early_made at false true true made f e = let same : DefinedVariable ≡ f = cc in ap (refused at) same
early_made at false true false made f e = let c : None ≡ Some f = e in cc

late_made : (at : Place) (b c d : Bool) (made : Made) → early b c d ≡ None → made_by at b c d made ≡ made
late_made at true c d made e = let no_ : Some AlreadyClosed ≡ None = e in cc
late_made at false false d made e = let no_ : Some WrongSolver ≡ None = e in cc
late_made at false true true made e = let no_ : Some DefinedVariable ≡ None = e in cc
late_made at false true false made e = refl

pub early_open : (b c d : Bool) → early b c d ≡ None → (b ≡ false) × (c ≡ true) × (d ≡ false)
early_open true c d e = let no_ : Some AlreadyClosed ≡ None = e in cc
early_open false false d e = let no_ : Some WrongSolver ≡ None = e in cc
early_open false true true e = let no_ : Some DefinedVariable ≡ None = e in cc
early_open false true false e = (refl, refl, refl)

module _ (S : solvers.SolverState) (names : List (List ℕ)) (waiting : Option (List (Option ℤ))) (at : Place) (x : VarId) (t : Term) (own : x.solver ≡ S.number) where
  abbrev m : SolverState
  m = solver_seen S names waiting

  abbrev sized : Made
  sized = sized_one at x (term_for m x.index (plain_term t)) m

  defined_tests : defined_one at x (plain_term t) m ≡ made_by at S.closed (is_own_definition S x t) (has_definition S.model x.index) sized
  defined_tests =
      ap (λ b. if S.closed then refused at AlreadyClosed else (if b && all_variables (owns x.solver m) (plain_term t) then (if is_defined m x.index then refused at DefinedVariable else sized) else refused at WrongSolver)) (owns_seen S names waiting x.solver x own)
      ∙ ap (λ b. if S.closed then refused at AlreadyClosed else (if is_own S x && b then (if is_defined m x.index then refused at DefinedVariable else sized) else refused at WrongSolver)) (names_seen S names waiting x.solver t own)
      ∙ ap (λ b. if S.closed then refused at AlreadyClosed else (if is_own S x && names_only (is_own S) t then (if b then refused at DefinedVariable else sized) else refused at WrongSolver)) (defined_seen S names waiting x.index)

  pub defined_early : (f : RunFault) → early_refusal S x t ≡ Some f → defined_one at x (plain_term t) m ≡ refused at f
  defined_early f e = defined_tests ∙ early_made at S.closed (is_own_definition S x t) (has_definition S.model x.index) sized f e

  pub defined_late : early_refusal S x t ≡ None → defined_one at x (plain_term t) m ≡ sized
  defined_late e = defined_tests ∙ late_made at S.closed (is_own_definition S x t) (has_definition S.model x.index) sized e

-- a constant is refused for no id
pub early_constant : (S : solvers.SolverState) (x : VarId) (t u : Term) → names_only (is_own S) u ≡ true → early_refusal S x t ≡ None → early_refusal S x u ≡ None
early_constant S x t u constant e =
    let parts = early_open S.closed (is_own_definition S x t) (has_definition S.model x.index) e in
    let own = (both (is_own S x) (names_only (is_own S) t) parts.1) in
    ap (λ b. early b (is_own_definition S x u) (has_definition S.model x.index)) parts.0
    ∙ ap (λ b. early false b (has_definition S.model x.index)) (ap (λ b. b && names_only (is_own S) u) own ∙ constant)
    ∙ ap (λ b. early false true b) parts.2
  where
    both : (a b : Bool) → (a && b) ≡ true → a ≡ true
    both true b h = refl
    both false b h = let c : false ≡ true = h in cc

-- ---- the size
pub le_from : (a n : ℕ) → a ≤ n → not (nat_le a n) ≡ false
le_from a n le = ap not (le-leb a n le)

pub room_seen : (S : solvers.SolverState) (names : List (List ℕ)) (waiting : Option (List (Option ℤ))) (u : Term) → has_room (solver_seen S names waiting) (plain_term u) ≡ nat_le (length (distinct_with (distinct_subterms S.model) u)) MAX_TERM_NODES
room_seen S names waiting u =
    ap (λ (ts : List Term). nat_le (length (fold with_subterm ts (subterms (plain_term u)))) MAX_TERM_NODES) (same_distinct S.model)
    ∙ ap (λ (us : List Term). nat_le (length (fold with_subterm (map plain_term (distinct_subterms S.model)) us)) MAX_TERM_NODES) (same_subterms u)
    ∙ ap (λ (ts : List Term). nat_le (length ts) MAX_TERM_NODES) (fold_plain (distinct_subterms S.model) (subterms u))
    ∙ ap (λ n. nat_le n MAX_TERM_NODES) (length_map plain_term (distinct_with (distinct_subterms S.model) u))

module _ (S T : solvers.SolverState) (names : List (List ℕ)) (waiting : Option (List (Option ℤ))) (at : Place) (x : VarId) (u : Term) (free : early_refusal S x u ≡ None) (shallow : depth_of u ≤ MAX_TERM_DEPTH) where
  abbrev held : SolverState
  held = solver_seen S names waiting

  abbrev many : Bool
  many = are_too_many (distinct_with (distinct_subterms S.model) u)

  refusal_is : define_refusal S x u ≡ (if many then Some (TooMany TermNodes) else None)
  refusal_is =
      ap (λ o. first_refusal o (size_refusal S.model u)) free ∙ ap (λ b. if b || many then Some (TooMany TermNodes) else None) (le_from (depth_of u) MAX_TERM_DEPTH shallow)

  sized_by : (b : Bool) → nat_le (length (distinct_with (distinct_subterms S.model) u)) MAX_TERM_NODES ≡ b → sized_one at x (plain_term u) held ≡ (if b then Ok (record held { model = with_definition held.model x (plain_term u) }) else refused at (TooMany TermNodes))
  sized_by b e = ap (λ r. if r then Ok (record held { model = with_definition held.model x (plain_term u) }) else refused at (TooMany TermNodes)) (room_seen S names waiting u ∙ e)

  after_seen : Defines S T (record { var = x; term = u }) → solver_seen T names waiting ≡ record held { model = with_definition held.model x (plain_term u) }
  after_seen d =
      seen_by T names waiting (with_definition (plain_model S.model) x (plain_term u)) S.assignment S.rules S.closed
      (gets_definition S.model T.model (record { var = x; term = u }) d.model.vars d.model.defs d.model.systems d.model.objectives d.model.posted) d.assignment d.rules d.closed

  pub defines_ok : define_refusal S x u ≡ None → Defines S T (record { var = x; term = u }) → sized_one at x (plain_term u) held ≡ Ok (solver_seen T names waiting)
  defines_ok none d = by (nat_le (length (distinct_with (distinct_subterms S.model) u)) MAX_TERM_NODES) refl
    where
      by : (b : Bool) → nat_le (length (distinct_with (distinct_subterms S.model) u)) MAX_TERM_NODES ≡ b → sized_one at x (plain_term u) held ≡ Ok (solver_seen T names waiting)
      by true e = sized_by true e ∙ ap (λ (m : SolverState). Ok m) (sym (after_seen d))
      by false e = let c : Some (TooMany TermNodes) ≡ None = sym (ap (λ b. if not b then Some (TooMany TermNodes) else None) e) ∙ sym refusal_is ∙ none in cc

  defines_refused : (f : RunFault) → define_refusal S x u ≡ Some f → sized_one at x (plain_term u) held ≡ refused at f
  defines_refused f some = by (nat_le (length (distinct_with (distinct_subterms S.model) u)) MAX_TERM_NODES) refl
    where
      by : (b : Bool) → nat_le (length (distinct_with (distinct_subterms S.model) u)) MAX_TERM_NODES ≡ b → sized_one at x (plain_term u) held ≡ refused at f
      by false e =
          let too_many : Some (TooMany TermNodes) ≡ Some f = sym (ap (λ b. if not b then Some (TooMany TermNodes) else None) e) ∙ sym refusal_is ∙ some in
          let same : TooMany TermNodes ≡ f = cc in
          sized_by false e ∙ ap (refused at) same
      by true e = let c : None ≡ Some f = sym (ap (λ b. if not b then Some (TooMany TermNodes) else None) e) ∙ sym refusal_is ∙ some in cc

  pub defines_stops : (fault : SolverFault) (stop : Stop) → IsRefusal (define_refusal S x u) fault → StopsAs at names fault stop → Ends stop (sized_one at x (plain_term u) held)
  defines_stops (faults.Run f) stop is told = subst (λ (s : Stop). Ends s (sized_one at x (plain_term u) held)) (sym told) (defines_refused f is)
  defines_stops (faults.At place f) stop is told = absurd is
  defines_stops (faults.Cyclic ids) stop is told = absurd is
  defines_stops faults.NoMemory stop is told = subst (λ (s : Stop). Ends s (sized_one at x (plain_term u) held)) (sym told) tt

  -- ---- what holds of it then
  open_waiting : (w : Option (List (Option ℤ))) → S.closed ≡ false → AreWaiting S w → AreWaiting T w
  open_waiting None e h = tt
  open_waiting (Some ws) e h = absurd (true≢false (sym h.0 ∙ e))

  pub defined_whole : (number : ℕ) → IsWhole number S names waiting → Defines S T (record { var = x; term = u }) → IsWhole number T names waiting
  defined_whole number whole d = record {
    number_ = d.number ∙ whole.number_;
    usable = d.usable ∙ whole.usable;
    named = whole.named ∙ ap length (sym d.model.vars);
    waits_ = open_waiting waiting (early_open S.closed (is_own_definition S x u) (has_definition S.model x.index) free).0 whole.waits_;
  }

  pub defined_sets : IsWellFormed S.model → Defines S T (record { var = x; term = u }) → HasDefinedOthers S.model x.index → HasDefinedSets T.model
  defined_sets formed d others i lt none =
      let more = has_more S.model T.model (record { var = x; term = u }) formed d.model i in
      let parts = neither (nat_eq x.index i) (has_definition S.model i) (sym more ∙ ap is_some none) in
      number_there i lt (others i (subst (λ (ds : List VarDecl). i < length ds) d.model.vars lt) (nothing (definition_of S.model i) parts.1)) parts.0
    where
      neither : (a b : Bool) → (a || b) ≡ false → (a ≡ false) × (b ≡ false)
      neither false false h = (refl, refl)
      neither false true h = absurd (true≢false h)
      neither true b h = absurd (true≢false h)

      nothing : (o : Option ℕ) → is_some o ≡ false → o ≡ None
      nothing None h = refl
      nothing (Some n) h = absurd (true≢false h)

      number_there : (i : ℕ) → i < length T.model.vars.items → (i ≡ x.index) ⊎ (kinds_in S.model.vars.items i ≡ Some number_kind) → nat_eq x.index i ≡ false → kinds_in T.model.vars.items i ≡ Some number_kind
      number_there i lt (inl e) ne = absurd (let same : nat_eq x.index i ≡ true = grind (arith, e) in true≢false (sym same ∙ ne))
      number_there i lt (inr k) ne = ap (λ (ds : List VarDecl). kinds_in ds i) d.model.vars ∙ k
