-- What a post makes of a solver, and how it stops, is what the meaning of programs says.
use Rattle.std.proofs.Common.{◌≡◌, ℕ, suc, ℤ, pos, negsuc, ◌≤◌, Bool, true, false, ◌&&◌, ◌||◌, List, Option, Some, None, Ok, length, refl, sym, ap, ◌∙◌, subst, arith}
use Rattle.std.specs.Prelude.{int_le, int_lt, not, nat_le, if◌then◌else◌}
use Rattle.cbl_base.specs.Inputs.{InputKind, number_kind, set_kind}
use Rattle.cbl_base.specs.declared.faults.Limit.TheVariants.{TermNodes}
use Rattle.cbl_base.specs.declared.faults.RunFault.{RunFault}
use Rattle.cbl_base.specs.declared.faults.RunFault.TheVariants.{AlreadyClosed, OutOfRange, TooMany, WrongSolver}
use Rattle.cbl_base.specs.declared.limits.TheConstants.{MAX_TERM_DEPTH, MAX_TERM_NODES}
use Rattle.cbl_base.specs.declared.place.Place.{Place}
use Rattle.ls_solver.specs.Adding.{Adds, early_member_refusal, is_own_member, member_refusal}
use Rattle.ls_solver.specs.Answers.{IsRefusal}
use Rattle.ls_solver.specs.Defining.{distinct_with, first_refusal, size_refusal}
use Rattle.ls_solver.specs.Ids.{is_own, names_only}
use Rattle.ls_solver.specs.State as solvers
use Rattle.ls_solver.specs.Totals.{is_own_total, whole_of}
use Rattle.ls_solver.specs.declared.fault.SolverFault.{SolverFault}
use Rattle.ls_solver.specs.declared.fault.SolverFault.TheVariants as faults
use Rattle.ls_solver.specs.OfSolverModels.declared.totals.TotalId.{TotalId}
use Rattle.ls_solver.proofs.OfSolverModels.MemberLaws.{definitions_with_member}
use Rattle.term_model.specs.Depth.{depth_of}
use Rattle.term_model.specs.Kinds.{kind_of_term, kind_step, kinds_in}
use Rattle.term_model.specs.Subterms.{distinct_subterms}
use Rattle.term_model.specs.Wellformed.{HasDefinedSets, IsWellFormed}
use Rattle.term_model.specs.declared.model.Member.{Member}
use Rattle.term_model.specs.declared.term.Term.{Term}
use Rattle.term_model.specs.declared.term.Term.TheOpen.{Term-F}
use Rattle.term_model.specs.declared.term.Term.TheFolds.{fold-roll-Term}
use Rattle.model_view.specs.Building.{constant}
use Rattle.model_view.specs.Plain.{plain_member, plain_model, plain_term}
use Rattle.model_view.specs.Variables.{all_variables}
use Rattle.model_view.proofs.PlainParts as plain
use Rattle.comet_meaning.specs.Members.{with_member}
use Rattle.comet_meaning.specs.Models.{owns, same_kind}
use Rattle.comet_meaning.specs.Solvers.{SolverState}
use Rattle.comet_meaning.specs.Systems.{number_for}
use Rattle.run_values.specs.declared.stop.Stop.{Stop}
use Rattle.run_solvers.specs.Changing.{Made, posted_one, refused}
use Rattle.run_solvers.specs.Kept.{IsWhole}
use Rattle.run_solvers.specs.Makes.{Ends}
use Rattle.run_solvers.specs.Refused.{sized_member}
use Rattle.run_solvers.specs.Refusals.{StopsAs}
use Rattle.run_solvers.specs.Views.{solver_seen}
use Rattle.run_solvers.proofs.DefineLaws.{le_from, room_seen, seen_by}
use Rattle.run_solvers.proofs.SeenLaws.{kinds_seen, names_seen}
use Rattle.run_solvers.proofs.TotalLaws.{got_member, has_seen, open_waiting, sets_stay}

-- ---- before the size

abbrev early : Bool → Bool → Bool → Option RunFault
early b c d = if b then Some AlreadyClosed else (if not c then Some WrongSolver else (if d then Some OutOfRange else None))

abbrev made_by : Place → Bool → Bool → Bool → Made → Made
made_by at b c d made = if b then refused at AlreadyClosed else (if c then (if d then made else refused at OutOfRange) else refused at WrongSolver)

early_made : (at : Place) (b c d : Bool) (made : Made) (f : RunFault) → early b c (not d) ≡ Some f → made_by at b c d made ≡ refused at f
early_made at true c d made f e = let same : AlreadyClosed ≡ f = cc in ap (refused at) same
early_made at false false d made f e = let same : WrongSolver ≡ f = cc in ap (refused at) same
early_made at false true false made f e = let same : OutOfRange ≡ f = cc in ap (refused at) same
early_made at false true true made f e = let c : None ≡ Some f = e in cc

late_made : (at : Place) (b c d : Bool) (made : Made) → early b c (not d) ≡ None → made_by at b c d made ≡ made
late_made at true c d made e = let no_ : Some AlreadyClosed ≡ None = e in cc
late_made at false false d made e = let no_ : Some WrongSolver ≡ None = e in cc
late_made at false true false made e = let no_ : Some OutOfRange ≡ None = e in cc
late_made at false true true made e = refl

pub early_open : (b c d : Bool) → early b c d ≡ None → (b ≡ false) × (c ≡ true) × (d ≡ false)
early_open true c d e = let no_ : Some AlreadyClosed ≡ None = e in cc
early_open false false d e = let no_ : Some WrongSolver ≡ None = e in cc
early_open false true true e = let no_ : Some OutOfRange ≡ None = e in cc
early_open false true false e = (refl, refl, refl)

-- a weight is below 0, or is not
below_zero : (z : ℤ) → int_lt z (pos 0) ≡ not (int_le (pos 0) z)
below_zero (pos n) = let lt : nat_le (suc n) 0 ≡ false = grind arith in let le : nat_le 0 n ≡ true = grind arith in lt ∙ sym (ap not le)
below_zero (negsuc n) = refl

and_first : (a b : Bool) → (a && b) ≡ true → a ≡ true
and_first true b h = refl
and_first false b h = let c : false ≡ true = h in cc

-- a number names no id
pub early_number : (S : solvers.SolverState) (k : TotalId) (t u : Term) (weight : ℤ) → names_only (is_own S) u ≡ true → early_member_refusal S k t weight ≡ None → early_member_refusal S k u weight ≡ None
early_number S k t u weight named e =
    let parts = early_open S.closed (is_own_member S k t) (int_lt weight (pos 0)) e in
    ap (λ b. early b (is_own_member S k u) (int_lt weight (pos 0))) parts.0
    ∙ ap (λ b. early false b (int_lt weight (pos 0))) (ap (λ b. b && names_only (is_own S) u) (and_first (is_own_total S k) (names_only (is_own S) t) parts.1) ∙ named)
    ∙ ap (λ b. early false true b) parts.2

module _ (S : solvers.SolverState) (names : List (List ℕ)) (waiting : Option (List (Option ℤ))) (at : Place) (k : TotalId) (t : Term) (weight : ℤ) (own : k.solver ≡ S.number) where
  abbrev m : SolverState
  m = solver_seen S names waiting

  abbrev sized : Made
  sized = sized_member at (whole_of k) (record { term = number_for m (plain_term t); weight = weight }) m

  posted_tests : posted_one at k.solver (whole_of k) (plain_term t) weight m ≡ made_by at S.closed (is_own_member S k t) (int_le (pos 0) weight) sized
  posted_tests =
      ap (λ b. made_by at S.closed (b && all_variables (owns k.solver m) (plain_term t)) (int_le (pos 0) weight) sized) (has_seen S names waiting k own)
      ∙ ap (λ b. made_by at S.closed (is_own_total S k && b) (int_le (pos 0) weight) sized) (names_seen S names waiting k.solver t own)

  early_is : (o : Option RunFault) → early_member_refusal S k t weight ≡ o → early S.closed (is_own_member S k t) (not (int_le (pos 0) weight)) ≡ o
  early_is o e = ap (early S.closed (is_own_member S k t)) (sym (below_zero weight)) ∙ e

  pub posted_early : (f : RunFault) → early_member_refusal S k t weight ≡ Some f → posted_one at k.solver (whole_of k) (plain_term t) weight m ≡ refused at f
  posted_early f e = posted_tests ∙ early_made at S.closed (is_own_member S k t) (int_le (pos 0) weight) sized f (early_is (Some f) e)

  posted_late : early_member_refusal S k t weight ≡ None → posted_one at k.solver (whole_of k) (plain_term t) weight m ≡ sized
  posted_late e = posted_tests ∙ late_made at S.closed (is_own_member S k t) (int_le (pos 0) weight) sized (early_is None e)

  for_by : (b : Bool) → same_kind number_kind (kind_of_term (kinds_in m.model.vars.items) t) ≡ b → number_for m (plain_term t) ≡ (if b then plain_term t else constant (pos 0))
  for_by b e = ap (λ c. if c then plain_term t else constant (pos 0)) (ap (same_kind number_kind) (plain.same_kind (kinds_in m.model.vars.items) t) ∙ e)

  pub posted_number : early_member_refusal S k t weight ≡ None → same_kind number_kind (kind_of_term (kinds_in m.model.vars.items) t) ≡ true →
      posted_one at k.solver (whole_of k) (plain_term t) weight m ≡ sized_member at (whole_of k) (plain_member (record { term = t; weight = weight })) m
  posted_number e is = posted_late e ∙ ap (λ (u : Term). sized_member at (whole_of k) (record { term = u; weight = weight }) m) (for_by true is)

  pub posted_nothing : early_member_refusal S k t weight ≡ None → same_kind number_kind (kind_of_term (kinds_in m.model.vars.items) t) ≡ false →
      posted_one at k.solver (whole_of k) (plain_term t) weight m ≡ sized_member at (whole_of k) (record { term = constant (pos 0); weight = weight }) m
  posted_nothing e is = posted_late e ∙ ap (λ (u : Term). sized_member at (whole_of k) (record { term = u; weight = weight }) m) (for_by false is)

-- a term that is a number, by the kind that the solver tells
of_number : (o : Option InputKind) → same_kind number_kind o ≡ true → o ≡ Some number_kind
of_number (Some number_kind) h = refl
of_number (Some set_kind) h = let c : false ≡ true = h in cc
of_number None h = let c : false ≡ true = h in cc

pub number_told : (S : solvers.SolverState) (names : List (List ℕ)) (waiting : Option (List (Option ℤ))) (t : Term) →
    same_kind number_kind (kind_of_term (kinds_in S.model.vars.items) t) ≡ same_kind number_kind (kind_of_term (kinds_in (solver_seen S names waiting).model.vars.items) t)
number_told S names waiting t = ap (λ (ks : ℕ → Option InputKind). same_kind number_kind (kind_of_term ks t)) (sym (kinds_seen S names waiting))

pub number_is : (S : solvers.SolverState) (names : List (List ℕ)) (waiting : Option (List (Option ℤ))) (t : Term) →
    same_kind number_kind (kind_of_term (kinds_in (solver_seen S names waiting).model.vars.items) t) ≡ true → kind_of_term (kinds_in S.model.vars.items) t ≡ Some number_kind
number_is S names waiting t is = of_number (kind_of_term (kinds_in S.model.vars.items) t) (number_told S names waiting t ∙ is)

pub constant_kind : (kinds : ℕ → Option InputKind) (z : ℤ) → kind_of_term kinds (constant z) ≡ Some number_kind
constant_kind kinds z = fold-roll-Term (Option InputKind) (kind_step kinds) (Term-F.Const z)

-- and the number 0, that stands for any other
pub zero_kind : (kinds : ℕ → Option InputKind) (u : Term) → plain_term u ≡ constant (pos 0) → kind_of_term kinds u ≡ Some number_kind
zero_kind kinds u e = sym (plain.same_kind kinds u) ∙ ap (kind_of_term kinds) e ∙ constant_kind kinds (pos 0)

-- ---- the size

module _ (S T : solvers.SolverState) (names : List (List ℕ)) (waiting : Option (List (Option ℤ))) (at : Place) (k : TotalId) (x : Member) (free : early_member_refusal S k x.term x.weight ≡ None) (shallow : depth_of x.term ≤ MAX_TERM_DEPTH) where
  abbrev held : SolverState
  held = solver_seen S names waiting

  abbrev fits : Bool
  fits = nat_le (length (distinct_with (distinct_subterms S.model) x.term)) MAX_TERM_NODES

  refusal_is : member_refusal S k x.term x.weight ≡ (if not fits then Some (TooMany TermNodes) else None)
  refusal_is =
      ap (λ o. first_refusal o (size_refusal S.model x.term)) free ∙ ap (λ b. if b || not fits then Some (TooMany TermNodes) else None) (le_from (depth_of x.term) MAX_TERM_DEPTH shallow)

  abbrev with_it : Made
  with_it = Ok (record held { model = with_member held.model (whole_of k) (plain_member x) })

  sized_by : (b : Bool) → fits ≡ b → sized_member at (whole_of k) (plain_member x) held ≡ (if b then with_it else refused at (TooMany TermNodes))
  sized_by b e = ap (λ r. if r then with_it else refused at (TooMany TermNodes)) (room_seen S names waiting x.term ∙ e)

  after_seen : Adds S T k x → solver_seen T names waiting ≡ record held { model = with_member held.model (whole_of k) (plain_member x) }
  after_seen d =
      seen_by T names waiting (with_member (plain_model S.model) (whole_of k) (plain_member x)) S.assignment S.rules S.closed (got_member S.model T.model k.side k.index x d.model) d.assignment d.rules d.closed

  pub adds_ok : member_refusal S k x.term x.weight ≡ None → Adds S T k x → sized_member at (whole_of k) (plain_member x) held ≡ Ok (solver_seen T names waiting)
  adds_ok none d = by fits refl
    where
      by : (b : Bool) → fits ≡ b → sized_member at (whole_of k) (plain_member x) held ≡ Ok (solver_seen T names waiting)
      by true e = sized_by true e ∙ ap (λ (m : SolverState). Ok m) (sym (after_seen d))
      by false e = let c : Some (TooMany TermNodes) ≡ None = sym (ap (λ b. if not b then Some (TooMany TermNodes) else None) e) ∙ sym refusal_is ∙ none in cc

  adds_refused : (f : RunFault) → member_refusal S k x.term x.weight ≡ Some f → sized_member at (whole_of k) (plain_member x) held ≡ refused at f
  adds_refused f some = by fits refl
    where
      by : (b : Bool) → fits ≡ b → sized_member at (whole_of k) (plain_member x) held ≡ refused at f
      by false e =
          let too_many : Some (TooMany TermNodes) ≡ Some f = sym (ap (λ b. if not b then Some (TooMany TermNodes) else None) e) ∙ sym refusal_is ∙ some in
          let same : TooMany TermNodes ≡ f = cc in
          sized_by false e ∙ ap (refused at) same
      by true e = let c : None ≡ Some f = sym (ap (λ b. if not b then Some (TooMany TermNodes) else None) e) ∙ sym refusal_is ∙ some in cc

  pub adds_stops : (fault : SolverFault) (stop : Stop) → IsRefusal (member_refusal S k x.term x.weight) fault → StopsAs at names fault stop → Ends stop (sized_member at (whole_of k) (plain_member x) held)
  adds_stops (faults.Run f) stop is told = subst (λ (s : Stop). Ends s (sized_member at (whole_of k) (plain_member x) held)) (sym told) (adds_refused f is)
  adds_stops (faults.At place f) stop is told = absurd is
  adds_stops (faults.Cyclic ids) stop is told = absurd is
  adds_stops faults.NoMemory stop is told = subst (λ (s : Stop). Ends s (sized_member at (whole_of k) (plain_member x) held)) (sym told) tt

  -- ---- what holds of it then
  pub added_whole : (number : ℕ) → IsWhole number S names waiting → Adds S T k x → IsWhole number T names waiting
  added_whole number whole d = record {
    number_ = d.number ∙ whole.number_;
    usable = d.usable ∙ whole.usable;
    named = whole.named ∙ ap length (sym d.model.vars);
    waits_ = open_waiting S T waiting (early_open S.closed (is_own_member S k x.term) (int_lt x.weight (pos 0)) free).0 whole.waits_;
  }

  pub added_sets : IsWellFormed S.model → HasDefinedSets S.model → Adds S T k x → HasDefinedSets T.model
  added_sets formed sets d = sets_stay S.model T.model d.model.vars (definitions_with_member S.model T.model k.side k.index x formed d.model) sets
