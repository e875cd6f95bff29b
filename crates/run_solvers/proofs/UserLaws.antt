-- What the post of a user's constraint makes of a solver, and how it stops, is what the meaning of programs says.
use Rattle.std.proofs.Common.{◌≡◌, ℕ, suc, ◌+◌, All, ℤ, pos, ◌≤◌, ◌<◌, Bool, true, false, ◌++◌, List, [], ◌∷◌, Option, Some, None, Ok, Err, Vec, Global, length, map, get_or, refl, sym, ap, ◌∙◌, subst, arith}
use Rattle.std.specs.Prelude.{int_lt}
use Rattle.std.proofs.lemmas.Option.{slice_get-get_or}
use native.Mathlib.Decide.{ℕ_discrete}
use Rattle.std.proofs.lemmas.List.Elements.{All-cons, All-nil}
use Rattle.cbl_base.specs.Inputs.{number_kind}
use Rattle.cbl_base.specs.declared.faults.RunFault.{RunFault}
use Rattle.cbl_base.specs.declared.limits.TheConstants.{MAX_TERM_DEPTH}
use Rattle.cbl_base.specs.declared.place.Place.{Place}
use Rattle.cbl_operations.specs.declared.op.Op.TheVariants.{User}
use Rattle.posted_users.specs.KeptRule.{KeptRule}
use Rattle.ls_solver.specs.Adding.{Adds, early_member_refusal, is_own_member, member_refusal}
use Rattle.ls_solver.specs.Answers.{IsRefusal}
use Rattle.ls_solver.specs.Defining.{first_refusal, size_refusal}
use Rattle.ls_solver.specs.State as solvers
use Rattle.ls_solver.specs.Totals.{of_system, whole_of}
use Rattle.ls_solver.specs.declared.fault.SolverFault.{SolverFault}
use Rattle.ls_solver.specs.declared.fault.SolverFault.TheVariants as faults
use Rattle.ls_solver.proofs.UserLaws.{user_kind}
use Rattle.ls_solver.specs.OfSolverModels.UserPosting.{AddsUser, no_place, user_term}
use Rattle.ls_solver.specs.OfSolverModels.declared.totals.TotalId.{TotalId}
use Rattle.ls_solver.proofs.OfSolverModels.MemberLaws.{definitions_with_member}
use Rattle.term_model.specs.Definitions.{joined}
use Rattle.term_model.specs.Depth.{depth_of, greatest}
use Rattle.term_model.specs.Kinds.{kind_of_term, kinds_in}
use Rattle.term_model.specs.Naming.{users_of}
use Rattle.term_model.specs.Wellformed.{HasDefinedSets, IsWellFormed}
use Rattle.term_model.specs.declared.model.Member.{Member}
use Rattle.term_model.specs.declared.posting.Side.{Side}
use Rattle.term_model.specs.declared.posting.Side.TheVariants.{Systems}
use Rattle.term_model.specs.declared.term.Term.{Term}
use Rattle.model_view.specs.Plain.{plain_term}
use Rattle.comet_meaning.specs.Models.{same_kind}
use Rattle.comet_meaning.specs.Outcome.{Faulted}
use Rattle.comet_meaning.specs.Solvers.{SolverState}
use Rattle.comet_meaning.specs.Systems.{user_node}
use Rattle.run_values.specs.declared.stop.Stop.{Stop}
use Rattle.run_solvers.specs.Building.{AreBuilt}
use Rattle.run_solvers.specs.Changing.{Made, posted_one, posted_user_one, refused}
use Rattle.run_solvers.specs.Kept.{IsWhole}
use Rattle.run_solvers.specs.Makes.{Ends}
use Rattle.run_solvers.specs.Refusals.{StopsAs}
use Rattle.run_solvers.specs.Views.{solver_seen}
use Rattle.run_solvers.proofs.BuiltLaws.{node_depth, node_seen}
use Rattle.run_solvers.proofs.PostLaws.{adds_ok, adds_stops, early_open, number_told, posted_early, posted_number}
use Rattle.run_solvers.proofs.TotalLaws.{open_waiting, sets_stay}

-- ---- terms in a row

front_of_none : {A : Type 0} (xs ys : List A) → xs ++ ys ≡ [] → xs ≡ []
front_of_none [] ys e = refl
front_of_none (x ∷ xs) ys e = let c : x ∷ (xs ++ ys) ≡ [] = e in cc

rest_of_none : {A : Type 0} (xs ys : List A) → xs ++ ys ≡ [] → ys ≡ []
rest_of_none [] ys e = e
rest_of_none (x ∷ xs) ys e = let c : x ∷ (xs ++ ys) ≡ [] = e in cc

pub none_hold : (ts : List Term) → joined (map users_of ts) ≡ [] → All (λ t. users_of t ≡ []) ts
none_hold [] e = All-nil (λ t. users_of t ≡ [])
none_hold (t ∷ ts) e =
    All-cons (λ u. users_of u ≡ []) t ts (front_of_none (users_of t) (joined (map users_of ts)) e) (none_hold ts (rest_of_none (users_of t) (joined (map users_of ts)) e))

pub each_within : (most : ℕ) (ts : List Term) → greatest (map depth_of ts) ≤ most → All (λ t. depth_of t ≤ most) ts
each_within most [] h = All-nil (λ t. depth_of t ≤ most)
each_within most (t ∷ ts) h =
    let first : depth_of t ≤ most = grind (arith, h) in
    let rest : greatest (map depth_of ts) ≤ most = grind (arith, h) in
    All-cons (λ u. depth_of u ≤ most) t ts first (each_within most ts rest)

-- those before a place pass, and then those before the next one
abbrev pub AllBefore : (Term → Type 0) → List Term → ℕ → Type 0
AllBefore P ts n = (k : ℕ) (d : Term) → k < length ts → k < n → P (get_or ts k d)

same_at : (ts : List Term) (k : ℕ) (d e : Term) → k < length ts → get_or ts k d ≡ get_or ts k e
same_at ts k d e lt = let both : Some (get_or ts k d) ≡ Some (get_or ts k e) = sym (slice_get-get_or ts k d lt) ∙ slice_get-get_or ts k e lt in cc

pub one_before : (P : Term → Type 0) (ts : List Term) (n : ℕ) (t : Term) → t ≡ get_or ts n t → P t → AllBefore P ts n → AllBefore P ts (n + 1)
one_before P ts n t is p before k d lt below = by (ℕ_discrete k n) where
  by : Dec (k ≡ n) → P (get_or ts k d)
  by (yes e) = subst P (is ∙ ap (λ j. get_or ts j t) (sym e) ∙ same_at ts k t d lt) p
  by (no ne) = before k d lt (omega (arith, below, ne))

-- ---- the post

first_none : (a b : Option RunFault) → first_refusal a b ≡ None → a ≡ None
first_none None b e = refl
first_none (Some f) b e = let c : Some f ≡ None = e in cc

pub system_is : (k : TotalId) → k.side ≡ Systems → of_system (record { solver = k.solver; index = k.index }) ≡ k
system_is k e = ap (λ (side : Side). record { side = side; solver = k.solver; index = k.index }) (sym e)

refused_as : (at : Place) (names : List (List ℕ)) (f : RunFault) (fault : SolverFault) (stop : Stop) → IsRefusal (Some f) fault → StopsAs at names fault stop → Ends stop (refused at f)
refused_as at names f (faults.Run g) stop is told =
    let same : f ≡ g = cc in subst (λ (s : Stop). Ends s (refused at f)) (sym told) (ap (refused at) same)
refused_as at names f (faults.At place g) stop is told = absurd is
refused_as at names f (faults.Cyclic ids) stop is told = absurd is
refused_as at names f faults.NoMemory stop is told = subst (λ (s : Stop). Ends s (refused at f)) (sym told) tt

module _ (S : solvers.SolverState) (names : List (List ℕ)) (waiting : Option (List (Option ℤ))) (at : Place) (k : TotalId) (places : Vec Term Global) (weight : ℤ) (rule : KeptRule) (own : k.solver ≡ S.number) where
  abbrev more : solvers.SolverState
  more = record S { rules = S.rules ++ rule ∷ [] }

  abbrev term : Term
  term = user_term (length S.rules) places

  abbrev member : Member
  member = record { term = term; weight = weight }

  module _ (deepest : ℕ) (plain : List Term) (are : AreBuilt places.items deepest plain) (lt : deepest < MAX_TERM_DEPTH) (numbers : All (λ t. kind_of_term (kinds_in S.model.vars.items) t ≡ Some number_kind) places.items) where
    abbrev meant : Made
    meant = posted_user_one at k.solver (whole_of k) rule plain weight (solver_seen S names waiting)

    term_seen : plain_term term ≡ user_node plain (solver_seen S names waiting)
    term_seen = node_seen (User (length S.rules)) places no_place deepest plain are

    as_post : meant ≡ posted_one at k.solver (whole_of k) (plain_term term) weight (solver_seen more names waiting)
    as_post = ap (λ (t : Term). posted_one at k.solver (whole_of k) t weight (solver_seen more names waiting)) (sym term_seen)

    shallow : depth_of term ≤ MAX_TERM_DEPTH
    shallow = subst (λ n. n ≤ MAX_TERM_DEPTH) (sym (node_depth (User (length S.rules)) places no_place deepest plain are)) (omega (arith, lt))

    number : same_kind number_kind (kind_of_term (kinds_in (solver_seen more names waiting).model.vars.items) term) ≡ true
    number = sym (number_told more names waiting term) ∙ ap (same_kind number_kind) (user_kind (kinds_in S.model.vars.items) (length S.rules) places numbers)

    pub user_posted : (T : solvers.SolverState) → member_refusal S k term weight ≡ None → AddsUser S T k member rule → meant ≡ Ok (solver_seen T names waiting)
    user_posted T none d =
        let early = first_none (early_member_refusal S k term weight) (size_refusal S.model term) none in
        let adds : Adds more T k member = record { number = d.number; model = d.model; assignment = d.assignment; rules = d.rules; closed = d.closed; usable = d.usable } in
        as_post ∙ posted_number more names waiting at k term weight own early number ∙ adds_ok more T names waiting at k member early shallow none adds

    pub user_stops : (fault : SolverFault) (stop : Stop) → IsRefusal (member_refusal S k term weight) fault → StopsAs at names fault stop → Ends stop meant
    user_stops fault stop is told = by (early_member_refusal S k term weight) refl where
      by : (o : Option RunFault) → early_member_refusal S k term weight ≡ o → Ends stop meant
      by None e = subst (Ends stop) (sym (as_post ∙ posted_number more names waiting at k term weight own e number)) (adds_stops more more names waiting at k member e shallow fault stop is told)
      by (Some f) e =
          subst (Ends stop) (sym (as_post ∙ posted_early more names waiting at k term weight own f e))
          (refused_as at names f fault stop (subst (λ o. IsRefusal (first_refusal o (size_refusal S.model term)) fault) e is) told)

  -- what holds of it then
  pub user_whole : (T : solvers.SolverState) (number : ℕ) → member_refusal S k term weight ≡ None → IsWhole number S names waiting → AddsUser S T k member rule → IsWhole number T names waiting
  user_whole T number none whole d = record {
    number_ = d.number ∙ whole.number_;
    usable = d.usable ∙ whole.usable;
    named = whole.named ∙ ap length (sym d.model.vars);
    waits_ = open_waiting S T waiting (early_open S.closed (is_own_member S k term) (int_lt weight (pos 0)) (first_none (early_member_refusal S k term weight) (size_refusal S.model term) none)).0 whole.waits_;
  }

  pub user_sets : (T : solvers.SolverState) → IsWellFormed S.model → HasDefinedSets S.model → AddsUser S T k member rule → HasDefinedSets T.model
  user_sets T formed sets d = sets_stay S.model T.model d.model.vars (definitions_with_member S.model T.model k.side k.index member formed d.model) sets
