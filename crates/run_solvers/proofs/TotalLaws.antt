-- A solver's systems and objectives are those that the meaning of programs has, and so is a solver that got one.
use Rattle.std.proofs.Common.{◌≡◌, ℕ, ℤ, ◌<◌, Bool, true, false, ◌&&◌, List, Option, Some, None, Ok, length, refl, sym, ap, ◌∙◌, subst, true≢false, nat_eq}
use Rattle.std.specs.Prelude.{nat_lt, if◌then◌else◌}
use Rattle.cbl_base.specs.declared.faults.RunFault.{RunFault}
use Rattle.cbl_base.specs.declared.faults.RunFault.TheVariants.{AlreadyClosed}
use Rattle.cbl_base.specs.declared.place.Place.{Place}
use Rattle.ls_solver.specs.Adding.{GetsMember}
use Rattle.ls_solver.specs.Answers.{IsRefusal}
use Rattle.ls_solver.specs.State as solvers
use Rattle.ls_solver.specs.Totals.{GetsTotal, MakesTotal, is_own_total, total_refusal, whole_of}
use Rattle.ls_solver.specs.declared.fault.SolverFault.{SolverFault}
use Rattle.ls_solver.specs.declared.fault.SolverFault.TheVariants as faults
use Rattle.ls_solver.specs.OfSolverModels.declared.totals.TotalId.{TotalId}
use Rattle.ls_solver.proofs.OfSolverModels.TotalLaws.{definitions_with_total}
use Rattle.term_model.specs.Definitions.{definition_of}
use Rattle.term_model.specs.Kinds.{kinds_in}
use Rattle.term_model.specs.Posting.{totals_by}
use Rattle.term_model.specs.Wellformed.{HasDefinedSets}
use Rattle.term_model.specs.declared.model.Member.{Member}
use Rattle.term_model.specs.declared.model.Model.{Model}
use Rattle.term_model.specs.declared.model.VarDecl.{VarDecl}
use Rattle.term_model.specs.declared.posting.Side.{Side}
use Rattle.term_model.specs.declared.posting.Side.TheVariants.{Systems, Objectives}
use Rattle.model_values.specs.Fresh.{whole_by}
use Rattle.model_view.specs.Plain.{plain_member, plain_model, plain_total}
use Rattle.model_view.proofs.PlainModels.{plain_totals}
use Rattle.model_view.proofs.PlainTerms.{length_map}
use Rattle.total_view.proofs.GainedTotals.{gets_constraint, gets_objective, gets_part, gets_system}
use Rattle.comet_meaning.specs.Members.{with_member}
use Rattle.comet_meaning.specs.Solvers.{SolverState}
use Rattle.comet_meaning.specs.Systems.{has_whole}
use Rattle.run_values.specs.declared.stop.Stop.{Stop}
use Rattle.run_solvers.specs.Changing.{refused, total_one, with_total}
use Rattle.run_solvers.specs.Kept.{AreWaiting, IsWhole}
use Rattle.run_solvers.specs.Makes.{Ends}
use Rattle.run_solvers.specs.Refusals.{StopsAs}
use Rattle.run_solvers.specs.Views.{solver_seen}
use Rattle.run_solvers.proofs.DefineLaws.{seen_by}
use Rattle.run_solvers.proofs.SeenLaws.{eq_itself}

-- ---- which there are

pub counted : (M : Model) (side : Side) → length (totals_by (plain_model M) side) ≡ length (totals_by M side)
counted M side = ap length (plain_totals M side) ∙ length_map plain_total (totals_by M side)

module _ (S : solvers.SolverState) (names : List (List ℕ)) (waiting : Option (List (Option ℤ))) where
  has_by : (side : Side) (i : ℕ) → has_whole (solver_seen S names waiting) (whole_by side i) ≡ nat_lt i (length (totals_by S.model side))
  has_by Systems i = ap (nat_lt i) (counted S.model Systems)
  has_by Objectives i = ap (nat_lt i) (counted S.model Objectives)

  pub has_seen : (k : TotalId) → k.solver ≡ S.number → has_whole (solver_seen S names waiting) (whole_of k) ≡ is_own_total S k
  has_seen k own =
      has_by k.side k.index ∙ sym (ap (λ b. b && nat_lt k.index (length (totals_by S.model k.side))) (ap (λ n. nat_eq n S.number) own ∙ eq_itself S.number))

-- ---- a model with one more

got_total : (M N : Model) (side : Side) (at : Place) → GetsTotal M N side at → plain_model N ≡ with_total (plain_model M) side at
got_total M N Systems at g = gets_system M N g.totals.last at g.vars g.defs g.posted g.totals.placed g.totals.blank g.totals.all g.others
got_total M N Objectives at g = gets_objective M N g.totals.last at g.vars g.defs g.posted g.totals.placed g.totals.blank g.totals.all g.others

pub got_member : (M N : Model) (side : Side) (k : ℕ) (x : Member) → GetsMember M N side k x → plain_model N ≡ with_member (plain_model M) (whole_by side k) (plain_member x)
got_member M N Systems k x g = gets_constraint M N k g.totals.old g.totals.new x g.vars g.defs g.totals.same g.totals.members g.totals.stood g.totals.all g.others g.posted
got_member M N Objectives k x g = gets_part M N k g.totals.old g.totals.new x g.vars g.defs g.totals.same g.totals.members g.totals.stood g.totals.all g.others g.posted

-- ---- what holds of a solver whose variables and definitions are as before

pub open_waiting : (S T : solvers.SolverState) (w : Option (List (Option ℤ))) → S.closed ≡ false → AreWaiting S w → AreWaiting T w
open_waiting S T None e h = tt
open_waiting S T (Some ws) e h = absurd (true≢false (sym h.0 ∙ e))

pub sets_stay : (M N : Model) → N.vars.items ≡ M.vars.items → ((i : ℕ) → definition_of N i ≡ definition_of M i) → HasDefinedSets M → HasDefinedSets N
sets_stay M N vars same sets i lt none =
    ap (λ (ds : List VarDecl). kinds_in ds i) vars ∙ sets i (subst (λ (ds : List VarDecl). i < length ds) vars lt) (sym (same i) ∙ none)

-- ---- a solver with one more

module _ (S T : solvers.SolverState) (names : List (List ℕ)) (waiting : Option (List (Option ℤ))) (at : Place) (side : Side) where
  abbrev m : SolverState
  m = solver_seen S names waiting

  open_by : (b : Bool) → (if b then Some AlreadyClosed else None) ≡ None → b ≡ false
  open_by true e = let c : Some AlreadyClosed ≡ None = e in cc
  open_by false e = refl

  shut_by : (b : Bool) (f : RunFault) → (if b then Some AlreadyClosed else None) ≡ Some f → (b ≡ true) × (AlreadyClosed ≡ f)
  shut_by true f e = (refl, cc)
  shut_by false f e = let c : None ≡ Some f = e in cc

  total_by : (b : Bool) → S.closed ≡ b → total_one at side m ≡ (if b then refused at AlreadyClosed else Ok (record m { model = with_total m.model side at }))
  total_by b e = ap (λ c. if c then refused at AlreadyClosed else Ok (record m { model = with_total m.model side at })) e

  pub total_made : total_refusal S ≡ None → MakesTotal S T side at → total_one at side m ≡ Ok (solver_seen T names waiting)
  total_made none d =
      total_by false (open_by S.closed none)
      ∙ ap (λ (n : SolverState). Ok n) (sym (seen_by T names waiting (with_total (plain_model S.model) side at) S.assignment S.rules S.closed (got_total S.model T.model side at d.model) d.assignment d.rules d.closed))

  pub total_stops : (fault : SolverFault) (stop : Stop) → IsRefusal (total_refusal S) fault → StopsAs at names fault stop → Ends stop (total_one at side m)
  total_stops (faults.Run f) stop is told =
      let parts = shut_by S.closed f is in
      subst (λ (s : Stop). Ends s (total_one at side m)) (sym told) (total_by true parts.0 ∙ ap (refused at) parts.1)
  total_stops (faults.At place f) stop is told = absurd is
  total_stops (faults.Cyclic ids) stop is told = absurd is
  total_stops faults.NoMemory stop is told = subst (λ (s : Stop). Ends s (total_one at side m)) (sym told) tt

  pub total_whole : (number : ℕ) → IsWhole number S names waiting → total_refusal S ≡ None → MakesTotal S T side at → IsWhole number T names waiting
  total_whole number whole none d = record {
    number_ = d.number ∙ whole.number_;
    usable = d.usable ∙ whole.usable;
    named = whole.named ∙ ap length (sym d.model.vars);
    waits_ = open_waiting S T waiting (open_by S.closed none) whole.waits_;
  }

  pub total_sets : HasDefinedSets S.model → MakesTotal S T side at → HasDefinedSets T.model
  total_sets sets d = sets_stay S.model T.model d.model.vars (definitions_with_total S.model T.model side at d.model) sets
