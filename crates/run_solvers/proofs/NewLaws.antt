-- A new solver is the one that the meaning of programs begins with.
use Rattle.std.proofs.Common.{◌≡◌, ℕ, ℤ, Bool, List, [], None, length, sym, ap, ◌∙◌, map, arith}
use Rattle.posted_users.specs.KeptRule.{KeptRule}
use Rattle.ls_solver.specs.State as solvers
use Rattle.ls_solver.specs.State.{IsNew}
use Rattle.model_view.specs.Building.{empty_model}
use Rattle.model_view.specs.Plain.{plain_definition, plain_model, plain_total}
use Rattle.model_view.specs.Vectors.{vec_of}
use Rattle.term_model.specs.Wellformed.{HasDefinedSets}
use Rattle.term_model.specs.declared.model.Definition.{Definition}
use Rattle.term_model.specs.declared.model.Model.{Model}
use Rattle.term_model.specs.declared.model.Posted.{Posted}
use Rattle.term_model.specs.declared.model.Total.{Total}
use Rattle.term_model.specs.declared.model.VarDecl.{VarDecl}
use Rattle.comet_meaning.specs.Solvers.{SolverState, new_solver}
use Rattle.run_solvers.specs.Kept.{IsWhole}
use Rattle.run_solvers.specs.Views.{solver_seen}

abbrev plain_of : List VarDecl → List Definition → List Total → List Total → List Posted → Model
plain_of vars defs systems objectives posted = record {
  vars = vec_of vars;
  defs = vec_of (map plain_definition defs);
  systems = vec_of (map plain_total systems);
  objectives = vec_of (map plain_total objectives);
  posted = vec_of posted;
}

empty_plain : (M : Model) → M.vars.items ≡ [] → M.defs.items ≡ [] → M.systems.items ≡ [] → M.objectives.items ≡ [] → M.posted.items ≡ [] → plain_model M ≡ empty_model
unfolding empty_model
empty_plain M a b c d e =
    ap (λ (vars : List VarDecl). plain_of vars M.defs.items M.systems.items M.objectives.items M.posted.items) a
    ∙ ap (λ (defs : List Definition). plain_of [] defs M.systems.items M.objectives.items M.posted.items) b
    ∙ ap (λ (systems : List Total). plain_of [] [] systems M.objectives.items M.posted.items) c
    ∙ ap (λ (objectives : List Total). plain_of [] [] [] objectives M.posted.items) d
    ∙ ap (λ (posted : List Posted). plain_of [] [] [] [] posted) e

abbrev seen_of : Model → List ℤ → List KeptRule → Bool → SolverState
seen_of M assignment rules closed = record { model = M; assignment = assignment; closed = closed; rules = rules; names = []; waiting = None }

pub new_seen : (number : ℕ) (S : solvers.SolverState) → IsNew number S → solver_seen S [] None ≡ new_solver
new_seen number S new =
    ap (λ (M : Model). seen_of M S.assignment S.rules S.closed) (empty_plain S.model new.vars new.defs new.systems new.objectives new.posted)
    ∙ ap (λ (a : List ℤ). seen_of empty_model a S.rules S.closed) new.assignment
    ∙ ap (λ (rules : List KeptRule). seen_of empty_model [] rules S.closed) new.rules
    ∙ ap (λ (b : Bool). seen_of empty_model [] [] b) new.closed

pub new_kept : (number : ℕ) (S : solvers.SolverState) → IsNew number S → IsWhole number S [] None × HasDefinedSets S.model
new_kept number S new = (
  record { number_ = new.numbered; usable = new.usable; named = sym (ap length new.vars); waits_ = tt },
  λ i lt none. absurd (let count : length S.model.vars.items ≡ 0 = ap length new.vars in omega (arith, lt, count)),
)
