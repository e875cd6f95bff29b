-- A solver as the meaning of programs has it: its variables, their definitions and kinds, and its values are its own.
use Rattle.std.proofs.Common.{◌≡◌, ℕ, ℤ, Bool, true, ◌&&◌, List, Option, length, refl, ap, ◌∙◌, nat_eq, arith}
use Rattle.std.specs.Prelude.{is_some, nat_lt}
use Rattle.std.proofs.Math.Path.{fun_ext}
use Rattle.cbl_base.specs.declared.ids.VarId.{VarId}
use Rattle.ls_solver.specs.Ids.{has_definition, is_own, names_only, names_step}
use Rattle.ls_solver.specs.Reading.{fresh_value}
use Rattle.ls_solver.specs.State as solvers
use Rattle.model_values.specs.Fresh.{fresh_of}
use Rattle.model_values.specs.Outcomes.{Outcome}
use Rattle.model_view.specs.Building.{constant}
use Rattle.model_view.specs.Naming.{dependencies, named_cycle}
use Rattle.model_view.specs.Plain.{plain_term}
use Rattle.model_view.specs.Variables.{all_variables, pass_step}
use Rattle.model_view.proofs.Dependencies.{same_dependencies}
use Rattle.model_view.proofs.PlainModels.{plain_vars, same_definition, same_outcomes, same_values}
use Rattle.model_view.proofs.PlainParts.{same_passing}
use Rattle.term_model.specs.Kinds.{kinds_in}
use Rattle.posted_users.specs.KeptRule.{users_of}
use Rattle.term_model.specs.declared.term.Term.{Term}
use Rattle.term_model.specs.declared.term.Term.TheOpen.{Term-F}
use Rattle.term_model.specs.declared.term.Term.TheFolds.{fold-Term, fold-roll-Term}
use Rattle.comet_meaning.specs.Models.{owns}
use Rattle.comet_meaning.specs.Parts.{value_of, value_now}
use Rattle.comet_meaning.specs.Solvers.{SolverState, variable_count, is_defined, fresh_values, cycle_in}
use Rattle.run_solvers.specs.Views.{solver_seen}

same_steps : (p : VarId → Bool) (y : Term-F Bool) → pass_step p y ≡ names_step p y
same_steps p (Term-F.Const x) = refl
same_steps p (Term-F.ConstSet s) = refl
same_steps p (Term-F.Var v) = refl
same_steps p (Term-F.Node op args place) = refl

pub same_tests : (p : VarId → Bool) (t : Term) → all_variables p t ≡ names_only p t
same_tests p t = ap (λ (step : Term-F Bool → Bool). fold-Term Bool step t) (fun_ext (same_steps p))

-- a number names no id
pub constant_names : (S : solvers.SolverState) (z : ℤ) → names_only (is_own S) (constant z) ≡ true
constant_names S z = fold-roll-Term Bool (names_step (is_own S)) (Term-F.Const z)

pub eq_itself : (n : ℕ) → nat_eq n n ≡ true
eq_itself n = grind arith

module _ (S : solvers.SolverState) (names : List (List ℕ)) (waiting : Option (List (Option ℤ))) where
  abbrev seen : SolverState
  seen = solver_seen S names waiting

  pub count_seen : variable_count seen ≡ length S.model.vars.items
  count_seen = ap length (plain_vars S.model)

  pub owns_seen : (k : ℕ) (x : VarId) → k ≡ S.number → owns k seen x ≡ is_own S x
  owns_seen k x e = ap (λ n. nat_eq x.solver n && nat_lt x.index (variable_count seen)) e ∙ ap (λ n. nat_eq x.solver S.number && nat_lt x.index n) count_seen

  pub defined_seen : (i : ℕ) → is_defined seen i ≡ has_definition S.model i
  defined_seen i = ap is_some (same_definition S.model i)

  pub kinds_seen : kinds_in seen.model.vars.items ≡ kinds_in S.model.vars.items
  kinds_seen = ap kinds_in (plain_vars S.model)

  pub names_seen : (k : ℕ) (t : Term) → k ≡ S.number → all_variables (owns k seen) (plain_term t) ≡ names_only (is_own S) t
  names_seen k t e = same_passing (owns k seen) t ∙ same_tests (owns k seen) t ∙ ap (λ (p : VarId → Bool). names_only p t) (fun_ext (λ x. owns_seen k x e))

  pub fresh_seen : fresh_values seen ≡ fresh_of (users_of S.rules) S.model S.assignment
  unfolding fresh_values
  fresh_seen = same_values (users_of S.rules) S.model S.assignment

  pub now_seen : (i : ℕ) → value_now seen i ≡ value_of (fresh_value S i)
  now_seen i = ap (λ (f : ℕ → Outcome). value_of (f i)) (same_outcomes (users_of S.rules) S.model S.assignment)

  pub cycle_seen : cycle_in seen ≡ named_cycle (dependencies S.model)
  cycle_seen = ap named_cycle (same_dependencies S.model)
