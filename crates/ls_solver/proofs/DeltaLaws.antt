-- Deltas of a solver: a variable exchanged with itself changes nothing; and what is asked of what is closed.
use Rattle.std.proofs.Common.{◌≡◌, ◌≢◌, ℕ, ℤ, zero, suc, ◌<◌, Bool, true, false, List, [], ◌∷◌, Result, Ok, Err, None, length, refl, sym, ap, ◌∙◌, subst, pos, ◌-ℤ◌, arith, true≢false}
use Rattle.std.specs.Prelude.{nat_eq, slice_index_or, slice_set, if◌then◌else◌}
use Rattle.std.proofs.lemmas.Bool.{eqb-true, eqb-false}
use Rattle.cbl_base.specs.Arithmetic.{exact}
use Rattle.cbl_base.specs.Inputs.{number_of}
use Rattle.cbl_base.specs.NodeLaw.{Rule}
use Rattle.cbl_base.specs.declared.faults.RunFault.TheVariants.{DefinedVariable}
use Rattle.cbl_base.specs.declared.input.Input.{Input}
use Rattle.inc_store.specs.Views.{value_at}
use Rattle.ls_solver.specs.Touching.{is_idle}
use Rattle.ls_solver.proofs.CommitLaws.{setting_in}
use Rattle.model_values.specs.Asked.{answer_of}
use Rattle.model_values.specs.Delta.{AreOwn, delta_of, difference, moved, moves_defined, value_of}
use Rattle.model_values.specs.declared.asked.AskStop.{AskStop}
use Rattle.model_values.specs.declared.asked.AskStop.TheVariants.{Run}
use Rattle.model_values.specs.declared.deltas.Move.{Move}
use Rattle.model_values.specs.declared.deltas.Move.TheVariants.{Assign, Swap}
use Rattle.model_values.specs.declared.failure.Failure.{Failure}
use Rattle.posted_users.specs.KeptRule.{users_of}
use Rattle.solver_models.specs.State.{SolverState}
use Rattle.solver_models.specs.Totals.{whole_of}
use Rattle.solver_models.specs.declared.totals.TotalId.{TotalId}
use Rattle.solver_store.specs.Closed.{IsClosed}
use Rattle.solver_store.specs.declared.closed.Closed.{Closed}
use Rattle.solver_store.proofs.ClosedReads.{total_value}
use Rattle.solver_store.proofs.Targets.{is_of}
use Rattle.store_laws.specs.Deltas.{IsProper}
use Rattle.term_model.specs.Posting.{totals_by}
use Rattle.term_model.specs.declared.model.Model.{Model}

set_same : (a : List ℤ) (i : ℕ) → slice_set a i (slice_index_or a i (pos 0)) ≡ a
set_same [] i = refl
set_same (z ∷ a) zero = refl
set_same (z ∷ a) (suc i) = ap (λ b. z ∷ b) (set_same a i)

swap_same : (a : List ℤ) (i : ℕ) → moved a (Swap i i) ≡ a
swap_same a i = ap (λ b. slice_set b i (slice_index_or a i (pos 0))) (set_same a i) ∙ set_same a i

no_difference : (z : ℤ) → z -ℤ z ≡ pos 0
no_difference z = grind arith

-- a move of own variables that isn't idle is proper
pub is_proper : (M : Model) (change : Move) → AreOwn M change → is_idle change ≡ false → IsProper M change
is_proper M (Assign var value) own e = own
is_proper M (Swap left right) own e = (own.0, own.1, λ same. eqb-false left right e same)

module _ {N : Type 0} (rule : N → Rule) (held : N → List Input) (ready : N → Type 0) (s : SolverState) (c : Closed N) (is : IsClosed rule held ready (setting_in s) c) (k : TotalId) (there : k.index < length (totals_by s.model k.side)) where
  abbrev value : List ℤ → Result ℤ Failure
  value a = value_of (users_of s.rules) s.model a (whole_of k)

  pub idle_delta : (change : Move) → is_idle change ≡ true → moves_defined s.model change ≡ false → delta_of (users_of s.rules) s.model s.assignment (whole_of k) change ≡ Ok (pos 0)
  idle_delta (Assign var v) e free = absurd (true≢false (sym e))
  idle_delta (Swap left right) e free =
      let same : left ≡ right = eqb-true left right e in
      let z = number_of (value_at c.store ((setting_in s).total (whole_of k))) in
      ap (λ b. if b then Err (Run DefinedVariable) else difference (value (moved s.assignment (Swap left right))) (value s.assignment)) free
      ∙ ap (λ j. difference (value (moved s.assignment (Swap left j))) (value s.assignment)) (sym same)
      ∙ ap (λ b. difference (value b) (value s.assignment)) (swap_same s.assignment left)
      ∙ ap (λ v. difference v v) (total_value rule held ready (setting_in s) c.store is.store (whole_of k) (is_of s.model k.side k.index there))
      ∙ ap (λ d. answer_of (exact d)) (no_difference z)
