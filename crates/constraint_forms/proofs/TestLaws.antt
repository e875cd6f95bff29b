-- What must hold of the arguments of a constraint function.
use Rattle.std.proofs.Common.{◌≡◌, ap, ℕ, ℤ, Bool, true, false, List, length}
use Rattle.std.specs.Prelude.{nat_eq}
use Rattle.std.proofs.lemmas.Bool.{eq-eqb, ne_eqb}
use Rattle.cbl_base.specs.declared.place.Place.{Place}
use Rattle.cbl_base.specs.declared.faults.RunFault.TheVariants.{OutOfRange}
use Rattle.cbl_violations.specs.Constraints.{is_proper}
use Rattle.cbl_violations.specs.declared.constraint.Constraint.{Constraint}
use Rattle.cbl_violations.specs.declared.constraint.Constraint.TheVariants.{Sequence}
use Rattle.cbl_operations.specs.declared.op.Op.TheVariants as ops
use Rattle.term_model.specs.declared.term.Term.{Term}
use Rattle.comet_meaning.specs.State.{State, left}
use Rattle.comet_meaning.specs.Outcome.{Act, Halted, Faulted, unless, ◌>>=◌}
use Rattle.comet_meaning.specs.TermForms.{node_form}
use Rattle.constraint_forms.specs.Steps.{even_node, window_node}

unless_so : {A : Type 0} (b : Bool) (at : Place) (m : Act A) (s : State) → b ≡ true → (unless b at OutOfRange >>= λ _. m) s ≡ m s
unless_so {A} b at m s h = ap (λ (q : Bool). (unless q at OutOfRange >>= λ _. m) s) h

unless_not : {A : Type 0} (b : Bool) (at : Place) (m : Act A) (s : State) → b ≡ false → (unless b at OutOfRange >>= λ _. m) s ≡ Halted (Faulted at OutOfRange) (left s)
unless_not {A} b at m s h = ap (λ (q : Bool). (unless q at OutOfRange >>= λ _. m) s) h

module _ (at : Place) (n : ℕ) (c : Constraint) (ts : List Term) (s : State) where
  pub even_so : n ≡ length ts → even_node at n c ts s ≡ node_form at (ops.Constraint c) ts s
  even_so h = unless_so (nat_eq n (length ts)) at (node_form at (ops.Constraint c) ts) s (eq-eqb n (length ts) h)

  pub even_not : (n ≡ length ts → ⊥) → even_node at n c ts s ≡ Halted (Faulted at OutOfRange) (left s)
  even_not h = unless_not (nat_eq n (length ts)) at (node_form at (ops.Constraint c) ts) s (ne_eqb n (length ts) h)

module _ (at : Place) (members : List ℤ) (most window : ℤ) (ts : List Term) (s : State) where
  pub window_so : is_proper (Sequence members most window) ≡ true → window_node at members most window ts s ≡ node_form at (ops.Constraint (Sequence members most window)) ts s
  window_so h = unless_so (is_proper (Sequence members most window)) at (node_form at (ops.Constraint (Sequence members most window)) ts) s h

  pub window_not : is_proper (Sequence members most window) ≡ false → window_node at members most window ts s ≡ Halted (Faulted at OutOfRange) (left s)
  window_not h = unless_not (is_proper (Sequence members most window)) at (node_form at (ops.Constraint (Sequence members most window)) ts) s h
