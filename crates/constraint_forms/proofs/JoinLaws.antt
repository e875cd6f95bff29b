-- What an aggregate of constraints stands for.
use Rattle.std.proofs.Common.{◌≡◌, sym, ap, ◌∙◌, List, []}
use Rattle.cbl_base.specs.declared.place.Place.{Place}
use Rattle.cbl_operations.specs.declared.op.Op.TheVariants as ops
use Rattle.comet_syntax.specs.declared.tree.expressions.Aggregate.{Aggregate}
use Rattle.checked_tree.specs.Shape.{Shape}
use Rattle.comet_meaning.specs.ConstraintForms.{joining_form, joining_op}
use Rattle.comet_meaning.specs.Values.{Value}
use Rattle.comet_meaning.specs.State.{State}
use Rattle.comet_meaning.specs.Outcome.{Outcome, Went, then_do, always}
use Rattle.comet_meaning.specs.Cells.{back_in, in_scope}
use Rattle.comet_meaning.specs.Levels.{Level}
use Rattle.comet_meaning.specs.Generators.{each_tuple}
use Rattle.comet_meaning.specs.TermForms.{Keyed, bodies_of, keyed_form, node_form}
use Rattle.comet_meaning.proofs.GoingOn.{goes_back_in}
use Rattle.comet_meaning.proofs.GoingTerms.{goes_node}
use Rattle.run_values.specs.declared.stop.Stop.{Stop}
use Rattle.run_steps.specs.Does.{Ends}
use Rattle.run_steps.proofs.Exits.{ends_passes}

module _ (l : Level) (at : Place) (a : Aggregate) (gs : List Shape) (c body : Shape) (s : State) where
  pub joining_ends : (stop : Stop) (t : State) → Ends stop t (each_tuple l at always (keyed_form l at a c body) [] gs [] s) → Ends stop t (joining_form l at a gs c body s)
  unfolding joining_form in_scope
  joining_ends stop t e =
      ends_passes stop t _ _ (then_do (each_tuple l at always (keyed_form l at a c body) [] gs [] s) (back_in s.frame)) (λ xs. node_form at (ops.Constraint (joining_op a)) (bodies_of xs)) (λ xs. goes_node at _ _)
      (ends_passes stop t _ _ (each_tuple l at always (keyed_form l at a c body) [] gs [] s) (back_in s.frame) (λ xs. goes_back_in s.frame xs) e)

  pub joining_went : {xs : List Keyed} {t : State} → each_tuple l at always (keyed_form l at a c body) [] gs [] s ≡ Went xs t → (frame : List Value) → frame ≡ s.frame → joining_form l at a gs c body s ≡ node_form at (ops.Constraint (joining_op a)) (bodies_of xs) (record t { frame = frame })
  unfolding joining_form in_scope
  joining_went {xs} {t} e frame same =
      ap (λ (o : Outcome (List Keyed)). then_do (then_do o (back_in s.frame)) (λ ys. node_form at (ops.Constraint (joining_op a)) (bodies_of ys))) e
      ∙ ap (λ fr. node_form at (ops.Constraint (joining_op a)) (bodies_of xs) (record t { frame = fr })) (sym same)
