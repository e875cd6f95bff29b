-- What the bodies of an aggregate in a term give.
use Rattle.std.proofs.Common.{◌≡◌, refl, sym, ap, ◌∙◌, List, [], ◌∷◌, map, length, arith}
use Rattle.cbl_base.specs.declared.place.Place.{Place}
use Rattle.cbl_base.specs.declared.faults.RunFault.TheVariants.{EmptyRange}
use Rattle.cbl_operations.specs.declared.nary.NaryOp.TheVariants.{Greatest, Least}
use Rattle.cbl_operations.specs.declared.op.Op.{Op}
use Rattle.cbl_operations.specs.declared.op.Op.TheVariants.{Nary}
use Rattle.comet_syntax.specs.declared.tree.expressions.Aggregate.{Aggregate}
use Rattle.comet_syntax.specs.declared.tree.expressions.Aggregate.TheVariants as aggregates
use Rattle.checked_tree.specs.Shape.{Shape}
use Rattle.comet_meaning.specs.Values.{Value}
use Rattle.comet_meaning.specs.State.{State, left}
use Rattle.comet_meaning.specs.Outcome.{Outcome, Went, Halted, Faulted, then_do, always}
use Rattle.comet_meaning.specs.Cells.{back_in, in_scope}
use Rattle.comet_meaning.specs.Levels.{Level}
use Rattle.comet_meaning.specs.Generators.{each_tuple}
use Rattle.comet_meaning.specs.TermForms.{Keyed, keyed_form, aggregated, aggregate_term}
use Rattle.comet_meaning.proofs.GoingOn.{goes_back_in}
use Rattle.comet_meaning.proofs.GoingTerms.{goes_aggregated}
use Rattle.run_values.specs.declared.stop.Stop.{Stop}
use Rattle.run_steps.specs.Does.{Ends}
use Rattle.run_steps.proofs.Exits.{ends_passes}
use Rattle.form_parts.specs.Bodies.{body_seen}
use Rattle.term_forms.specs.Bodies.{body_node, extreme_node}
use Rattle.form_parts.specs.declared.bodies.Body.{Body}

-- the least or the greatest of none, and of some
pub extreme_none : (at : Place) (op : Op) (xs : List Body) (s : State) → length xs ≡ 0 → extreme_node at op (map body_seen xs) s ≡ Halted (Faulted at EmptyRange) (left s)
extreme_none at op [] s h = refl
extreme_none at op (x ∷ xs) s h = absurd (omega (arith, h))

pub extreme_some : (at : Place) (op : Op) (xs : List Body) (s : State) → (length xs ≡ 0 → ⊥) → extreme_node at op (map body_seen xs) s ≡ body_node at op (map body_seen xs) s
extreme_some at op [] s h = absurd (h refl)
extreme_some at op (x ∷ xs) s h = refl

pub least_as : (at : Place) (xs : List Keyed) (s : State) → aggregated at aggregates.Min xs s ≡ extreme_node at (Nary Least) xs s
least_as at [] s = refl
least_as at (x ∷ xs) s = refl

pub greatest_as : (at : Place) (xs : List Keyed) (s : State) → aggregated at aggregates.Max xs s ≡ extreme_node at (Nary Greatest) xs s
greatest_as at [] s = refl
greatest_as at (x ∷ xs) s = refl

-- what an aggregate stands for

module _ (l : Level) (at : Place) (a : Aggregate) (gs : List Shape) (c body : Shape) (s : State) where
  pub aggregate_ends : (stop : Stop) (t : State) → Ends stop t (each_tuple l at always (keyed_form l at a c body) [] gs [] s) → Ends stop t (aggregate_term l at a gs c body s)
  unfolding aggregate_term in_scope
  aggregate_ends stop t e =
      ends_passes stop t _ _ (then_do (each_tuple l at always (keyed_form l at a c body) [] gs [] s) (back_in s.frame)) (aggregated at a) (λ xs. goes_aggregated at a xs)
      (ends_passes stop t _ _ (each_tuple l at always (keyed_form l at a c body) [] gs [] s) (back_in s.frame) (λ xs. goes_back_in s.frame xs) e)

  pub aggregate_went : {xs : List Keyed} {t : State} → each_tuple l at always (keyed_form l at a c body) [] gs [] s ≡ Went xs t → (frame : List Value) → frame ≡ s.frame → aggregate_term l at a gs c body s ≡ aggregated at a xs (record t { frame = frame })
  unfolding aggregate_term in_scope
  aggregate_went {xs} {t} e frame same =
      ap (λ (o : Outcome (List Keyed)). then_do (then_do o (back_in s.frame)) (aggregated at a)) e
      ∙ ap (λ fr. aggregated at a xs (record t { frame = fr })) (sym same)
