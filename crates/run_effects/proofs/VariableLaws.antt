-- Declarations of variables, by their dimensions and their lists.
use Rattle.std.proofs.Common.{◌≡◌, ◌∙◌, refl, sym, ap, ℕ, ℤ, List, [], ◌∷◌, map, length, arith}
use Rattle.cbl_base.specs.declared.ids.VarId.{VarId}
use Rattle.cbl_base.specs.declared.place.Place.{Place}
use Rattle.cbl_base.specs.declared.faults.RunFault.TheVariants.{OutOfRange}
use Rattle.std.specs.Prelude.{nat_eq}
use Rattle.checked_tree.specs.declared.statements.Dimension.{Dimension}
use Rattle.checked_tree.specs.declared.statements.Variable.{Variable}
use Rattle.checked_tree.specs.Actions.{Varying, dimension_of, variable_of}
use Rattle.checked_tree.specs.Shape.{Seen, whole}
use Rattle.term_model.specs.declared.model.VarDecl.{VarDecl}
use Rattle.comet_meaning.specs.Values.{Value}
use Rattle.comet_meaning.specs.State.{State}
use Rattle.comet_meaning.specs.Outcome.{Outcome, Went, Halted, Act, ◌>>=◌, then_do, unless}
use Rattle.comet_meaning.specs.Levels.{Level}
use Rattle.comet_meaning.specs.Parts.{value}
use Rattle.comet_meaning.specs.Taking.{read_array}
use Rattle.comet_meaning.specs.Declarations as meaning
use Rattle.comet_meaning.specs.Declarations.{cell_count, every_cell}
use Rattle.comet_meaning.specs.Variables.{declared_form, listed_cell, listed_cells, several_form, single_form, variable_form}
use Rattle.run_steps.specs.Operands.{exact_list, exactly}
use Rattle.run_effects.proofs.ListLaws.{listed_then}

module _ (l : Level) (at : Place) (v : Varying) (s : State) where
  without_dimensions : (ds : List Dimension) → length ds ≡ 0 → declared_form l at v (map dimension_of ds) s ≡ single_form l at v s
  without_dimensions [] h = refl
  without_dimensions (d ∷ ds) h = absurd (omega (arith, h))

  with_dimensions : (ds : List Dimension) → (length ds ≡ 0 → ⊥) → declared_form l at v (map dimension_of ds) s ≡ several_form l at v s
  with_dimensions [] h = absurd (h refl)
  with_dimensions (d ∷ ds) h = refl

module _ (l : Level) (at : Place) (x : Variable) (s : State) where
  pub variable_single : length x.dimensions.items ≡ 0 → variable_form l at (variable_of x) s ≡ single_form l at (variable_of x) s
  unfolding variable_form
  variable_single h = without_dimensions l at (variable_of x) s x.dimensions.items h

  pub variable_several : (length x.dimensions.items ≡ 0 → ⊥) → variable_form l at (variable_of x) s ≡ several_form l at (variable_of x) s
  unfolding variable_form
  variable_several h = with_dimensions l at (variable_of x) s x.dimensions.items h

-- a list, and then what is done with its numbers
read_then : {B : Type 0} (o : Outcome Value) (at place : Place) (n : ℕ) (f : List ℤ → Act B) →
    then_do o (λ w. read_array place w >>= λ c. unless (nat_eq (length c.numbers) n) at OutOfRange >>= λ _. f c.numbers)
    ≡ then_do (then_do o (exactly at place n)) f
read_then (Went w t) at place n f = listed_then (read_array place w t) n at f
read_then (Halted h k) at place n f = refl

module _ (l : Level) (at : Place) (v : Varying) (d : VarDecl) (ds : List meaning.Dimension) (e : Seen) (s : State) where
  abbrev cells : List ℤ → Act (List VarId)
  cells xs = every_cell (listed_cell at v d xs) ds

  pub listed_as : (n : ℕ) → n ≡ cell_count ds → listed_cells l at v d ds e s ≡ then_do (exact_list l at n e s) (λ xs. every_cell (listed_cell at v d xs) ds)
  unfolding listed_cells
  listed_as n h =
      read_then (value l (whole e) s) at e.place (cell_count ds) cells
      ∙ ap (λ m. then_do (exact_list l at m e s) cells) (sym h)
