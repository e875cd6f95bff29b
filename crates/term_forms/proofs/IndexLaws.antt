-- Cells of arrays in a term, by whether an index holds incremental variables.
use Rattle.std.proofs.Common.{◌≡◌, ap, ◌||◌, Bool, true, false, if◌then◌else◌}
use Rattle.cbl_base.specs.declared.place.Place.{Place}
use Rattle.checked_tree.specs.declared.expressions.Typed.{Typed}
use Rattle.checked_tree.specs.Shape.{Shape}
use Rattle.comet_meaning.specs.State.{State}
use Rattle.comet_meaning.specs.Levels.{Level}
use Rattle.comet_meaning.specs.TermForms.{element_term, picked_term, index_term, grid_term, picked_cell, cell_term}
use Rattle.run_steps.specs.Views.{part}

module _ (l : Level) (at : Place) (a : Shape) (i : Typed) (s : State) where
  pub index_moves : i.moving ≡ true → index_term l at a (part i) s ≡ element_term l at a (part i) s
  unfolding index_term
  index_moves h = ap (λ (b : Bool). (if b then element_term l at a (part i) else picked_term l at a (part i)) s) h

  pub index_stays : i.moving ≡ false → index_term l at a (part i) s ≡ picked_term l at a (part i) s
  unfolding index_term
  index_stays h = ap (λ (b : Bool). (if b then element_term l at a (part i) else picked_term l at a (part i)) s) h

module _ (l : Level) (at : Place) (a : Shape) (i j : Typed) (s : State) where
  pub cell_moves : (i.moving || j.moving) ≡ true → cell_term l at a (part i) (part j) s ≡ grid_term l at a (part i) (part j) s
  unfolding cell_term
  cell_moves h = ap (λ (b : Bool). (if b then grid_term l at a (part i) (part j) else picked_cell l at a (part i) (part j)) s) h

  pub cell_stays : (i.moving || j.moving) ≡ false → cell_term l at a (part i) (part j) s ≡ picked_cell l at a (part i) (part j) s
  unfolding cell_term
  cell_stays h = ap (λ (b : Bool). (if b then grid_term l at a (part i) (part j) else picked_cell l at a (part i) (part j)) s) h
