-- A store of a model is made one of another model over the same graph, by moves of cells, as where weights are set. A rule
-- of this project.
use Rattle.std.specs.Prelude.{◌≡◌, ℤ, List}
use Rattle.cbl_base.specs.declared.ids.VarId.{VarId}
use Rattle.graph_values.specs.Members.{cells_of, numbers_of}
use Rattle.graph_values.specs.Outcomes.{IsGiven}
use Rattle.graph_values.specs.Totals.{HoldsModel}
use Rattle.store_turns.specs.Meaning.{Graph}
use Rattle.term_model.specs.declared.model.Model.{Model}
use Rattle.model_store.specs.Settings.{Setting, numbers_after, numbers_in, users_in}

-- a model under an assignment, as a store holds it, and the model that it is to be of
pub record Weighing : Type 0 where
  pub setting : Setting
  pub model : Model

-- this one under the same assignment, with the same users' constraints and ids of totals
abbrev pub with_model : Model → Setting → Setting
with_model M s = record {
  viol_of = s.viol_of;
  viol_at = s.viol_at;
  model = M;
  assignment = s.assignment;
  total = s.total;
}

abbrev pub weighed : Weighing → Setting
weighed w = with_model w.model w.setting

-- the graph holds it, too, and the moves of cells make the numbers of the one those of the other
pub record AreWeightMoves (w : Weighing) (g : Graph) (ms : List (VarId × ℤ)) : Type 0 where
  pub given : IsGiven w.model w.setting.assignment
  pub holds : HoldsModel (users_in w.setting) w.model g w.setting.total
  pub cells : cells_of w.model ≡ cells_of w.setting.model
  pub numbers : numbers_of w.model w.setting.assignment ≡ numbers_after ms (numbers_in w.setting)
