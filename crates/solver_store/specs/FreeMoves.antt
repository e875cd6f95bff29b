-- Moves of free variables, no two of one. A rule of this project.
use Rattle.std.specs.Prelude.{◌≡◌, ℤ, ◌<◌, false, List, [], ◌∷◌, None}
use Rattle.cbl_base.specs.declared.ids.VarId.{VarId}
use Rattle.graph_values.specs.Members.{variables_of}
use Rattle.inc_store.specs.Moves.{is_moved}
use Rattle.term_model.specs.Definitions.{definition_of}
use Rattle.term_model.specs.declared.model.Model.{Model}

abbrev pub AreFree : Model → List (VarId × ℤ) → Type 0
AreFree M [] = Unit {0}
AreFree M (m ∷ ms) = (m.0.index < variables_of M) × (definition_of M m.0.index ≡ None) × (is_moved ms m.0.index ≡ false) × AreFree M ms
