-- The inputs of a model's cells. A rule of this project.
use Rattle.std.specs.Prelude.{◌≡◌, ℕ, ◌<◌, Bool, false, List, [], ◌∷◌, length, Vec, if◌then◌else◌}
use Rattle.cbl_base.specs.declared.ids.NodeId.{NodeId}
use Rattle.store_build.specs.Lists.{list_in}
use Rattle.store_turns.specs.Meaning.{ids_of}
use Rattle.term_model.specs.Definitions.{is_of}
use Rattle.term_model.specs.declared.model.Definition.{Definition}
use Rattle.term_model.specs.declared.model.Model.{Model}
use Rattle.term_model.specs.declared.model.Posted.{Posted}
use Rattle.term_model.specs.declared.model.Posted.TheVariants.{Define, Constrain, Part}
use Rattle.graph_values.specs.Graphs.{inputs_of}
use Rattle.graph_values.specs.Members.{cells_of}

-- whether what was posted is a definition of the variable
abbrev pub defines : List Definition → ℕ → Posted → Bool
defines defs i (Define d) = is_of defs i d
defines defs i (Constrain system member) = false
defines defs i (Part objective member) = false

module _ {Z : Type 0} where
  -- the id is the one input of the variable of a definition
  abbrev pub IsDefinedBy : List Definition → Posted → NodeId → List (Vec NodeId Z) → List (Vec NodeId Z) → Type 0
  IsDefinedBy defs p id old new = (i : ℕ) → i < length old → list_in new i ≡ (if defines defs i p then id ∷ [] else list_in old i)

  pub record AreCellLists (M : Model) (lists : List (Vec NodeId Z)) : Type 0 where
    pub count : length lists ≡ cells_of M
    pub each : (id : ℕ) → id < length lists → ids_of (list_in lists id) ≡ inputs_of M id
