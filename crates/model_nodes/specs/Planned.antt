-- Layers of ids, each above those of its inputs. A rule of this project.
use Rattle.std.specs.Prelude.{◌≡◌, ℕ, ◌<◌, true, List, length, Vec}
use Rattle.cbl_base.specs.NodeLaw.{Rule}
use Rattle.cbl_base.specs.declared.ids.NodeId.{NodeId}
use Rattle.store_build.specs.Aims.{graph_over, layer_at}
use Rattle.store_turns.specs.Meaning.{AreLayers, Each, ids_of}
use Rattle.store_build.specs.Lists.{list_in}

module _ {Z : Type 0} where
  -- the ids can be laid in layers
  abbrev pub HasLayers : List (Vec NodeId Z) → Type 0
  HasLayers lists = (layer : ℕ → ℕ) × ((id : ℕ) → id < length lists → Each (λ i. (i < length lists) × (layer i < layer id)) (ids_of (list_in lists id)))

  -- and these are layers of theirs, whatever the nodes are
  pub record ArePlanned (lists : List (Vec NodeId Z)) (layers : List ℕ) : Type 0 where
    pub count : length layers ≡ length lists
    pub rising : (rules : List Rule) (first : ℕ) → AreLayers (graph_over rules first lists) (layer_at layers)
    pub lowest : (rules : List Rule) (first id : ℕ) → id < length lists → (graph_over rules first lists).is_free id ≡ true → layer_at layers id ≡ 0
