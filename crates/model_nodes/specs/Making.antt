-- What was made of a model's nodes so far: lists of inputs, one for each id from 0 on, and behind the cells for each a
-- rule and a place. A rule of this project.
use Rattle.std.specs.Prelude.{◌≡◌, ℕ, ◌-◌, ◌<◌, ◌≤◌, List, length, Some, Vec, slice_get}
use Rattle.cbl_base.specs.NodeLaw.{Rule}
use Rattle.cbl_base.specs.NumberRule.{NumberRule}
use Rattle.cbl_base.specs.declared.ids.NodeId.{NodeId}
use Rattle.cbl_base.specs.declared.place.Place.{Place}
use Rattle.store_build.specs.Lists.{list_in}
use Rattle.store_turns.specs.Meaning.{ids_of}
use Rattle.term_model.specs.declared.model.Model.{Model}
use Rattle.graph_values.specs.Members.{cells_of}
use Rattle.graph_values.specs.Totals.{IsAt}
use Rattle.graph_values.specs.WholeGraphs.{inputs_in_whole, total_id}
use Rattle.model_nodes.specs.WholeNodes.{rule_in_whole}

-- a model, and the rules of its users' constraints
pub record About : Type 0 where
  pub users : ℕ → NumberRule
  pub model : Model

-- the place of each node behind the cells that has one in the model: that of a subterm, and where a system or an
-- objective was declared
abbrev pub ArePlaces : Model → List Place → Type 0
ArePlaces M places = (id : ℕ) (place : Place) → cells_of M ≤ id → id < length places → IsAt M (total_id M) id place → slice_get places id ≡ Some place

pub record AreMade {Z : Type 0} (about : About) (rules : List Rule) (lists : List (Vec NodeId Z)) (places : List Place) : Type 0 where
  pub count : length rules ≡ length lists - cells_of about.model
  pub few : length lists < 4294967296
  pub inputs : (id : ℕ) → id < length lists → ids_of (list_in lists id) ≡ inputs_in_whole about.model id
  pub short : (id : ℕ) → length (list_in lists id) ≤ 4294967296
  pub rules_are : (id : ℕ) → cells_of about.model ≤ id → id < length lists → slice_get rules (id - cells_of about.model) ≡ rule_in_whole about.users about.model id
  pub placed : length places ≡ length lists
  pub places_are : ArePlaces about.model places

-- what is the next id's
pub record Fits (about : About) (id : ℕ) (rule : Rule) (inputs : List NodeId) (place : Place) : Type 0 where
  pub behind : cells_of about.model ≤ id
  pub inputs_are : ids_of inputs ≡ inputs_in_whole about.model id
  pub ruled : rule_in_whole about.users about.model id ≡ Some rule
  pub placed : (p : Place) → IsAt about.model (total_id about.model) id p → place ≡ p
