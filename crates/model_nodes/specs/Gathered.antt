-- The ids of the members of each system, or of each objective, in order of posting. A rule of this project.
use Rattle.std.specs.Prelude.{◌≡◌, ℕ, ◌<◌, List, [], ◌∷◌, ◌++◌, length, map, Option, Some, None, Vec}
use Rattle.cbl_base.specs.declared.ids.NodeId.{NodeId}
use Rattle.model_values.specs.Fresh.{whole_by}
use Rattle.model_values.specs.Support.{member_in}
use Rattle.store_build.specs.Lists.{list_in}
use Rattle.store_turns.specs.Meaning.{ids_of}
use Rattle.term_model.specs.Posting.{totals_by}
use Rattle.term_model.specs.declared.model.Member.{Member}
use Rattle.term_model.specs.declared.model.Model.{Model}
use Rattle.term_model.specs.declared.model.Posted.{Posted}
use Rattle.term_model.specs.declared.posting.Side.{Side}
use Rattle.graph_values.specs.Graphs.{id_of}
use Rattle.graph_values.specs.Members.{members_of}

-- an id where there is a member
abbrev pub id_for : Option Member → NodeId → List NodeId
id_for (Some member) id = id ∷ []
id_for None id = []

module _ {Z : Type 0} where
  -- an id stands behind those of the system or objective to which something was posted
  abbrev pub IsPut : Model → Side → Posted → NodeId → List (Vec NodeId Z) → List (Vec NodeId Z) → Type 0
  IsPut M side p id old new = (k : ℕ) → k < length old → list_in new k ≡ list_in old k ++ id_for (member_in M (whole_by side k) p) id

  pub record AreGathered (M : Model) (side : Side) (lists : List (Vec NodeId Z)) : Type 0 where
    pub count : length lists ≡ length (totals_by M side)
    pub each : (k : ℕ) → k < length lists → ids_of (list_in lists k) ≡ map (λ m. id_of M m.term) (members_of M (whole_by side k))
