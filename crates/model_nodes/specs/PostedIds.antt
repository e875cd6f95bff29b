-- The ids of the terms that were posted, in order of posting. A rule of this project.
use Rattle.std.specs.Prelude.{◌≡◌, ℕ, true, List, length, Some, slice_get}
use Rattle.cbl_base.specs.declared.ids.NodeId.{NodeId}
use Rattle.term_count.specs.Codes.{is_known}
use Rattle.term_graph.specs.Ids.{HasCells, id_among}
use Rattle.term_model.specs.Posting.{term_posted}
use Rattle.term_model.specs.Subterms.{once, subterms_posted}
use Rattle.term_model.specs.declared.model.Model.{Model}
use Rattle.term_model.specs.declared.model.Posted.{Posted}
use Rattle.term_model.specs.declared.term.Term.{Term}

-- each variable in a posted term has a cell
abbrev pub HasPostedCells : Model → ℕ → Type 0
HasPostedCells M cells = (p : Posted) (t : Term) → term_posted M p ≡ Some t → HasCells cells t

-- an id is that of what was posted
abbrev pub IsIdOf : Model → ℕ → List Term → Posted → NodeId → Type 0
IsIdOf M cells ts p id = (t : Term) → term_posted M p ≡ Some t → (is_known ts t ≡ true) × (id.0 ≡ id_among cells ts t)

-- there is one for each of these, by what was posted in all
pub record ArePostedIds (M : Model) (cells : ℕ) (posted : List Posted) (ids : List NodeId) : Type 0 where
  pub count : length ids ≡ length posted
  pub each : (j : ℕ) (p : Posted) (id : NodeId) → slice_get posted j ≡ Some p → slice_get ids j ≡ Some id → IsIdOf M cells (once (subterms_posted M posted)) p id
