-- The members of all systems, or of all objectives, as far as what was posted has been gone through: of each
-- one the numbers and weights of its own. A rule of this project.
use Rattle.std.specs.Prelude.{◌≡◌, ◌<◌, ℕ, List, length, map, Some, slice_get}
use Rattle.std.specs.List.{All}
use Rattle.cbl_base.specs.NumberRule.{NumberRule}
use Rattle.model_values.specs.Fresh.{whole_by}
use Rattle.model_values.specs.Outcomes.{Outcome}
use Rattle.model_values.specs.Wholes.{Parts, parts_in, seen, HasWeights, listed_numbers}
use Rattle.term_model.specs.Posting.{totals_by}
use Rattle.term_model.specs.declared.model.Model.{Model}
use Rattle.term_model.specs.declared.model.Posted.{Posted}
use Rattle.model_values.specs.declared.wholes.PartsHeld.{PartsHeld}
use Rattle.term_model.specs.declared.posting.Side.{Side}

pub record AreParts (users : ℕ → NumberRule) (env : ℕ → Outcome) (M : Model) (side : Side) (posted : List Posted) (parts : List Parts) : Type 0 where
  pub count : length parts ≡ length (totals_by M side)
  pub each : (k : ℕ) → k < length (totals_by M side) → slice_get parts k ≡ Some (parts_in users env M (whole_by side k) posted)

-- each number has a weight
abbrev pub IsWeighed : PartsHeld → Type 0
IsWeighed held = HasWeights (listed_numbers held.numbers) held.weights.items

abbrev pub AreWeighed : List PartsHeld → Type 0
AreWeighed parts = All IsWeighed parts

abbrev pub all_seen : List PartsHeld → List Parts
all_seen parts = map seen parts
