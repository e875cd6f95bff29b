-- The rules of the nodes of a model's store. A rule of this project.
use Rattle.std.specs.Prelude.{◌≡◌, ℕ, ◌-◌, ◌<◌, ◌≤◌, List, slice_get}
use Rattle.cbl_base.specs.NodeLaw.{Rule}
use Rattle.cbl_base.specs.NumberRule.{NumberRule}
use Rattle.graph_values.specs.Members.{cells_of}
use Rattle.model_nodes.specs.WholeNodes.{rule_in_whole}
use Rattle.store_laws.specs.ModelTouch.{many_nodes}
use Rattle.term_model.specs.declared.model.Model.{Model}

-- each id behind the cells has the rule of its part of the model
abbrev pub AreRules : (ℕ → NumberRule) → Model → List Rule → Type 0
AreRules users M given = (id : ℕ) → cells_of M ≤ id → id < many_nodes M → slice_get given (id - cells_of M) ≡ rule_in_whole users M id
