-- The list of each variable that has the variables that its definition names.
use Rattle.std.specs.declared.alloc.Global.{Global}
use Rattle.std.specs.Prelude.{◌≡◌, ℕ, List, length, Vec}
use Rattle.layer_plan.specs.Dependencies.{list_of}
use Rattle.term_model.specs.Definitions.{definition_of, named_by}
use Rattle.term_model.specs.declared.model.Model.{Model}

pub record AreDependencies (M : Model) (deps : List (Vec ℕ Global)) : Type 0 where
  pub count : length deps ≡ length M.vars.items
  pub each : (i : ℕ) → list_of deps i ≡ named_by M.defs.items (definition_of M i)
