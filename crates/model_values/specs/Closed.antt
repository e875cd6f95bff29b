-- What of an assignment a model's values hang on: the numbers of its free variables, those without a
-- definition. A rule of this project.
use Rattle.std.specs.Prelude.{◌≡◌, ℕ, ℤ, ◌<◌, List, length, None, slice_get}
use Rattle.term_model.specs.Definitions.{definition_of}
use Rattle.term_model.specs.declared.model.Model.{Model}

-- two assignments give each free variable the same number
abbrev pub AgreeOnFree : Model → List ℤ → List ℤ → Type 0
AgreeOnFree M a b = (i : ℕ) → i < length M.vars.items → definition_of M i ≡ None → slice_get a i ≡ slice_get b i
