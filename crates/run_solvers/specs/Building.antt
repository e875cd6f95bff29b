-- A term that a statement built: it is no deeper than a term may be, and holds no user's constraint. A rule of this project.
use Rattle.std.specs.Prelude.{◌≡◌, ℕ, ◌≤◌, List, [], map}
use Rattle.cbl_base.specs.declared.limits.TheConstants.{MAX_TERM_DEPTH}
use Rattle.model_view.specs.Plain.{plain_term}
use Rattle.term_model.specs.Definitions.{joined}
use Rattle.term_model.specs.Depth.{depth_of, greatest}
use Rattle.term_model.specs.Naming.{users_of}
use Rattle.term_model.specs.declared.term.Term.{Term}

pub record IsBuilt (t : Term) (depth : ℕ) : Type 0 where
  pub depth_ : depth ≡ depth_of t
  pub within : depth ≤ MAX_TERM_DEPTH
  pub users : users_of t ≡ []

abbrev pub IsShallow : Term → Type 0
IsShallow t = (depth_of t ≤ MAX_TERM_DEPTH) × (users_of t ≡ [])

-- terms in a row, and the depth of the deepest
pub record AreBuilt (ts : List Term) (deepest : ℕ) (plain : List Term) : Type 0 where
  pub seen : map plain_term ts ≡ plain
  pub depth : deepest ≡ greatest (map depth_of ts)
  pub within : deepest ≤ MAX_TERM_DEPTH
  pub users : joined (map users_of ts) ≡ []
