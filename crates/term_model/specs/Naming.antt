-- Numbers that name each thing of a kind exactly once, in any order: the definitions that were posted, and the
-- users' constraints that stand in terms. A rule of this project.
use Rattle.std.specs.Prelude.{◌≡◌, ℕ, ◌<◌, Bool, true, false, List, [], ◌∷◌, ◌++◌, length, map, Option, Some, None, slice_get, slice_set}
use Rattle.std.specs.List.{Contains}
use Rattle.cbl_operations.specs.declared.op.Op.{Op}
use Rattle.cbl_operations.specs.declared.op.Op.TheVariants.{User}
use Rattle.term_model.specs.Definitions.{joined}
use Rattle.term_model.specs.Posting.{term_posted}
use Rattle.term_model.specs.declared.model.Model.{Model}
use Rattle.term_model.specs.declared.model.Posted.{Posted}
use Rattle.term_model.specs.declared.term.Term.{Term}
use Rattle.term_model.specs.declared.term.Term.TheOpen.{Term-F}
use Rattle.term_model.specs.declared.term.Term.TheFolds.{fold-Term}

-- each number below the count stands there, once, and no other
pub record NamesEachOnce (numbers : List ℕ) (count : ℕ) : Type 0 where
  pub within : (k d : ℕ) → slice_get numbers k ≡ Some d → d < count
  pub once : (j k d : ℕ) → slice_get numbers j ≡ Some d → slice_get numbers k ≡ Some d → j ≡ k
  pub all : (d : ℕ) → d < count → Contains numbers d

-- ---- the numbers of the users' constraints in a term, and in all that was posted
abbrev pub user_number : Op → List ℕ
user_number (User number) = number ∷ []
user_number op = []

abbrev pub users_step : Term-F (List ℕ) → List ℕ
users_step (Term-F.Const x) = []
users_step (Term-F.ConstSet s) = []
users_step (Term-F.Var v) = []
users_step (Term-F.Node op args place) = joined args.items ++ user_number op

abbrev pub users_of : Term → List ℕ
users_of = fold-Term (List ℕ) users_step

abbrev pub users_where : Option Term → List ℕ
users_where (Some t) = users_of t
users_where None = []

abbrev pub users_posted : Model → List Posted → List ℕ
users_posted M posted = joined (map (λ p. users_where (term_posted M p)) posted)

-- ---- what the check keeps: a mark for each number that stood there
pub record AreMarked (numbers : List ℕ) (marks : List Bool) : Type 0 where
  pub within : (k d : ℕ) → slice_get numbers k ≡ Some d → d < length marks
  pub once : (j k d : ℕ) → slice_get numbers j ≡ Some d → slice_get numbers k ≡ Some d → j ≡ k
  pub stood : (d : ℕ) → slice_get marks d ≡ Some true → Contains numbers d
  pub not_yet : (d : ℕ) → slice_get marks d ≡ Some false → Contains numbers d → ⊥

-- one number more
abbrev pub IsMarkedFirst : List Bool → List Bool → ℕ → Type 0
IsMarkedFirst old new d = (slice_get old d ≡ Some false) × (new ≡ slice_set old d true)
