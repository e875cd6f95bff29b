-- Which of a model's subterms is a user's constraint. A rule of this project.
use Rattle.std.specs.Prelude.{ℕ, ◌+◌, Bool, List, [], ◌∷◌, nat_eq, if◌then◌else◌}
use Rattle.std.specs.List.{list_any}
use Rattle.term_model.specs.Naming.{user_number}
use Rattle.term_model.specs.declared.term.Term.{Term}
use Rattle.term_model.specs.declared.term.Term.TheOpen.{Term-F}
use Rattle.term_model.specs.declared.term.Term.TheViews.{out-Term}

-- the numbers of the users' constraints that a term is itself: one or none
abbrev pub own_by : Term-F Term → List ℕ
own_by (Term-F.Const x) = []
own_by (Term-F.ConstSet s) = []
own_by (Term-F.Var v) = []
own_by (Term-F.Node op args place) = user_number op

-- whether a term is the user's constraint with a number
abbrev pub is_user : ℕ → Term → Bool
is_user number t = list_any (nat_eq number) (own_by (out-Term t))

-- the place of the first term that passes, and past the end where none does
abbrev pub place_where : (Term → Bool) → List Term → ℕ
place_where test [] = 0
place_where test (t ∷ ts) = if test t then 0 else 1 + place_where test ts
