-- Models with one more system or objective, or with one more member of one: a constraint of a system, or a term of an
-- objective, with its weight, which is posted behind all else. A rule of this project.
use Rattle.std.specs.Prelude.{ℕ, List, [], ◌∷◌, ◌++◌, length, slice_index_or, slice_set}
use Rattle.cbl_base.specs.declared.place.Place.{Place}
use Rattle.term_model.specs.declared.model.Member.{Member}
use Rattle.term_model.specs.declared.model.Model.{Model}
use Rattle.term_model.specs.declared.model.Posted.TheVariants.{Constrain, Part}
use Rattle.term_model.specs.declared.model.Total.{Total}
use Rattle.model_values.specs.declared.wholes.Whole.{Whole}
use Rattle.model_values.specs.declared.wholes.Whole.TheVariants.{System, Objective}
use Rattle.model_view.specs.Vectors.{vec_of}

-- a system or an objective without members, which was declared at this place
abbrev pub empty_total : Place → Total
empty_total at = record { place = at; members = vec_of [] }

unfoldable pub with_system : Model → Place → Model
with_system M at = record M { systems = vec_of (M.systems.items ++ empty_total at ∷ []) }

unfoldable pub with_objective : Model → Place → Model
with_objective M at = record M { objectives = vec_of (M.objectives.items ++ empty_total at ∷ []) }

abbrev pub total_in : List Total → ℕ → Total
total_in totals k = slice_index_or totals k (empty_total (record { line = 0; col = 0 }))

-- with one more member
abbrev pub grown : Total → Member → Total
grown total x = record total { members = vec_of (total.members.items ++ x ∷ []) }

-- the number that the next member gets
abbrev pub next_member : List Total → ℕ → ℕ
next_member totals k = length (total_in totals k).members.items

abbrev pub with_grown : List Total → ℕ → Member → List Total
with_grown totals k x = slice_set totals k (grown (total_in totals k) x)

unfoldable pub with_member : Model → Whole → Member → Model
with_member M (System k) x = record M {
  systems = vec_of (with_grown M.systems.items k x);
  posted = vec_of (M.posted.items ++ Constrain k (next_member M.systems.items k) ∷ []);
}
with_member M (Objective k) x = record M {
  objectives = vec_of (with_grown M.objectives.items k x);
  posted = vec_of (M.posted.items ++ Part k (next_member M.objectives.items k) ∷ []);
}
