-- The candidates behind the generators in front of the last one. From the language.
use Rattle.std.specs.Prelude.{ℤ, List, [], ◌∷◌, ◌++◌}
use Rattle.cbl_base.specs.declared.place.Place.{Place}
use Rattle.checked_tree.specs.Shape.{Shape}
use Rattle.comet_meaning.specs.Candidates.{Candidate, last_form, last_of, name_place, with_candidate}
use Rattle.comet_meaning.specs.Generators.{each_tuple}
use Rattle.comet_meaning.specs.Levels.{Level}
use Rattle.comet_meaning.specs.Outcome.{Act, always, each_in}
use Rattle.comet_meaning.specs.Values.{Value}

-- the place of the last of some generators
abbrev pub last_place : List Shape → Place
last_place [] = record { line = 0; col = 0 }
last_place (g ∷ gs) = name_place (last_of g gs)

-- for each tuple of the generators in front
abbrev pub behind_front : Level → Place → List Shape → Shape → List Candidate → Act (List Candidate)
behind_front l at front last cs = each_tuple l (last_place front) always (λ v ds. last_form l at front last ds) [] front cs

-- a candidate for each value, behind these
abbrev pub values_behind : Place → List ℤ → Value → List Candidate → Act (List Candidate)
values_behind at known d cs = each_in always (λ v ds. with_candidate at (known ++ v ∷ []) ds) d cs
