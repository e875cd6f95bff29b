-- The candidates of a selector: the tuples of its generators, the last one fastest. They are listed first, and that costs
-- what the generators' ranges cost and a unit at its name for each value of a generator other than the last one. A value
-- of the last one costs nothing here. From the language.
use Rattle.std.specs.Prelude.{ℤ, List, [], ◌∷◌, ◌++◌, length, nat_lt}
use Rattle.cbl_base.specs.declared.place.Place.{Place}
use Rattle.cbl_base.specs.declared.faults.Limit.TheVariants.{Candidates}
use Rattle.cbl_base.specs.declared.faults.RunFault.TheVariants.{TooMany}
use Rattle.checked_tree.specs.Shape as shapes
use Rattle.checked_tree.specs.Shape.{Shape}
use Rattle.comet_meaning.specs.Values.{number_of}
use Rattle.comet_meaning.specs.Limits.{most_candidates}
use Rattle.comet_meaning.specs.State.{State}
use Rattle.comet_meaning.specs.Outcome.{Went, Act, ◌>>=◌, give, unless, each_in, always}
use Rattle.comet_meaning.specs.Cells.{held}
use Rattle.comet_meaning.specs.Levels.{Level}
use Rattle.comet_meaning.specs.Parts.{value}
use Rattle.comet_meaning.specs.Generators.{Bound, each_tuple}

-- a candidate: the values of all generators, in order
abbrev pub Candidate : Type 0
Candidate = List ℤ

-- the generators in front of the last one, and the last one
abbrev pub in_front : List Shape → List Shape
in_front [] = []
in_front (g ∷ []) = []
in_front (g ∷ h ∷ gs) = g ∷ in_front (h ∷ gs)

abbrev pub last_of : Shape → List Shape → Shape
last_of g [] = g
last_of g (h ∷ hs) = last_of h hs

-- the place of a generator's name
abbrev pub name_place : Shape → Place
name_place (shapes.generator place slot domain) = place
name_place g = record { line = 0; col = 0 }

-- the names of generators, with these values
abbrev pub named : List Shape → Candidate → List Bound
named (shapes.generator place slot domain ∷ gs) (v ∷ vs) = record { slot = slot; value = v } ∷ named gs vs
named gs vs = []

-- the values that the names of generators have now
abbrev pub values_in : State → List Shape → List ℤ
values_in s (shapes.generator place slot domain ∷ gs) = number_of (held s slot) ∷ values_in s gs
values_in s gs = []

unfoldable pub values_now : List Shape → Act (List ℤ)
values_now gs = λ s. Went (values_in s gs) s

-- one more candidate; there are at most so many
abbrev pub with_candidate : Place → Candidate → List Candidate → Act (List Candidate)
with_candidate at c cs = unless (nat_lt (length cs) most_candidates) at (TooMany Candidates) >>= λ _. give (cs ++ c ∷ [])

-- a candidate for each value of the last generator, with the values that those in front of it have now, behind the
-- candidates so far
unfoldable pub last_form : Level → Place → List Shape → Shape → List Candidate → Act (List Candidate)
last_form l at front (shapes.generator place slot domain) cs = do
  d ← value l domain
  known ← values_now front
  each_in always (λ v ds. with_candidate at (known ++ v ∷ []) ds) d cs
last_form l at front g cs = give cs

-- all candidates, for each tuple of the generators in front of the last one
unfoldable pub candidates_form : Level → Place → List Shape → Act (List Candidate)
candidates_form l at [] = give []
candidates_form l at (g ∷ []) = last_form l at [] g []
candidates_form l at (g ∷ h ∷ gs) =
    each_tuple l (name_place (last_of g (in_front (h ∷ gs)))) always (λ v cs. last_form l at (in_front (g ∷ h ∷ gs)) (last_of h gs) cs) [] (in_front (g ∷ h ∷ gs)) []
