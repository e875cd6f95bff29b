-- The ids on which a target stands, and the lists that keep them. A rule of this project.
use Rattle.std.specs.Prelude.{◌≡◌, ◌⊎◌, ℕ, ◌<◌, Bool, true, cond, nat_eq, List, [], ◌∷◌, length, slice_index_or, All, Option, is_some}
use Rattle.std.specs.List.{find}
use Rattle.cbl_base.specs.declared.ids.NodeId.{NodeId}
use Rattle.store_turns.specs.declared.frame.Cone.{Cone}
use Rattle.store_turns.specs.declared.frame.Frame.{Frame}
use Rattle.store_turns.specs.Meaning.{inputs_in}

-- the id is in the list
abbrev pub Among : ℕ → List ℕ → Type 0
Among id [] = ⊥
Among id (i ∷ is) = (i ≡ id) ⊎ Among id is

-- an id stands on itself, and on all that its inputs stand on
pub data StandsOn (inputs : ℕ → List ℕ) : ℕ → ℕ → Type 0 where
  itself : {j : ℕ} → StandsOn inputs j j
  below : {j i k : ℕ} → Among i (inputs j) → StandsOn inputs i k → StandsOn inputs j k

-- whether a list of entries by id has an id; one past its end it has
abbrev pub has : List Bool → ℕ → Bool
has members id = slice_index_or members id true

-- of the uses those by ids that pass the test
abbrev pub chosen : (ℕ → Bool) → List (NodeId × ℕ) → List (NodeId × ℕ)
chosen test [] = []
chosen test (u ∷ us) = cond (test u.0.0) (u ∷ chosen test us) (chosen test us)

-- the list has those of the ids on which the target stands
pub record IsCone (inputs : ℕ → List ℕ) (count : ℕ) (cone : Cone) : Type 0 where
  pub stands : (j : ℕ) → j < count → has cone.members.items j ≡ true → StandsOn inputs cone.target j
  pub all : (j : ℕ) → StandsOn inputs cone.target j → has cone.members.items j ≡ true

abbrev pub AreCones : Frame → Type 0
AreCones frame = All (λ c. IsCone (inputs_in frame) (length frame.inputs.items) c) frame.cones.items

-- the cone of a target, where it is kept
abbrev pub cone_in : List Cone → ℕ → Option Cone
cone_in cones target = find (λ c. nat_eq c.target target) cones

abbrev pub has_cone : List Cone → ℕ → Bool
has_cone cones target = is_some (cone_in cones target)
