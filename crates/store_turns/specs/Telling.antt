-- How the new outcome of an id is told to those that use it.
use Rattle.std.specs.Prelude.{◌≡◌, ◌≢◌, ◌⊎◌, ℕ, suc, ◌+◌, ◌*◌, ◌≤◌, ℤ, Bool, cond, nat_eq, not, List, [], ◌∷◌, length, map, slice_get, slice_index_or, slice_set, Option, Some, None, Result, IfOk, OnOk}
use Rattle.std.specs.List.{filter}
use Rattle.cbl_base.specs.Sets.{is_member}
use Rattle.cbl_base.specs.Changes.{place_of, IsChange, NoneAt, AreChanges, after_change, after_changes}
use Rattle.cbl_base.specs.declared.faults.NoMemory.{NoMemory}
use Rattle.cbl_base.specs.declared.ids.NodeId.{NodeId}
use Rattle.cbl_base.specs.declared.input.Input.{Input}
use Rattle.cbl_base.specs.declared.input.Input.TheVariants.{Int, Set}
use Rattle.cbl_base.specs.declared.input.Change.{Change}
use Rattle.cbl_base.specs.declared.input.Change.TheVariants.{Int as IntChange, Set as SetChange}
use Rattle.store_turns.specs.declared.outcome.Outcome.{Outcome}
use Rattle.store_turns.specs.declared.outcome.Outcome.TheVariants.{Value}
use Rattle.store_turns.specs.Cones.{has, chosen}
use Rattle.store_turns.specs.Meaning.{values_of}
use Rattle.store_turns.specs.Touch.{differs}
use Rattle.store_turns.specs.Waits.{Wait, and_change}

-- the members of a set that another lacks
abbrev pub without : List ℤ → List ℤ → List ℤ
without other s = filter (λ v. not (is_member v other)) s

-- the change at a place from an old value to a new one of the same kind
abbrev pub change_to : ℕ → Input → Input → Change
change_to place (Int a) (Int b) = IntChange place a b
change_to place (Set s) (Set t) = SetChange place (without s t) (without t s)
change_to place (Int a) (Set t) = SetChange place t []
change_to place (Set s) (Int b) = IntChange place b b

-- wherever the old value stands, that is a change, and leaves the new one there
pub record LeadsTo (old new : Input) : Type 0 where
  pub is : (xs : List Input) (p : ℕ) → slice_get xs p ≡ Some old → IsChange xs (change_to p old new)
  pub sets : (xs : List Input) (p : ℕ) → slice_get xs p ≡ Some old → after_change xs (change_to p old new) ≡ slice_set xs p new
  pub place : (p : ℕ) → place_of (change_to p old new) ≡ p

-- the places at which an id stands in a list, and those at which j uses it
abbrev pub positions : ℕ → List ℕ → List ℕ
positions id [] = []
positions id (i ∷ is) = cond (nat_eq i id) (0 ∷ map suc (positions id is)) (map suc (positions id is))

abbrev pub places_in : ℕ → List (NodeId × ℕ) → List ℕ
places_in j [] = []
places_in j (u ∷ us) = cond (nat_eq u.0.0 j) (u.1 ∷ places_in j us) (places_in j us)

abbrev pub layer_in : List ℕ → ℕ → ℕ
layer_in layers id = slice_index_or layers id 0

-- what waits after each of these changes, and after word at each of these places that there is no value
abbrev pub pushed : List Change → Wait → Wait
pushed [] w = w
pushed (c ∷ cs) w = pushed cs (Some (and_change c w))

abbrev pub blocked : List ℕ → Wait → Wait
blocked [] w = w
blocked (p ∷ ps) w = Some None

-- the members among those that use an id
abbrev pub users_among : List Bool → List (NodeId × ℕ) → List (NodeId × ℕ)
users_among members uses = chosen (has members) uses

-- from u to v each user got these changes at its places, and nothing else is another
pub record ArePushed (layer : ℕ → ℕ) (uses : List (NodeId × ℕ)) (change : ℕ → Change) (u v : ℕ → ℕ → Wait) : Type 0 where
  pub here : (j : ℕ) → v (layer j) j ≡ pushed (map change (places_in j uses)) (u (layer j) j)
  pub elsewhere : (l j : ℕ) → l ≢ layer j → v l j ≡ u l j

-- from u to v each user heard that there is no value, and nothing else is another
pub record AreBlocked (layer : ℕ → ℕ) (uses : List (NodeId × ℕ)) (u v : ℕ → ℕ → Wait) : Type 0 where
  pub here : (j : ℕ) → v (layer j) j ≡ blocked (places_in j uses) (u (layer j) j)
  pub elsewhere : (l j : ℕ) → l ≢ layer j → v l j ≡ u l j

-- the outcome is no value
abbrev pub IsLost : Outcome → Type 0
IsLost o = (x : Input) → o ≢ Value x

-- from u to v was told that an id whose value was the old one came to the outcome: nothing where it is
-- the same; or each user got the changes to the new value; or each heard that there is none
abbrev pub IsTold : (ℕ → ℕ) → List (NodeId × ℕ) → Input → Outcome → (ℕ → ℕ → Wait) → (ℕ → ℕ → Wait) → Type 0
IsTold layer uses old outcome u v =
    ((outcome ≡ Value old) × ((l j : ℕ) → v l j ≡ u l j))
    ⊎ (((new : Input) × (outcome ≡ Value new) × (old ≢ new) × LeadsTo old new × ((j : ℕ) → v (layer j) j ≡ pushed (map (λ p. change_to p old new) (places_in j uses)) (u (layer j) j)) × ((l j : ℕ) → l ≢ layer j → v l j ≡ u l j))
    ⊎ (IsLost outcome × ((j : ℕ) → v (layer j) j ≡ blocked (places_in j uses) (u (layer j) j)) × ((l j : ℕ) → l ≢ layer j → v l j ≡ u l j)))

-- what it comes to to tell these users: whether the outcome is another than the old value; what waits then; and
-- at most two steps a use, and none where it is the same
pub record Tells (layer : ℕ → ℕ) (uses : List (NodeId × ℕ)) (old : Input) (outcome : Outcome) (result : Result Bool NoMemory) (u v : ℕ → ℕ → Wait) (base now : ℕ) : Type 0 where
  pub answer : IfOk result (λ other. other ≡ differs outcome old)
  pub told : OnOk result (IsTold layer uses old outcome u v)
  pub steps : now ≤ base + 2 * cond (differs outcome old) (length uses) 0

-- the changes that are to come, if all inputs have values
abbrev pub to_come : Wait → Option (List Change)
to_come None = Some []
to_come (Some x) = x

-- the values held, with the changes that are to come, are what the inputs came to
abbrev pub Fits : List Input → List Outcome → Option (List Change) → Type 0
Fits held os None = values_of os ≡ None
Fits held os (Some cs) = AreChanges held cs × (values_of os ≡ Some (after_changes held cs))

-- none of the changes is at one of the places
abbrev pub NoneAtAny : List Change → List ℕ → Type 0
NoneAtAny ds [] = Unit {0}
NoneAtAny ds (p ∷ ps) = NoneAt p ds × NoneAtAny ds ps
