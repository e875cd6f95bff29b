-- A list of changes as a map from the ids, and the table that leads to their places.
use Rattle.std.specs.Prelude.{◌≡◌, ℕ, List, map, slice_get, Some}
use Rattle.std.proofs.Common.{inl}
use Rattle.std.specs.BTreeMap.{BTreeMap}
use Rattle.std_collections.specs.Layout.BTreeMap.{btree_map}
use Rattle.inc_store.specs.declared.changed.NodeChange.{NodeChange}

-- a change with its id before it
abbrev pub entry_of : NodeChange → ℕ × NodeChange
entry_of c = (c.node.0, c)

-- of each id the first change in the list
abbrev pub map_of : List NodeChange → BTreeMap ℕ NodeChange
map_of cs = btree_map (map entry_of cs) (inl tt)

-- the id's change stands at this place of the list
abbrev pub IsPlaceOf : List NodeChange → ℕ → ℕ → Type 0
IsPlaceOf cs id p = (c : NodeChange) × (slice_get cs p ≡ Some c) × (c.node.0 ≡ id)

-- from the id of each change the table leads to its place
abbrev pub ArePlaced : List NodeChange → List ℕ → Type 0
ArePlaced cs places = (p : ℕ) (c : NodeChange) → slice_get cs p ≡ Some c → slice_get places c.node.0 ≡ Some p
