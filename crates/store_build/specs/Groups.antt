-- The ids of each layer.
use Rattle.std.specs.Prelude.{◌≡◌, ℕ, ◌-◌, ◌<◌, ◌≤◌, List, map, slice_get, slice_index_or, Option, Some, None, Vec, All}
use Rattle.std.specs.List.{Contains}
use Rattle.std.specs.declared.alloc.Global.{Global}
use Rattle.cbl_base.specs.NodeLaw.{Rule}
use Rattle.store_build.specs.declared.groups.Item.{Item}
use Rattle.store_build.specs.Lists.{list_in}

module _ {N : Type 0} where
  -- the rule of an id's node is its own, and a cell has none
  abbrev pub IsNode : (N → Rule) → List Rule → ℕ → ℕ → Option N → Type 0
  IsNode rule rules first id None = id < first
  IsNode rule rules first id (Some node) = (first ≤ id) × (slice_get rules (id - first) ≡ Some (rule node))

  abbrev pub IsItem : (N → Rule) → List Rule → ℕ → Item N → Type 0
  IsItem rule rules first item = IsNode rule rules first item.id item.node

  abbrev pub ids_in : List (Item N) → List ℕ
  ids_in items = map (λ i. i.id) items

  -- each id below the count stands in the group of its layer, and there are none but such
  pub record IsGrouped (rule : N → Rule) (rules : List Rule) (first : ℕ) (layers : List ℕ) (count : ℕ) (groups : List (Vec (Item N) Global)) : Type 0 where
    pub all : (id : ℕ) → id < count → Contains (ids_in (list_in groups (slice_index_or layers id 0))) id
    pub each : (l : ℕ) → All (λ i. IsItem rule rules first i × (i.id < count) × (slice_index_or layers i.id 0 ≡ l)) (list_in groups l)
