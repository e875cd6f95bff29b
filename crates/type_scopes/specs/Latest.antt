-- Where the last name of each spelling stands, as an index keeps it.
use Rattle.std.specs.Prelude.{ℕ, Bool, List, Option, is_some, unwrap_or}
use Rattle.std.specs.Ordering.{nat_cmp}
use Rattle.std.specs.Cmp.Lexicographic.{slice_cmp}
use Rattle.std.specs.BTreeMap.{get_by}
use Rattle.type_scopes.specs.declared.latest.Latest.{Latest}

-- the number of a spelling, if it is held
abbrev pub kept_at : Latest → List ℕ → Option ℕ
kept_at latest name = get_by (λ key. slice_cmp nat_cmp name key.items) latest.by_name

-- the number of a spelling, and 0 where none is held
abbrev pub latest_at : Latest → List ℕ → ℕ
latest_at latest name = unwrap_or (kept_at latest name) 0

-- whether a spelling is held
abbrev pub is_held : Latest → List ℕ → Bool
is_held latest name = is_some (kept_at latest name)
