-- What the check of a model finds out: each is true only where a part of "the model is well formed" holds.
use Rattle.std.specs.declared.alloc.Global.{Global}
use Rattle.std.specs.Prelude.{◌≡◌, ℕ, ◌+◌, ◌<◌, ◌≤◌, Bool, true, List, Vec, length, Option, Some, None, filter_map, nat_lt, slice_get, slice_index_or, slice_set}
use Rattle.std.specs.List.{All, list_all, range_with_len}
use Rattle.cbl_base.specs.Inputs.{InputKind, number_kind, is_number_kind}
use Rattle.term_model.specs.Depth.{depth_of}
use Rattle.term_model.specs.Kinds.{kind_of_term, kind_of_var, kinds_in}
use Rattle.term_model.specs.Posting.{number_by}
use Rattle.term_model.specs.Wellformed.{IsMember}
use Rattle.term_model.specs.declared.model.Definition.{Definition}
use Rattle.term_model.specs.declared.model.Model.{Model}
use Rattle.term_model.specs.declared.model.Posted.{Posted}
use Rattle.term_model.specs.declared.model.Total.{Total}
use Rattle.term_model.specs.declared.model.VarDecl.{VarDecl}
use Rattle.term_model.specs.declared.model.VarKind.{VarKind}
use Rattle.term_model.specs.declared.term.Term.{Term}
use Rattle.term_model.specs.declared.posting.Posting.{Posting}
use Rattle.term_model.specs.declared.posting.Side.{Side}

-- whether a variable's kind is that of numbers
abbrev pub is_number_var : VarKind → Bool
is_number_var kind = is_number_kind (kind_of_var kind)

-- where a kind was found it is that of the term, which is no deeper than the limit; where none was found a term no deeper
-- than the limit has none
abbrev pub IsKindWithin : (ℕ → Option InputKind) → ℕ → Term → Option VarKind → Type 0
IsKindWithin kinds limit term (Some kind) = (kind_of_term kinds term ≡ Some (kind_of_var kind)) × (depth_of term ≤ limit)
IsKindWithin kinds limit term None = depth_of term ≤ limit → kind_of_term kinds term ≡ None

-- all members of a system or an objective are numbers
abbrev pub IsTotal : Model → Total → Type 0
IsTotal M total = All (IsMember M) total.members.items

-- the counts say how many members of each were posted, each once and in order
abbrev pub AreCounts : Side → List Posted → List ℕ → Type 0
AreCounts side posted counts = (k n : ℕ) → slice_get counts k ≡ Some n → filter_map (number_by side k) posted ≡ range_with_len 0 n

-- one member was counted, the next of its system or objective
abbrev pub IsCounted : List ℕ → List ℕ → Posting → Type 0
IsCounted old new posting = (slice_get old posting.total ≡ Some posting.member) × (new ≡ slice_set old posting.total (posting.member + 1))

-- the number of the definition at a variable's place in a table
abbrev pub owner_in : Option (Option ℕ) → Option ℕ
owner_in (Some (Some d)) = Some d
owner_in (Some None) = None
owner_in None = None

abbrev pub owner_at : List (Option ℕ) → ℕ → Option ℕ
owner_at table i = owner_in (slice_get table i)

-- whether a variable ranks below another
abbrev pub rank_at : List ℕ → ℕ → ℕ
rank_at ranks i = slice_index_or ranks i 0

abbrev pub is_below : List ℕ → ℕ → ℕ → Bool
is_below ranks i d = nat_lt (rank_at ranks d) (rank_at ranks i)

-- what the check finds out of each system or objective, each definition and each variable by its number
abbrev pub IsAllCounted : List ℕ → List Total → ℕ → Type 0
IsAllCounted counts totals k = (total : Total) → slice_get totals k ≡ Some total → slice_get counts k ≡ Some (length total.members.items)

abbrev pub IsOwned : List (Option ℕ) → List Definition → ℕ → Type 0
IsOwned table defs d = (def : Definition) → slice_get defs d ≡ Some def → owner_at table def.var.index ≡ Some d

abbrev pub IsNumberOrDefined : List (Option ℕ) → List VarDecl → ℕ → Type 0
IsNumberOrDefined table vars i = slice_get table i ≡ Some None → kinds_in vars i ≡ Some number_kind

abbrev pub IsRanked : List (Vec ℕ Global) → List ℕ → ℕ → ℕ → Type 0
IsRanked named ranks count i = (names : Vec ℕ Global) → slice_get named i ≡ Some names → (rank_at ranks i < count) × (list_all (is_below ranks i) names.items ≡ true)
