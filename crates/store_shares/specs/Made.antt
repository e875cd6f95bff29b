-- What is kept of a model: for each system the parts of its members, and for each variable the slots, and the members,
-- that depend on it. A rule of this project.
use Rattle.std.specs.Prelude.{◌≡◌, ℕ, ℤ, ◌+◌, ◌<◌, ◌≤◌, Bool, true, List, [], length, map, Option, Some, None, slice_get, slice_range}
use Rattle.std.specs.List.{All}
use Rattle.term_model.specs.Definitions.{joined}
use Rattle.term_model.specs.declared.model.Member.{Member}
use Rattle.term_model.specs.declared.model.Model.{Model}
use Rattle.term_model.specs.declared.model.Total.{Total}
use Rattle.term_model.specs.declared.term.Term.{Term}
use Rattle.store_shares.specs.Closing.{depends_in}
use Rattle.store_shares.specs.Settled.{AreSets, known_words}
use Rattle.store_shares.specs.Slots.{joined_slots, slot_at, slots_of}
use Rattle.store_shares.specs.Telling.{AllTell}
use Rattle.store_shares.specs.Words.{IsRising}
use Rattle.store_shares.specs.declared.parts.Part.{Part}
use Rattle.store_shares.specs.declared.shares.Shares.{Shares}
use Rattle.store_shares.specs.declared.parts.Span.{Span}

-- the terms of a system's members, and the slots of all of them
abbrev pub terms_of : Total → List Term
terms_of total = map (λ (m : Member). m.term) total.members.items

abbrev pub slots_in : Total → List (List ℕ)
slots_in total = joined_slots (map slots_of (terms_of total))

abbrev pub parts_in : Shares → Option Span → List Part
parts_in shares (Some span) = slice_range shares.parts.items span.first span.end
parts_in shares None = []

-- what a call may rest on: sets rise, and systems lie within the parts
pub record IsOrdered (shares : Shares) : Type 0 where
  pub slots : (x : ℕ) → IsRising (known_words shares.slots.items x)
  pub members : (x : ℕ) → IsRising (known_words shares.members.items x)
  pub spans : (s : ℕ) (span : Span) → slice_get shares.systems.items s ≡ Some span → (span.first ≤ span.end) × (span.end ≤ length shares.parts.items)

-- the parts of a system tell its members' terms, with their slots from a first one on
pub record IsSystem (ids : Term → ℕ) (shares : Shares) (slots members : List (List ℕ)) (s : ℕ) (terms : List Term) : Type 0 where
  pub span : Span
  pub kept : slice_get shares.systems.items s ≡ Some span
  pub first_slot : ℕ
  pub tell : AllTell ids (parts_in shares (Some span)) terms first_slot
  pub slots_there : (k : ℕ) → k < length (joined_slots (map slots_of terms)) → slot_at slots (first_slot + k) ≡ slot_at (joined_slots (map slots_of terms)) k
  pub members_there : (k : ℕ) (t : Term) → slice_get terms k ≡ Some t → slot_at members (span.first + k) ≡ joined (slots_of t)

pub record IsSharesOf (M : Model) (ids : Term → ℕ) (shares : Shares) : Type 0 where
  pub ordered : IsOrdered shares
  pub count : length shares.systems.items ≡ length M.systems.items
  pub slots : List (List ℕ)
  pub members : List (List ℕ)
  pub slot_sets : AreSets (depends_in M slots) (length M.vars.items) shares.slots.items
  pub member_sets : AreSets (depends_in M members) (length M.vars.items) shares.members.items
  pub systems : (s : ℕ) (total : Total) → slice_get M.systems.items s ≡ Some total → IsSystem ids shares slots members s (terms_of total)

-- the terms of all members are known
abbrev pub AreAllKnown : Model → (Term → Bool) → Type 0
AreAllKnown M known = All (λ (total : Total). All (λ t. known t ≡ true) (terms_of total)) M.systems.items

-- the weights that are read are those of the system's members
abbrev pub AreWeights : Model → ℕ → (ℕ → ℕ → ℤ) → Type 0
AreWeights M s weight = (total : Total) (k : ℕ) (member : Member) → slice_get M.systems.items s ≡ Some total → slice_get total.members.items k ≡ Some member → weight s k ≡ member.weight

-- the terms of the system's members are known
abbrev pub AreKnown : Model → ℕ → (Term → Bool) → Type 0
AreKnown M s known = (total : Total) → slice_get M.systems.items s ≡ Some total → All (λ t. known t ≡ true) (terms_of total)

-- two models that differ in weights alone
pub record AreSameButWeights (M N : Model) : Type 0 where
  pub vars : length N.vars.items ≡ length M.vars.items
  pub defs : N.defs.items ≡ M.defs.items
  pub posted : N.posted.items ≡ M.posted.items
  pub terms : map terms_of N.systems.items ≡ map terms_of M.systems.items
