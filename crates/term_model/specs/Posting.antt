-- What was posted: a definition, or a member of a system or an objective, by its numbers from 0; and its term.
-- A rule of this project.
use Rattle.std.specs.Prelude.{ℕ, List, Option, Some, None, nat_eq, slice_get, if◌then◌else◌}
use Rattle.std.specs.Option.{option_and_then, option_map}
use Rattle.term_model.specs.declared.model.Member.{Member}
use Rattle.term_model.specs.declared.model.Model.{Model}
use Rattle.term_model.specs.declared.model.Posted.{Posted}
use Rattle.term_model.specs.declared.model.Posted.TheVariants.{Define, Constrain, Part}
use Rattle.term_model.specs.declared.model.Total.{Total}
use Rattle.term_model.specs.declared.posting.Posting.{Posting}
use Rattle.term_model.specs.declared.posting.Side.{Side}
use Rattle.term_model.specs.declared.posting.Side.TheVariants.{Systems, Objectives}
use Rattle.term_model.specs.declared.term.Term.{Term}

-- all systems, or all objectives
abbrev pub totals_by : Model → Side → List Total
totals_by M Systems = M.systems.items
totals_by M Objectives = M.objectives.items

-- a member of one of these totals
abbrev pub member_at : List Total → ℕ → ℕ → Option Member
member_at totals k member = option_and_then (λ total. slice_get total.members.items member) (slice_get totals k)

-- the term of what was posted
abbrev pub term_posted : Model → Posted → Option Term
term_posted M (Define d) = option_map (λ def. def.term) (slice_get M.defs.items d)
term_posted M (Constrain system member) = option_map (λ m. m.term) (member_at M.systems.items system member)
term_posted M (Part objective member) = option_map (λ m. m.term) (member_at M.objectives.items objective member)

-- the number of the definition that was posted, of a member of a system, of a term of an objective
abbrev pub define_number : Posted → Option ℕ
define_number (Define d) = Some d
define_number (Constrain system member) = None
define_number (Part objective member) = None

abbrev pub constrain_number : ℕ → Posted → Option ℕ
constrain_number s (Define d) = None
constrain_number s (Constrain system member) = if nat_eq system s then Some member else None
constrain_number s (Part objective member) = None

abbrev pub part_number : ℕ → Posted → Option ℕ
part_number o (Define d) = None
part_number o (Constrain system member) = None
part_number o (Part objective member) = if nat_eq objective o then Some member else None

abbrev pub number_by : Side → ℕ → Posted → Option ℕ
number_by Systems = constrain_number
number_by Objectives = part_number

-- the same from what was posted on one side
abbrev pub number_in : ℕ → Option Posting → Option ℕ
number_in k (Some posting) = if nat_eq posting.total k then Some posting.member else None
number_in k None = None

-- the system or the objective of what was posted
abbrev pub total_posted : Option Posting → Option ℕ
total_posted posting = option_map (λ p. p.total) posting
