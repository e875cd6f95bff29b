-- The members of systems and objectives as a graph holds them: by system or objective, in order of declaration, and
-- each one's in order of posting; the weights of the members of systems, which may change in a run; and the numbers of
-- all cells. A rule of this project.
use Rattle.std.specs.Prelude.{ℕ, zero, suc, ℤ, ◌+◌, List, [], ◌++◌, length, map}
use Rattle.std.specs.List.{filter_map}
use Rattle.model_values.specs.Fresh.{whole_by}
use Rattle.model_values.specs.Support.{member_in}
use Rattle.model_values.specs.declared.wholes.Whole.{Whole}
use Rattle.term_model.specs.Posting.{totals_by}
use Rattle.term_model.specs.declared.model.Member.{Member}
use Rattle.term_model.specs.declared.model.Model.{Model}
use Rattle.term_model.specs.declared.posting.Side.{Side}
use Rattle.term_model.specs.declared.posting.Side.TheVariants.{Systems}

-- the members of a system or an objective, in order of posting
abbrev pub members_of : Model → Whole → List Member
members_of M whole = filter_map (member_in M whole) M.posted.items

-- the members of the first so many systems, or objectives
abbrev pub members_before : Model → Side → ℕ → List Member
members_before M side zero = []
members_before M side (suc k) = members_before M side k ++ members_of M (whole_by side k)

-- those of all systems, or of all objectives
abbrev pub members_by : Model → Side → List Member
members_by M side = members_before M side (length (totals_by M side))

-- the weights of the members of all systems
abbrev pub weights_of : Model → List ℤ
weights_of M = map (λ m. m.weight) (members_by M Systems)

-- how many variables there are, and how many cells: one for each variable, and one for the weight of each member of a
-- system
abbrev pub variables_of : Model → ℕ
variables_of M = length M.vars.items

abbrev pub cells_of : Model → ℕ
cells_of M = variables_of M + length (members_by M Systems)

-- the numbers of the cells, where the variables have these
abbrev pub numbers_of : Model → List ℤ → List ℤ
numbers_of M a = a ++ weights_of M
