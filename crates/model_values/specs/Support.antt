-- On which subterms a system or an objective stands: those of its members, and those of the definitions of the
-- variables on which a member depends, also through others. A rule of this project.
use Rattle.std.specs.Prelude.{◌≡◌, ◌<◌, ℕ, Bool, false, List, [], filter, is_some, length, map, nat_eq, Option, Some, None, slice_get, unwrap_or, if◌then◌else◌}
use Rattle.std.specs.Option.{option_map}
use Rattle.std.specs.List.{list_any}
use Rattle.cbl_base.specs.NumberRule.{NumberRule}
use Rattle.model_values.specs.Dependence.{var_depends}
use Rattle.model_values.specs.Failures.{first_failure}
use Rattle.model_values.specs.Outcomes.{Outcome}
use Rattle.model_values.specs.declared.failure.Failure.{Failure}
use Rattle.model_values.specs.declared.wholes.Whole.{Whole}
use Rattle.model_values.specs.declared.wholes.Whole.TheVariants.{System, Objective}
use Rattle.term_model.specs.Definitions.{joined, vars_of}
use Rattle.term_model.specs.Posting.{member_at}
use Rattle.term_model.specs.SameTerms.{same_term}
use Rattle.term_model.specs.Subterms.{distinct_subterms, subterms_posted}
use Rattle.term_model.specs.declared.model.Member.{Member}
use Rattle.term_model.specs.declared.model.Model.{Model}
use Rattle.term_model.specs.declared.model.Posted.{Posted}
use Rattle.term_model.specs.declared.model.Posted.TheVariants.{Define, Constrain, Part}
use Rattle.term_model.specs.declared.term.Term.{Term}

-- the member that was posted, where it is one of the system or objective
abbrev pub member_in : Model → Whole → Posted → Option Member
member_in M (System s) (Constrain system member) = if nat_eq system s then member_at M.systems.items s member else None
member_in M (Objective o) (Part objective member) = if nat_eq objective o then member_at M.objectives.items o member else None
member_in M (System s) (Define d) = None
member_in M (System s) (Part objective member) = None
member_in M (Objective o) (Define d) = None
member_in M (Objective o) (Constrain system member) = None

-- the variables in its members
abbrev pub vars_in : Option Member → List ℕ
vars_in (Some member) = vars_of member.term
vars_in None = []

abbrev pub roots_in : Model → Whole → List Posted → List ℕ
roots_in M whole posted = joined (map (λ p. vars_in (member_in M whole p)) posted)

-- whether one of these variables depends on a variable
abbrev pub one_depends : Model → List ℕ → ℕ → Bool
one_depends M roots x = list_any (var_depends M x) roots

-- whether the system or objective stands on what was posted
abbrev pub supports : Model → Whole → Posted → Bool
supports M whole (Define d) = unwrap_or (option_map (λ def. one_depends M (roots_in M whole M.posted.items) def.var.index) (slice_get M.defs.items d)) false
supports M whole (Constrain system member) = is_some (member_in M whole (Constrain system member))
supports M whole (Part objective member) = is_some (member_in M whole (Part objective member))

-- whether it stands on a subterm
abbrev pub stands_on : Model → Whole → Term → Bool
stands_on M whole t = list_any (same_term t) (subterms_posted M (filter (supports M whole) M.posted.items))

-- the failure of the least numbered subterm on which it stands
abbrev pub failure_below : (ℕ → NumberRule) → Model → (ℕ → Outcome) → Whole → Option Failure
failure_below users M env whole = first_failure users env (filter (stands_on M whole) (distinct_subterms M))

-- a mark for each variable on which one of these depends
abbrev pub AreReached : Model → List ℕ → List Bool → Type 0
AreReached M roots marks = (i : ℕ) → i < length M.vars.items → slice_get marks i ≡ Some (one_depends M roots i)
