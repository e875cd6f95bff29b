-- A model is well formed where its terms are well kinded and no deeper than the limit, a definition's term
-- is of the variable's kind, members are numbers, and `posted` names each definition once, the constraints of
-- each system and the terms of each objective once and in order, and no other system or objective; and where
-- each user's constraint stands once. The variables in terms are the model's own, since others have no kind.
-- A rule of this project.
use Rattle.std.specs.Prelude.{◌≡◌, ℕ, ◌<◌, ◌≤◌, List, filter_map, length, Some, None, slice_get}
use Rattle.std.specs.List.{All, range_with_len}
use Rattle.cbl_base.specs.Inputs.{number_kind}
use Rattle.cbl_base.specs.declared.limits.TheConstants.{MAX_TERM_DEPTH}
use Rattle.term_model.specs.Definitions.{definition_of}
use Rattle.term_model.specs.Depth.{depth_of}
use Rattle.term_model.specs.Kinds.{kinds_in, kind_of_term}
use Rattle.term_model.specs.Naming.{NamesEachOnce, users_posted}
use Rattle.term_model.specs.Posting.{constrain_number, define_number, part_number}
use Rattle.term_model.specs.declared.model.Definition.{Definition}
use Rattle.term_model.specs.declared.model.Member.{Member}
use Rattle.term_model.specs.declared.model.Model.{Model}
use Rattle.term_model.specs.declared.model.Posted.{Posted}
use Rattle.term_model.specs.declared.model.Posted.TheVariants.{Define, Constrain, Part}
use Rattle.term_model.specs.declared.model.Total.{Total}
use Rattle.term_model.specs.declared.posting.Side.{Side}
use Rattle.term_model.specs.declared.posting.Side.TheVariants.{Systems, Objectives}

-- a definition's term is of the kind of a variable of the model
pub record IsDefinition (M : Model) (def : Definition) : Type 0 where
  pub var : def.var.index < length M.vars.items
  pub kind : kind_of_term (kinds_in M.vars.items) def.term ≡ kinds_in M.vars.items def.var.index
  pub depth : depth_of def.term ≤ MAX_TERM_DEPTH

-- a member is a number
pub record IsMember (M : Model) (member : Member) : Type 0 where
  pub kind : kind_of_term (kinds_in M.vars.items) member.term ≡ Some number_kind
  pub depth : depth_of member.term ≤ MAX_TERM_DEPTH

-- no two definitions are of one variable
abbrev pub AreDistinct : List Definition → Type 0
AreDistinct defs = (d e : ℕ) (def other : Definition) → slice_get defs d ≡ Some def → slice_get defs e ≡ Some other → def.var.index ≡ other.var.index → d ≡ e

-- what was posted to a system or an objective is posted to one of so many
abbrev pub IsThere : Side → ℕ → Posted → Type 0
IsThere Systems count (Constrain system member) = system < count
IsThere Systems count (Define d) = Unit {0}
IsThere Systems count (Part objective member) = Unit {0}
IsThere Objectives count (Part objective member) = objective < count
IsThere Objectives count (Define d) = Unit {0}
IsThere Objectives count (Constrain system member) = Unit {0}

pub record IsWellFormed (M : Model) : Type 0 where
  pub defs : (d : ℕ) (def : Definition) → slice_get M.defs.items d ≡ Some def → IsDefinition M def
  pub distinct : AreDistinct M.defs.items
  pub systems : (s : ℕ) (total : Total) (k : ℕ) (member : Member) → slice_get M.systems.items s ≡ Some total → slice_get total.members.items k ≡ Some member → IsMember M member
  pub objectives : (o : ℕ) (total : Total) (k : ℕ) (member : Member) → slice_get M.objectives.items o ≡ Some total → slice_get total.members.items k ≡ Some member → IsMember M member
  pub posted_defs : NamesEachOnce (filter_map define_number M.posted.items) (length M.defs.items)
  pub posted_constraints : (s : ℕ) (total : Total) → slice_get M.systems.items s ≡ Some total → filter_map (constrain_number s) M.posted.items ≡ range_with_len 0 (length total.members.items)
  pub posted_parts : (o : ℕ) (total : Total) → slice_get M.objectives.items o ≡ Some total → filter_map (part_number o) M.posted.items ≡ range_with_len 0 (length total.members.items)
  pub posted_systems : All (IsThere Systems (length M.systems.items)) M.posted.items
  pub posted_objectives : All (IsThere Objectives (length M.objectives.items)) M.posted.items
  pub users : NamesEachOnce (users_posted M M.posted.items) (length (users_posted M M.posted.items))

-- each variable without a definition is a number
abbrev pub HasDefinedSets : Model → Type 0
HasDefinedSets M = (i : ℕ) → i < length M.vars.items → definition_of M i ≡ None → kinds_in M.vars.items i ≡ Some number_kind
