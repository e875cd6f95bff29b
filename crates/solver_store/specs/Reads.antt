-- What is read of a store of a model: the number of an id, and the violation at a place of an id's node. A rule of this
-- project.
use Rattle.std.specs.Prelude.{ℕ, ℤ, pos, ◌-◌, ◌&&◌, Bool, cond, nat_lt, List, length, map, Option, Some, None, is_some, slice_get, unwrap_or}
use Rattle.std.specs.Option.{option_map}
use Rattle.cbl_base.specs.Inputs.{number_of}
use Rattle.cbl_base.specs.NodeLaw.{Rule}
use Rattle.cbl_base.specs.declared.input.Input.{Input}
use Rattle.inc_store.specs.Views.{first_of, inputs_at, rules_in, value_at}
use Rattle.inc_store.specs.declared.store.Store.{Store}
use Rattle.term_count.specs.Codes.{is_known}
use Rattle.term_model.specs.Kinds.{kind_of_term, kinds_in}
use Rattle.term_model.specs.Subterms.{distinct_subterms}
use Rattle.term_model.specs.Posting.{member_at}
use Rattle.term_model.specs.declared.model.Model.{Model}
use Rattle.term_model.specs.declared.model.Total.{Total}
use Rattle.term_model.specs.declared.term.Term.{Term}

-- the violation at a place of a node that holds these inputs, 0 where there is no such place
abbrev pub violation_there : Option Rule → List Input → ℕ → ℤ
violation_there (Some rule) xs place = cond (nat_lt place (length xs)) (rule.violation_at xs place) (pos 0)
violation_there None xs place = pos 0

module _ {N : Type 0} where
  -- the rule of an id's node; a cell has none
  abbrev pub rule_at : (N → Rule) → Store N → ℕ → Option Rule
  rule_at rule s id = cond (nat_lt id (first_of s)) None (slice_get (rules_in rule s) (id - first_of s))

  abbrev pub violation_in : (N → Rule) → Store N → ℕ → ℕ → ℤ
  violation_in rule s id place = violation_there (rule_at rule s id) (map (value_at s) (inputs_at s id)) place

  abbrev pub number_in : Store N → ℕ → ℤ
  number_in s id = number_of (value_at s id)

-- the terms that a store of a model has ids for: the model's variables, and its distinct subterms
abbrev pub is_held : Model → Term → Bool
is_held M t = is_known (distinct_subterms M) t && is_some (kind_of_term (kinds_in M.vars.items) t)

-- the weight of a system's member, 0 where there is none
abbrev pub weight_in : List Total → ℕ → ℕ → ℤ
weight_in totals system member = unwrap_or (option_map (λ m. m.weight) (member_at totals system member)) (pos 0)
