-- What is kept of the rules of a closed solver's users' constraints, as its store's nodes have them: of each number the
-- rule that stands at the first subterm that is the user's constraint with it. A rule of this project.
use Rattle.std.specs.Prelude.{◌≡◌, ℕ, List, length, map, Option, Some, None, slice_get}
use Rattle.std.specs.List.{range_with_len}
use Rattle.cbl_base.specs.NodeLaw.{Rule}
use Rattle.posted_users.specs.KeptOf.{kept_of, user_node_rule}
use Rattle.posted_users.specs.KeptRule.{KeptRule, no_rule}
use Rattle.term_model.specs.Naming.{users_posted}
use Rattle.term_model.specs.Subterms.{distinct_subterms}
use Rattle.term_model.specs.declared.model.Model.{Model}
use Rattle.solver_store.specs.UserTerms.{is_user, place_where}

abbrev pub rule_there : Option Rule → KeptRule
rule_there (Some rule) = kept_of rule
rule_there None = no_rule

-- from the rules of the nodes, those of the subterms first
abbrev pub rule_of_user : Model → List Rule → ℕ → KeptRule
rule_of_user M given number = rule_there (slice_get given (place_where (is_user number) (distinct_subterms M)))

abbrev pub kept_rules : Model → List Rule → List KeptRule
kept_rules M given = map (rule_of_user M given) (range_with_len 0 (length (users_posted M M.posted.items)))

-- the same of nodes that wait for closing, by number
abbrev pub waiting_rules : {N : Type 0} → (N → Rule) → List N → List KeptRule
waiting_rules rule nodes = map (λ n. kept_of (rule n)) nodes

-- what is kept of a rule lasts: the node that has it tells the same
abbrev pub Lasts : KeptRule → Type 0
Lasts rule = kept_of (user_node_rule rule) ≡ rule
