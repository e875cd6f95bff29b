-- Users' constraints, in the order in which they were handed in: each has a name and a rule, and is free until a system is
-- given it. A rule of this project.
use Rattle.std.specs.Prelude.{ℕ, zero, suc, Bool, false, ◌&&◌, List, [], ◌∷◌, Option, None, Some, nat_eq, slice_get, unwrap_or, if◌then◌else◌}
use Rattle.std.specs.Cmp.Lexicographic.{pointwise}
use Rattle.std.specs.List.{list_any}
use Rattle.std.specs.Option.{option_map}
use Rattle.posted_users.specs.KeptRule.{KeptRule, no_rule}

pub record User : Type 0 where
  pub name : List ℕ
  pub rule : KeptRule
  -- whether it isn't taken yet
  pub free : Bool

abbrev pub is_named : List ℕ → User → Bool
is_named name user = pointwise nat_eq user.name name

-- whether one that was handed in has the name
abbrev pub is_known : List ℕ → List User → Bool
is_known name users = list_any (is_named name) users

-- the number, from 0, of the first one that has the name and is free
abbrev pub first_free : List ℕ → List User → Option ℕ
first_free name [] = None
first_free name (user ∷ users) = if is_named name user && user.free then Some 0 else option_map suc (first_free name users)

-- with the one of this number taken
abbrev pub with_taken : List User → ℕ → List User
with_taken [] n = []
with_taken (user ∷ users) zero = record user { free = false } ∷ users
with_taken (user ∷ users) (suc n) = user ∷ with_taken users n

-- with the one of this number given to a system, which has its rule from then on
abbrev pub with_given : List User → ℕ → List User
with_given [] n = []
with_given (user ∷ users) zero = record user { rule = no_rule } ∷ users
with_given (user ∷ users) (suc n) = user ∷ with_given users n

-- the rule of the one of this number
abbrev pub rule_in : List User → ℕ → KeptRule
rule_in users n = unwrap_or (option_map (λ user. user.rule) (slice_get users n)) no_rule
