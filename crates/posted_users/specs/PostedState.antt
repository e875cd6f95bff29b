-- What is seen of a user's constraint that was posted: the numbers that it holds, or is to hold first, and what is kept of
-- its rule. A rule of this project.
use Rattle.std.specs.Prelude.{ℕ, ℤ, pos, List, map, replicate, refl}
use Rattle.std.specs.Coded.{Coded, code_by, coded×, coded_list, coded_ℤ}
use Rattle.posted_users.specs.KeptCode.{rule_code}
use Rattle.user_constraint.specs.KeptRule.{KeptRule}

pub record PostedState : Type 0 where
  pub held : List ℤ
  pub rule : KeptRule

abbrev pub posted_code : Coded PostedState
posted_code = code_by (List ℤ × KeptRule) (coded× (coded_list coded_ℤ) rule_code) (λ p. (p.held, p.rule)) (λ p. record { held = p.0; rule = p.1 }) (λ _. refl)

-- the rules of several, in order
abbrev pub rules_of : List PostedState → List KeptRule
rules_of posted = map (λ p. p.rule) posted
