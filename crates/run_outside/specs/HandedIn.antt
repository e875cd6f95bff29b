-- What is seen of a user's constraint that was handed in: its name, what is kept of its rule until a system is given it, and
-- whether it is free. A rule of this project.
use Rattle.std.specs.Prelude.{ℕ, Bool, true, false, List, map, Option, Some, None, refl}
use Rattle.std.specs.Coded.{Coded, code_by, coded×, coded_list, coded_ℕ, coded_bool}
use Rattle.cbl_base.specs.declared.faults.RunFault.{RunFault}
use Rattle.cbl_base.specs.declared.faults.RunFault.TheVariants.{UnknownUser, UserSpent}
use Rattle.cbl_base.specs.NodeLaw.{Rule}
use Rattle.run_solvers.specs.OfPostedUsers.KeptCode.{rule_code}
use Rattle.run_solvers.specs.OfPostedUsers.KeptOf.{IsUserRule}
use Rattle.run_solvers.specs.OfPostedUsers.KeptRule.{KeptRule, kept, no_rule}
use Rattle.user_constraint.specs.UserRule.{UserRule}
use Rattle.run_solvers.specs.OfCometMeaning.Users.{User}

-- the rule of one that is still there
abbrev pub rule_left : Option KeptRule → KeptRule
rule_left None = no_rule
rule_left (Some rule) = rule

-- what is still there is the node of a user's constraint
abbrev pub IsOfUser : {A : Type 0} → (A → Rule) → Option A → Type 0
IsOfUser rule_of None = Unit {0}
IsOfUser rule_of (Some node) = IsUserRule (rule_of node)

-- why a name gives none to take, by whether one has it
abbrev pub refusal_of : Bool → RunFault
refusal_of true = UserSpent
refusal_of false = UnknownUser

-- users' constraints as they are handed in: by name and rule, and each of them free
abbrev pub users_seen : {A : Type 0} → (A → List ℕ) → (A → UserRule) → List A → List User
users_seen name_of rule_of users = map (λ user. record { name = name_of user; rule = kept (rule_of user); free = true }) users

abbrev pub user_code : Coded User
user_code =
    code_by (List ℕ × (KeptRule × Bool)) (coded× (coded_list coded_ℕ) (coded× rule_code coded_bool)) (λ u. (u.name, (u.rule, u.free)))
    (λ p. record { name = p.0; rule = p.1.0; free = p.1.1 }) (λ _. refl)
