use Rattle.std.proofs.Common.{◌≡◌, take}
use Rattle.model_values.specs.Dependence.{marked}
use Rattle.model_values.specs.Outcomes.{env_of}
use Rattle.term_model.specs.Users.{user_rules}
use Rattle.violation_shares.specs.VariableViolations.{weighed_in, seen_weighed, listed_violations, HasWeightsOf}
use Rattle.violation_shares.proofs.system_shares.weighed_in.Given as goal

abbrev pub invariant-loop-turn : goal.invariant-loop-turn
invariant-loop-turn g l =
    (seen_weighed l.weighed ≡ weighed_in (user_rules (g.U.UserValues.viol_of l.setting.users.now) (g.U.UserValues.viol_at l.setting.users.now)) (env_of l.setting.cells.now) (marked l.marks) l.setting.model.now l.system (take l.turn l.setting.model.now.posted.items))
    × HasWeightsOf (listed_violations l.weighed.violations) l.weighed.weights.items
