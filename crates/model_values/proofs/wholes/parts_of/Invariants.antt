use Rattle.std.proofs.Common.{◌≡◌, take}
use Rattle.model_values.specs.Outcomes.{env_of}
use Rattle.term_model.specs.Users.{user_rules}
use Rattle.model_values.specs.Wholes.{parts_in, seen, HasWeights, listed_numbers}
use Rattle.model_values.proofs.wholes.parts_of.Given as goal

abbrev pub invariant-loop-turn : goal.invariant-loop-turn
invariant-loop-turn g l =
    (seen l.parts ≡ parts_in (user_rules (g.U.UserValues.viol_of l.setting.users.now) (g.U.UserValues.viol_at l.setting.users.now)) (env_of l.setting.cells.now) l.setting.model.now l.whole (take l.turn l.setting.model.now.posted.items))
    × HasWeights (listed_numbers l.parts.numbers) l.parts.weights.items
