use Rattle.std.proofs.Common.{take}
use Rattle.model_values.specs.AllParts.{AreParts, AreWeighed, all_seen}
use Rattle.model_values.specs.Outcomes.{env_of}
use Rattle.term_model.specs.Users.{user_rules}
use Rattle.model_values.proofs.all_parts.all_parts.Given as goal

abbrev pub invariant-loop-turn : goal.invariant-loop-turn
invariant-loop-turn g l =
    AreParts (user_rules (g.U.UserValues.viol_of l.setting.users.now) (g.U.UserValues.viol_at l.setting.users.now)) (env_of l.setting.cells.now) l.setting.model.now l.side (take l.turn l.setting.model.now.posted.items) (all_seen l.parts.items)
    × AreWeighed l.parts.items
