use Rattle.std.proofs.Common.{take}
use Rattle.std.specs.Prelude.{filter}
use Rattle.model_values.specs.Failing.{AreFailing}
use Rattle.model_values.specs.Failures.{fails}
use Rattle.model_values.specs.Outcomes.{env_of}
use Rattle.term_model.specs.Subterms.{subterms_posted}
use Rattle.term_model.specs.Users.{user_rules}
use Rattle.model_values.proofs.least_failure.all_failing.Given as goal

abbrev pub invariant-loop-turn : goal.invariant-loop-turn
invariant-loop-turn g l =
    let users = user_rules (g.U.UserValues.viol_of l.setting.users.now) (g.U.UserValues.viol_at l.setting.users.now) in
    let env = env_of l.setting.cells.now in
    let M = l.setting.model.now in
    AreFailing users env l.failing.items (filter (fails users env) (subterms_posted M (take l.turn M.posted.items)))
