use Rattle.std.proofs.Common.{rules, ◌≡◌, ◌<◌, get_or, length, subst}
use Rattle.model_values.specs.Failing.{AreFailing}
use Rattle.model_values.specs.Outcomes.{env_of}
use Rattle.term_model.specs.Users.{user_rules}
use Rattle.term_model.specs.declared.model.Posted.{Posted}
use Rattle.model_values.proofs.FailureLaws.{supporting_turn}
use Rattle.model_values.proofs.least_failure.supporting_failing.Goals as goal

pub loop-turn-preserved : goal.loop-turn-preserved
loop-turn-preserved g c =
    let setting = c.args.setting.now in
    let users = user_rules (g.U.UserValues.viol_of setting.users.now) (g.U.UserValues.viol_at setting.users.now) in
    let env = env_of setting.cells.now in
    let posted = setting.model.now.posted.items in
    let p : Posted = c.index.result.now in
    let is : p ≡ get_or posted c.loop-turn.turn p = search rules in
    let lt : c.loop-turn.turn < length posted = search rules in
    subst (AreFailing users env c.push_supporting.new.into.items) (supporting_turn users env setting.model.now c.args.whole c.loop-turn.turn p lt is) (c.in_ok-push_supporting.ensures _ c.loop-turn.invariant)
