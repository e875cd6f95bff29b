use Rattle.std.proofs.Common.{rules, ◌∙◌, ap}
use Rattle.model_values.specs.Fresh.{listed_sums, seen_all, seen_fresh}
use Rattle.model_values.specs.Outcomes.{env_of, listed}
use Rattle.term_model.specs.Users.{user_rules}
use Rattle.model_values.proofs.FreshLaws.{fresh_failing, fresh_from}
use Rattle.model_values.proofs.TotalSteps.{vars_known}
use Rattle.model_values.proofs.fresh_values.fresh_in.Goals as goal

pub returns-in-Some : goal.returns-in-Some
returns-in-Some g c =
    let setting = c.args.setting.now in
    let users = user_rules (g.U.UserValues.viol_of setting.users.now) (g.U.UserValues.viol_at setting.users.now) in
    let env = env_of setting.cells.now in
    fresh_from users setting.model.now env (listed c.in_ok-vars.vars) (listed_sums c.in_ok-systems.systems) (listed_sums c.in_ok-objectives.objectives) (seen_all c.all_joined.result) _
    (c.in_ok-vars.ensures ∙ vars_known users setting.model.now setting.cells.now c.requires.count) c.in_ok-systems.ensures c.in_ok-objectives.ensures c.all_joined.ensures (seen_fresh c.in-Some.fresh) (ap seen_all c.in-Some.is) c.stopped.ensures

pub returns-in_ok-failure-in-None : goal.returns-in_ok-failure-in-None
returns-in_ok-failure-in-None g c =
    let setting = c.args.setting.now in
    let users = user_rules (g.U.UserValues.viol_of setting.users.now) (g.U.UserValues.viol_at setting.users.now) in
    let env = env_of setting.cells.now in
    fresh_failing users setting.model.now env (listed c.in_ok-vars.vars) (listed_sums c.in_ok-systems.systems) (listed_sums c.in_ok-objectives.objectives) (seen_all c.all_joined.result) _
    (c.in_ok-vars.ensures ∙ vars_known users setting.model.now setting.cells.now c.requires.count) c.in_ok-systems.ensures c.in_ok-objectives.ensures c.all_joined.ensures c.in_ok-failure-in-None.failure (ap seen_all c.in-None.is) c.in_ok-failure-in-None.ensures (search rules)
