use Rattle.std.proofs.Common.{◌∙◌, ap, sym, subst, filter, unwrap_or}
use Rattle.model_values.specs.Failing.{AreFailing}
use Rattle.model_values.specs.Failures.{fails, no_failure}
use Rattle.model_values.specs.Outcomes.{env_of}
use Rattle.model_values.specs.Support.{supports}
use Rattle.term_model.specs.Subterms.{subterms_posted}
use Rattle.term_model.specs.Users.{user_rules}
use Rattle.model_values.proofs.FailureLaws.{first_below}
use Rattle.model_values.proofs.least_failure.least_failure_below.Goals as goal

pub returns : goal.returns
returns g c =
    let users = user_rules (g.U.UserValues.viol_of c.args.setting.now.users.now) (g.U.UserValues.viol_at c.args.setting.now.users.now) in
    let M = c.args.setting.now.model.now in
    let env = env_of c.args.setting.now.cells.now in
    let ts = filter (fails users env) (subterms_posted M M.posted.items) in
    let us = filter (fails users env) (subterms_posted M (filter (supports M c.args.whole) M.posted.items)) in
    let all : AreFailing users env c.deref-3.result.now ts = subst (λ found. AreFailing users env found ts) (sym c.deref-3.ensures.value) c.in_ok-failing.ensures in
    let some : AreFailing users env c.deref-4.result.now us = subst (λ found. AreFailing users env found us) (sym c.deref-4.ensures.value) c.in_ok-supporting.ensures in
    c.unwrap_or.ensures
    ∙ ap (unwrap_or c.first_among.result) c.none.ensures
    ∙ first_below users env M c.args.whole c.first_among.result no_failure (c.first_among.ensures users env ts us all some)
