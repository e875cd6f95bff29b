use Rattle.std.proofs.Common.{rules, ◌≡◌, ◌<◌, length, get_or}
use Rattle.model_values.specs.Fresh.{listed_sums}
use Rattle.term_model.specs.Posting.{totals_by}
use Rattle.model_values.specs.Outcomes.{env_of}
use Rattle.term_model.specs.Users.{user_rules}
use Rattle.term_model.specs.declared.model.Total.{Total}
use Rattle.model_values.proofs.TotalSteps.{sums_more}
use Rattle.model_values.proofs.all_parts.sums_in.Goals as goal

pub loop-number-preserved : goal.loop-number-preserved
loop-number-preserved g c =
    let setting = c.args.setting.now in
    let totals = totals_by setting.model.now c.args.side in
    let t : Total = c.index-totals-number.result in
    let is' : t ≡ get_or c.totals_by-totals.result.now c.loop-number.number t = search rules in
    let is : t ≡ get_or totals c.loop-number.number t = rw c.totals_by-totals.ensures at is' in
    let lt' : c.loop-number.number < length c.totals_by-totals.result.now = search (rules, c.loop-number-test.true) in
    let lt : c.loop-number.number < length totals = rw c.totals_by-totals.ensures at lt' in
    sums_more (user_rules (g.U.UserValues.viol_of setting.users.now) (g.U.UserValues.viol_at setting.users.now)) setting.model.now (env_of setting.cells.now) c.args.side totals c.loop-number.number t
    (listed_sums c.loop-number.so_far) (listed_sums c.in_ok-so_far.so_far) lt is c.loop-number.invariant c.in_ok-so_far.ensures
