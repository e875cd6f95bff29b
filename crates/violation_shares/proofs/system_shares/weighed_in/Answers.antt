use Rattle.std.proofs.Common.{rules, ◌≡◌, ◌<◌, length, arith, get_or}
use Rattle.model_values.specs.Dependence.{marked}
use Rattle.model_values.specs.Outcomes.{env_of}
use Rattle.term_model.specs.Users.{user_rules}
use Rattle.violation_shares.specs.VariableViolations.{seen_weighed}
use Rattle.term_model.specs.declared.model.Posted.{Posted}
use Rattle.violation_shares.proofs.ShareLaws.{weighed_more}
use Rattle.violation_shares.proofs.system_shares.weighed_in.Goals as goal

pub loop-turn-preserved : goal.loop-turn-preserved
loop-turn-preserved g c =
    let setting = c.args.setting.now in
    let p : Posted = c.index.result.now in
    let is : p ≡ get_or setting.model.now.posted.items c.loop-turn.turn p = search rules in
    let lt : c.loop-turn.turn < length setting.model.now.posted.items = omega (arith, c.loop-turn-test.true, c.len-turn-end.ensures) in (
      weighed_more (user_rules (g.U.UserValues.viol_of setting.users.now) (g.U.UserValues.viol_at setting.users.now)) (env_of setting.cells.now) (marked c.args.marks.now) setting.model.now c.args.system c.loop-turn.turn p
          (seen_weighed c.loop-turn.weighed) (seen_weighed c.in_ok-weighed.weighed) lt is c.loop-turn.invariant.0 c.in_ok-weighed.ensures.parts,
      c.in_ok-weighed.ensures.weighed,
    )
