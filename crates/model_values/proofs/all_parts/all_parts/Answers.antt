use Rattle.std.proofs.Common.{rules, ◌≡◌, ◌<◌, ◌≤◌, length, arith, get_or, subst, sym, take}
use Rattle.model_values.specs.AllParts.{AreParts, all_seen}
use Rattle.model_values.specs.Outcomes.{env_of}
use Rattle.term_model.specs.Users.{user_rules}
use Rattle.term_model.specs.declared.model.Posted.{Posted}
use Rattle.model_values.proofs.AllPartsLaws.{turns_more, parts_end}
use Rattle.model_values.proofs.all_parts.all_parts.Goals as goal

pub loop-turn-preserved : goal.loop-turn-preserved
loop-turn-preserved g c =
    let setting = c.args.setting.now in
    let users = user_rules (g.U.UserValues.viol_of setting.users.now) (g.U.UserValues.viol_at setting.users.now) in
    let posted = setting.model.now.posted.items in
    let p : Posted = c.index.result.now in
    let is : p ≡ get_or posted c.loop-turn.turn p = search rules in
    let lt : c.loop-turn.turn < length posted = omega (arith, c.loop-turn-test.true, c.len-turn-end.ensures) in (
      subst (λ ps. AreParts users (env_of setting.cells.now) setting.model.now c.args.side ps (all_seen c.add_to_parts.new.parts.items)) (sym (turns_more posted c.loop-turn.turn p lt is))
          (c.in_ok-add_to_parts.ensures.parts (take c.loop-turn.turn posted) c.loop-turn.invariant.0),
      c.in_ok-add_to_parts.ensures.weighed,
    )

pub returns-clause-parts : goal.returns-clause-parts
returns-clause-parts g c =
    let setting = c.args.setting.now in
    let users = user_rules (g.U.UserValues.viol_of setting.users.now) (g.U.UserValues.viol_at setting.users.now) in
    let le : length setting.model.now.posted.items ≤ c.loop-turn.turn = omega (arith, c.loop-turn-test.false, c.len-turn-end.ensures) in
    parts_end users (env_of setting.cells.now) setting.model.now c.args.side (all_seen c.loop-turn.parts.items) c.loop-turn.turn le c.loop-turn.invariant.0
