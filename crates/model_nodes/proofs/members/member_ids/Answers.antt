use Rattle.std.proofs.Common.{◌≡◌, ◌∙◌, ◌<◌, length, get_or, ap, rules, arith}
use Rattle.std.proofs.lemmas.Option.{slice_get-get_or}
use Rattle.store_build.proofs.ListLemmas.{at_place}
use Rattle.term_model.specs.declared.model.Posted.{Posted}
use Rattle.model_nodes.proofs.GatherSteps.{gathered_all, gathered_none}
use Rattle.model_nodes.proofs.PostedTurns.{gathered_turn}
use Rattle.model_nodes.proofs.members.member_ids.Goals as goal

pub loop-turn-init : goal.loop-turn-init
loop-turn-init c = gathered_none c.args.model.now c.args.side c.in_ok-lists.lists.items (c.in_ok-lists.ensures.count ∙ ap length c.totals_by.ensures) c.in_ok-lists.ensures.empty

pub bounds-ids-turn : goal.bounds-ids-turn
bounds-ids-turn c = omega (arith, c.loop-turn-test.true, c.len-turn-end.ensures, c.requires.count)

pub loop-turn-preserved : goal.loop-turn-preserved
loop-turn-preserved c =
    let ids = c.requires in
    let M = c.args.model.now in
    let k = c.loop-turn.turn in
    let p : Posted = c.index.result.now in
    let is : p ≡ get_or M.posted.items k p = search rules in
    let lt : k < length M.posted.items = omega (arith, c.loop-turn-test.true, c.len-turn-end.ensures) in
    let own : k < length c.args.ids.now = omega (arith, lt, ids.count) in
    gathered_turn M c.args.ids.now c.requires k p (get_or c.args.ids.now k (record { 0 = 0 })) (at_place M.posted.items k p lt is) (slice_get-get_or c.args.ids.now k (record { 0 = 0 }) own)
    c.loop-turn.lists.items c.put_posted.new.lists.items c.in_ok-put_posted.ensures.count c.args.side c.in_ok-put_posted.ensures.put c.loop-turn.invariant

pub returns : goal.returns
returns c = gathered_all c.args.model.now c.args.side c.loop-turn.lists.items c.loop-turn.turn (omega (arith, c.loop-turn-test.false, c.len-turn-end.ensures)) c.loop-turn.invariant
