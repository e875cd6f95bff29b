use Rattle.std.proofs.Common.{◌≡◌, ◌∙◌, ◌<◌, length, get_or, rules, subst, arith}
use Rattle.std.proofs.lemmas.Option.{slice_get-get_or}
use Rattle.store_build.proofs.ListLemmas.{at_place}
use Rattle.term_model.specs.declared.model.Posted.{Posted}
use Rattle.model_nodes.specs.CellLists.{IsDefinedBy}
use Rattle.model_nodes.proofs.CellSteps.{defined_to_all, defined_to_none}
use Rattle.model_nodes.proofs.PostedTurns.{defined_turn}
use Rattle.model_nodes.proofs.cells.cell_lists.Goals as goal

pub loop-turn-init : goal.loop-turn-init
loop-turn-init c = defined_to_none c.args.model.now c.in_ok-lists.lists.items (c.in_ok-lists.ensures.count ∙ c.requires.cells) c.in_ok-lists.ensures.empty

pub bounds-ids-turn : goal.bounds-ids-turn
bounds-ids-turn c = omega (arith, c.loop-turn-test.true, c.len-turn-end.ensures, c.requires.ids.count)

pub loop-turn-preserved : goal.loop-turn-preserved
loop-turn-preserved c =
    let ids = c.requires.ids in
    let M = c.args.model.now in
    let k = c.loop-turn.turn in
    let p : Posted = c.index.result.now in
    let is : p ≡ get_or M.posted.items k p = search rules in
    let lt : k < length M.posted.items = omega (arith, c.loop-turn-test.true, c.len-turn-end.ensures) in
    let own : k < length c.args.ids.now = omega (arith, lt, ids.count) in
    defined_turn M c.args.ids.now c.requires.ids k p (get_or c.args.ids.now k (record { 0 = 0 })) (at_place M.posted.items k p lt is) (slice_get-get_or c.args.ids.now k (record { 0 = 0 }) own)
    c.loop-turn.lists.items c.define.new.lists.items c.in_ok-define.ensures.count
    (subst (λ ds. IsDefinedBy ds p (get_or c.args.ids.now k (record { 0 = 0 })) c.loop-turn.lists.items c.define.new.lists.items) c.deref.ensures.value c.in_ok-define.ensures.defined) c.loop-turn.invariant

pub returns : goal.returns
returns c = defined_to_all c.args.model.now c.loop-turn.lists.items c.loop-turn.turn (omega (arith, c.loop-turn-test.false, c.len-turn-end.ensures)) c.loop-turn.invariant
