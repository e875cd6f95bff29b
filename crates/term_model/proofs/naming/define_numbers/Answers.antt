use Rattle.std.proofs.Common.{rules, ◌≡◌, ◌<◌, get_or, length}
use Rattle.term_model.specs.Posting.{define_number}
use Rattle.term_model.specs.declared.model.Posted.{Posted}
use Rattle.term_model.proofs.UsableLaws.{numbers_more}
use Rattle.term_model.proofs.naming.define_numbers.Goals as goal

pub loop-turn-preserved : goal.loop-turn-preserved
loop-turn-preserved c =
    let posted = c.args.model.now.posted.items in
    let p : Posted = c.index.result.now in
    let is : p ≡ get_or posted c.loop-turn.turn p = search rules in
    let lt : c.loop-turn.turn < length posted = search rules in
    numbers_more posted c.loop-turn.turn p c.loop-turn.numbers.items c.push_define.new.into.items define_number lt is c.loop-turn.invariant c.in_ok-push_define.ensures
