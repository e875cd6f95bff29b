use Rattle.std.proofs.Common.{rules, ◌≡◌, ◌<◌, [], get_or, length}
use Rattle.term_model.specs.Naming.{users_where}
use Rattle.term_model.specs.Posting.{term_posted}
use Rattle.term_model.specs.declared.model.Posted.{Posted}
use Rattle.term_model.proofs.Layers.{joined_more}
use Rattle.term_model.proofs.naming.user_numbers.Goals as goal

pub loop-turn-preserved : goal.loop-turn-preserved
loop-turn-preserved c =
    let posted = c.args.model.now.posted.items in
    let p : Posted = c.index.result.now in
    let is : p ≡ get_or posted c.loop-turn.turn p = search rules in
    let lt : c.loop-turn.turn < length posted = search rules in
    joined_more (λ q. users_where (term_posted c.args.model.now q)) posted c.loop-turn.turn p [] c.loop-turn.numbers.items c.push_users_posted.new.into.items lt is c.loop-turn.invariant c.in_ok-push_users_posted.ensures
