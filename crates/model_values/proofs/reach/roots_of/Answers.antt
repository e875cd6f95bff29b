use Rattle.std.proofs.Common.{rules, ◌≡◌, ◌<◌, [], get_or, length}
use Rattle.model_values.specs.Support.{member_in, vars_in}
use Rattle.term_model.specs.declared.model.Posted.{Posted}
use Rattle.term_model.proofs.Layers.{joined_more}
use Rattle.model_values.proofs.reach.roots_of.Goals as goal

pub loop-turn-preserved : goal.loop-turn-preserved
loop-turn-preserved g c =
    let M = c.args.tables.now.model.now in
    let posted = M.posted.items in
    let p : Posted = c.index.result.now in
    let is : p ≡ get_or posted c.loop-turn.turn p = search rules in
    let lt : c.loop-turn.turn < length posted = search rules in
    joined_more (λ q. vars_in (member_in M c.args.whole q)) posted c.loop-turn.turn p [] c.loop-turn.roots.items c.push_roots.new.into.items lt is c.loop-turn.invariant c.in_ok-push_roots.ensures
