use Rattle.std.proofs.Common.{rules, vec_len, ◌∙◌, ap, length, take, ◌≡◌, pos}
use Rattle.main_constraints.proofs.MoveLemmas.{move_within, length_after}
use Rattle.main_constraints.proofs.moves.make_moves.Goals as goal

pub index_mut-requires : goal.index_mut-requires
index_mut-requires c =
    let i = c.loop-change.change-index in
    let size : vec_len c.loop-change.list ≡ length c.loop-change.list.items = search rules in
    let same : length c.loop-change.list.items ≡ length c.args.list.now.items = ap length c.loop-change.invariant ∙ length_after c.args.list.now.items (take i c.args.moves.now) in
    rw (size ∙ same) (move_within (length c.args.list.now.items) c.args.moves.now i (0, pos 0) c.requires c.loop-change-test.true)
