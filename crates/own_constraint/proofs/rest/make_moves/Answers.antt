use Rattle.std.proofs.Common.{rules, vec_len, ◌∙◌, ap, length, take, ◌≡◌, pos}
use Rattle.own_constraint.proofs.MoveLemmas.{move_within, length_after}
use Rattle.own_constraint.proofs.rest.make_moves.Goals as goal

pub index_mut-requires : goal.index_mut-requires
index_mut-requires c =
    let i = c.loop-change.change-index in
    let size : vec_len c.loop-change.shifts ≡ length c.loop-change.shifts.items = search rules in
    let same : length c.loop-change.shifts.items ≡ length c.args.shifts.now.items = ap length c.loop-change.invariant ∙ length_after c.args.shifts.now.items (take i c.args.moves.now) in
    rw (size ∙ same) (move_within (length c.args.shifts.now.items) c.args.moves.now i (0, pos 0) c.requires c.loop-change-test.true)
