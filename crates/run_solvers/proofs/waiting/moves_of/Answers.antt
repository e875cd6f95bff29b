-- One more variable, for which a number waits, or none does.
use Rattle.std.proofs.Common.{◌≡◌, None, w64, to_z, of_z, rules}
use Rattle.std.proofs.lemmas.List.{drop_more}
use Rattle.run_solvers.proofs.BlockLaws.{moves_more, moves_skip, none_there}
use Rattle.run_solvers.proofs.waiting.moves_of.Goals as goal
use Rattle.run_solvers.proofs.waiting.moves_of.Goals.{in-Some+in_ok-push, in_default}

pub loop-index-preserved : goal.loop-index-preserved
loop-index-preserved c =
    let l = c.loop-index in
    let ws = c.args.waiting.now in
    let below = c.loop-index-test.true in
    elim c.match-waiting-index.branch [
      | in-Some+in_ok-push w ↦ let same : to_z w64 (of_z w64 w.in-Some.number) ≡ w.in-Some.number = search rules in rw (w.moves-is, w.in_ok-push.ensures.items) (moves_more c.args.solver ws l.index _ l.moves.items below (drop_more ws l.index None below) l.invariant _ w.in-Some.number same w.in-Some.is)
      | in_default w ↦ rw w.moves-is (moves_skip c.args.solver ws l.index _ l.moves.items below (drop_more ws l.index None below) l.invariant (none_there _ w.in_default.not-Some))
    ]
