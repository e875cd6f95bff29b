-- A delta is compared with that of the move that is kept.
use Rattle.std.proofs.Common.{◌≡◌, ap, w64, to_z, of_z, rules}
use Rattle.comet_meaning.specs.Moves.{is_better}
use Rattle.run_state.proofs.state.State.is_better.Goals as goal

pub returns-in-Some : goal.returns-in-Some
returns-in-Some c = λ printed.
    let same : to_z w64 (of_z w64 c.args.delta) ≡ c.args.delta = search rules in
    let kept : to_z w64 (of_z w64 c.in-Some.kept.now.delta) ≡ c.in-Some.kept.now.delta = search rules in
    rw (same, kept) (ap (is_better c.args.delta) (c.in-Some.ensures printed))

pub returns-in-None : goal.returns-in-None
returns-in-None c = λ printed. ap (is_better c.args.delta) (c.in-None.ensures printed)
