use Rattle.node_states.proofs.SetSteps.{set_step}
use Rattle.node_states.proofs.changes.set_change.Goals as goal

pub returns : goal.returns
returns c =
    set_step c.args.place c.args.from.now c.args.to.now c.in_ok-added.added c.in_ok-removed.removed
    c.as_slice-from.ensures.rising c.as_slice-to.ensures.rising c.in_ok-added.ensures c.in_ok-removed.ensures
