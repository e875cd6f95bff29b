-- One more term in the row.
use Rattle.run_solvers.proofs.BuiltLaws.{more_built}
use Rattle.run_solvers.proofs.built.push_built.Goals as goal

pub returns : goal.returns
returns c = λ before are.
    let inside = c.built.inside in
    rw (c.in_ok-push.ensures.items, c.deeper-row.ensures, ← c.built.view_is) (more_built c.args.row.now.terms.items c.args.row.now.deepest before inside.term inside.depth are c.built.invariant)
