use Rattle.std.proofs.Common.{map, subst}
use Rattle.store_turns.specs.Meaning.{graph_of}
use Rattle.store_turns.specs.declared.frame.Frame.{Frame}
use Rattle.inc_store.specs.Moves.{AreMoves}
use Rattle.store_runs.proofs.moves.fits.Goals as goal

pub returns : goal.returns
returns g c = λ holds.
    let rules = map g.N.NodeRule.rule c.args.store.now.nodes.items in
    subst (λ (frame : Frame). AreMoves (graph_of rules frame) c.args.moves.now) c.frame.ensures (c.are_moves.ensures holds rules)
