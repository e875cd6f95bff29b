use Rattle.std.proofs.Common.{map}
use Rattle.inc_store.specs.Moves.{trace_of}
use Rattle.inc_store.proofs.store.Store.commit.Given as goal

abbrev pub ghost-commit_moves : goal.ghost-commit_moves
ghost-commit_moves g a = record { rules = map g.N.NodeRule.rule a.nodes.now.items; helds = map g.N.NodeRule.held a.nodes.now.items; trace = trace_of a.cells.now a.moves.now a.steps.now }
