use Rattle.std.proofs.Common.{ap, arith, length}
use Rattle.inc_store.specs.Views.{graph_in}
use Rattle.bench.specs.Parts.{rule_of_node}
use Rattle.bench.proofs.PartGraphs.{moves_of}
use Rattle.bench.proofs.store.asking.scene_of.Goals as goal

pub returns-clause-assignments : goal.returns-clause-assignments
returns-clause-assignments c =
    moves_of c.args.count _ (graph_in rule_of_node c.in_ok-store.store) _ c.in_ok-store.ensures.free (omega (arith, ap length c.as_slice-numbers.ensures.value, c.in_ok-start.ensures)) c.in_ok-assignments.ensures

pub returns-clause-swaps : goal.returns-clause-swaps
returns-clause-swaps c =
    moves_of c.args.count _ (graph_in rule_of_node c.in_ok-store.store) _ c.in_ok-store.ensures.free (omega (arith, ap length c.as_slice-numbers.ensures.value, c.in_ok-start.ensures)) c.in_ok-swaps.ensures
