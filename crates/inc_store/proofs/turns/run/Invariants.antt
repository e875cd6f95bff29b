use Rattle.std.proofs.Common.{◌≡◌, ◌+◌, ◌-◌, ◌≤◌, map, All}
use Rattle.store_turns.specs.Meaning.{layer_of}
use Rattle.store_build.specs.Frames.{IsFrame}
use Rattle.inc_store.specs.Course.{InCourse, NotBefore, first_front}
use Rattle.inc_store.proofs.turns.run.Given as goal

abbrev pub invariant-loop-turn : goal.invariant-loop-turn
invariant-loop-turn g l = record {
  ready : All g.N.NodeRule.ready l.nodes.items;
  rules : map g.N.NodeRule.rule l.nodes.items ≡ map g.N.NodeRule.rule l.fn.nodes.items;
  frame : IsFrame (map g.N.NodeRule.rule l.nodes.items) l.frame g.trace.kinds;
  course : InCourse (map g.N.NodeRule.rule l.nodes.items) (map g.N.NodeRule.held l.nodes.items) l.frame g.trace l.cells l.course (NotBefore l.front (layer_of l.frame)) (l.steps + 1);
  high : first_front ≤ l.front;
  bound : l.front ≤ 18446744073709551616;
}

abbrev pub decreases-loop-turn : goal.decreases-loop-turn
decreases-loop-turn g l = 18446744073709551617 - l.front

abbrev pub ghost-turn : goal.ghost-turn
ghost-turn g a = g.trace
