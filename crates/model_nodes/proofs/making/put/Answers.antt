use Rattle.std.proofs.Common.{arith}
use Rattle.model_nodes.proofs.MadeSteps.{put_made}
use Rattle.model_nodes.proofs.making.put.Goals as goal

pub returns-clause-made : goal.returns-clause-made
returns-clause-made g c =
    put_made g.N.NodeRule.rule g.about c.args.making.now.nodes.items _ c.args.making.now.lists.items _ c.args.making.now.places.items _ c.args.node c.args.inputs c.args.place c.in_ok-push.ensures.items c.in_ok-push-2.ensures.items c.in_ok-push-3.ensures.items
    (omega arith) (omega arith) c.requires.1.0 c.requires.1.1
