use Rattle.std.proofs.Common.{◌∙◌, ◌++◌, [], ◌∷◌, Some, map, ap, sym}
use Rattle.std.proofs.lemmas.Iterator.Adapters.{YieldsList-from_vec}
use Rattle.std.proofs.lemmas.Iterator.Consumers.{YieldsList-end}
use Rattle.std.proofs.lemmas.List.{map-id, map_push}
use Rattle.model_nodes.proofs.heads.waiting_of.Goals as goal

pub loop-node-preserved : goal.loop-node-preserved
loop-node-preserved g c = c.in_ok-push.ensures.items ∙ ap (λ ws. ws ++ Some c.in-Some.node ∷ []) c.loop-node.invariant ∙ sym (map_push (λ n. Some n) c.loop-node.yielded c.in-Some.node)

pub returns : goal.returns
returns g c =
    let t = YieldsList-end (YieldsList-from_vec c.args.nodes.items c.into_iter-node-iterator.ensures.into_iter_gives.0 (c.into_iter-node-iterator.ensures.into_iter_gives.1 ∙ c.args.nodes.ok.0)) c.loop-node.yielded c.loop-node.node-iterator c.loop-node.yielded_by c.next.result c.next.new.self c.in-None.is c.next.ensures.steps in
    c.loop-node.invariant ∙ ap (map (λ n. Some n)) (sym (map-id c.loop-node.yielded) ∙ t.0)
