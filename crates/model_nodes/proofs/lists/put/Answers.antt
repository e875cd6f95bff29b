use Rattle.std.proofs.Common.{◌∙◌, ◌++◌, [], ◌∷◌, ap}
use Rattle.store_build.proofs.ListLemmas.{in-set_same, in-set_other, in-read}
use Rattle.model_nodes.proofs.lists.put.Goals as goal

pub returns-clause-here : goal.returns-clause-here
returns-clause-here c =
    let old = c.args.lists.now.items in
    in-set_same old c.args.at c.push.new.self c.requires ∙ c.in_ok-push.ensures.items ∙ ap (λ ys. ys ++ c.args.id ∷ []) (in-read old c.args.at c.index_mut.result.now c.requires c.index_mut.ensures.value)

pub returns-clause-elsewhere : goal.returns-clause-elsewhere
returns-clause-elsewhere c = λ i ne. in-set_other c.args.lists.now.items c.args.at i c.push.new.self ne
