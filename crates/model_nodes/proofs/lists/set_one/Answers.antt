use Rattle.std.proofs.Common.{◌∙◌, ◌++◌, [], ◌∷◌, ap}
use Rattle.store_build.proofs.ListLemmas.{in-set_same, in-set_other}
use Rattle.model_nodes.proofs.lists.set_one.Goals as goal

pub returns-clause-here : goal.returns-clause-here
returns-clause-here c =
    in-set_same c.args.lists.now.items c.args.at c.push.new.self c.requires ∙ c.in_ok-push.ensures.items ∙ ap (λ ys. ys ++ c.args.id ∷ []) c.clear.ensures.items

pub returns-clause-elsewhere : goal.returns-clause-elsewhere
returns-clause-elsewhere c = λ i ne. in-set_other c.args.lists.now.items c.args.at i c.push.new.self ne
