use Rattle.std.proofs.Common.{◌≡◌, ◌+◌, [], ◌∷◌, ◌++◌, take, sym, ap, ◌∙◌}
use Rattle.std.proofs.lemmas.List.{take_more}
use Rattle.solver_store.proofs.ToldLists.{told_more}
use Rattle.solver_store.proofs.changes.variable_changes.Goals as goal

pub loop-change-preserved : goal.loop-change-preserved
loop-change-preserved c =
    let i = c.loop-change.change-index in
    let more : take (i + 1) c.args.changes.now ≡ take i c.args.changes.now ++ c.change-item.result ∷ [] =
    take_more c.args.changes.now i c.change-item.result c.loop-change-test.true ∙ ap (λ n. take i c.args.changes.now ++ n ∷ []) (sym c.change-item.is) in
    told_more c.args.solver c.args.count c.args.changes.now c.loop-change.change-index c.change-item.result c.loop-change.told.items c.push_change.new.changes.items c.variable_change.result more c.loop-change.invariant c.variable_change.ensures c.in_ok-push_change.ensures
