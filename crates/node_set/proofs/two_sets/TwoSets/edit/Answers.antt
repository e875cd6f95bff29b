use Rattle.std.proofs.lemmas.Result.{on_ok_weaker}
use Rattle.node_set.proofs.Combined.{kept-exchanged, kept-exchanged_back}
use Rattle.node_set.proofs.two_sets.TwoSets.edit.Goals as goal

pub edit_one-requires-else-place-eq0 : goal.edit_one-requires-else-place-eq0
edit_one-requires-else-place-eq0 c =
    kept-exchanged c.args.self.now.combining c.exchanged-combining.result c.args.self.now.first c.args.self.now.second _ c.exchanged-combining.ensures c.requires.kept

pub returns-else-place-eq0-clause-kept : goal.returns-else-place-eq0-clause-kept
returns-else-place-eq0-clause-kept c =
    on_ok_weaker c.edit_one-else-place-eq0.result (λ e. kept-exchanged_back c.args.self.now.combining c.exchanged-combining.result c.args.self.now.first c.edit_one-else-place-eq0.new.set _ c.exchanged-combining.ensures e) c.edit_one-else-place-eq0.ensures.kept
