use Rattle.std.proofs.Common.{ap, ◌∙◌, sym, length, ◌<◌, arith}
use Rattle.std.proofs.lemmas.Result.{on_ok_weaker}
use Rattle.cbl_base.specs.Changes.{after_changes}
use Rattle.cbl_base.proofs.PlaceLemmas.{written_here, read_here, others_stay}
use Rattle.base_tests.proofs.base.Nodes.apply_at.Goals as goal

pub returns-clause-held : goal.returns-clause-held
returns-clause-held g c =
    let xs = c.args.self.now.nodes.items in
    let ok = c.args.self.now.nodes.ok in
    let lt : c.args.at < length xs = omega (arith, ok.0, c.requires.within) in
    on_ok_weaker c.apply.result (λ e n is m is'. ap g.N.NodeRule.held (written_here xs c.args.at c.apply.new.self m lt is') ∙ e ∙ ap (λ z. after_changes (g.N.NodeRule.held z) c.args.changes.now) (sym (read_here xs c.args.at c.index_mut.result.now n c.index_mut.ensures.value is))) c.apply.ensures.held

pub returns-clause-rule : goal.returns-clause-rule
returns-clause-rule g c n is m is' =
    let xs = c.args.self.now.nodes.items in
    let ok = c.args.self.now.nodes.ok in
    let lt : c.args.at < length xs = omega (arith, ok.0, c.requires.within) in
    ap g.N.NodeRule.rule (written_here xs c.args.at c.apply.new.self m lt is') ∙ c.apply.ensures.rule ∙ ap g.N.NodeRule.rule (sym (read_here xs c.args.at c.index_mut.result.now n c.index_mut.ensures.value is))

pub returns-clause-others : goal.returns-clause-others
returns-clause-others g c k ne = others_stay c.args.self.now.nodes.items c.args.at k c.apply.new.self ne
