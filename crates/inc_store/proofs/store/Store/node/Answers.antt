use Rattle.std.proofs.Common.{◌≡◌, ◌-◌, ◌<◌, [], length, map, sym, ◌∙◌, arith}
use Rattle.std.proofs.lemmas.List.{length-map}
use Rattle.inc_store.proofs.NodeLists.{here, mapped_get, get_at, holds_values}
use Rattle.inc_store.proofs.store.Store.node.Goals as goal

pub returns-clause-rule : goal.returns-clause-rule
returns-clause-rule g c =
    let s = c.args.self.now in
    let many = c.requires.usable.2.framed.first in
    let same : length (map g.N.NodeRule.rule s.nodes.items) ≡ length s.nodes.items = length-map s.nodes.items g.N.NodeRule.rule in
    let low : c.args.node.0 - s.frame.first < length s.nodes.items = omega (arith, many, same, c.requires.within, c.requires.past) in
    mapped_get g.N.NodeRule.rule s.nodes.items (c.args.node.0 - s.frame.first) c.index.result.now (here s.nodes.items (c.args.node.0 - s.frame.first) c.index.result.now low c.index.ensures)

pub returns-clause-held : goal.returns-clause-held
returns-clause-held g c =
    let s = c.args.self.now in
    let many = c.requires.usable.2.framed.first in
    let same : length (map g.N.NodeRule.rule s.nodes.items) ≡ length s.nodes.items = length-map s.nodes.items g.N.NodeRule.rule in
    let low : c.args.node.0 - s.frame.first < length s.nodes.items = omega (arith, many, same, c.requires.within, c.requires.past) in
    sym (get_at (map g.N.NodeRule.held s.nodes.items) (c.args.node.0 - s.frame.first) (g.N.NodeRule.held c.index.result.now) [] (mapped_get g.N.NodeRule.held s.nodes.items (c.args.node.0 - s.frame.first) c.index.result.now (here s.nodes.items (c.args.node.0 - s.frame.first) c.index.result.now low c.index.ensures)))
    ∙ holds_values (map g.N.NodeRule.rule s.nodes.items) (map g.N.NodeRule.held s.nodes.items) s.frame s.cells c.requires.usable.2 c.args.node.0 c.requires.within c.requires.past
