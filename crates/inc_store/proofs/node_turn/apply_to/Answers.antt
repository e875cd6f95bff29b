use Rattle.std.proofs.Common.{◌≡◌, ◌<◌, List, [], length, map, set, slice_index_or, sym, ap, ◌∙◌, arith}
use Rattle.std.proofs.lemmas.List.{map-set, get_or-set_same}
use Rattle.cbl_base.specs.NodeLaw.{Rule}
use Rattle.cbl_base.specs.Changes.{after_changes}
use Rattle.cbl_base.specs.declared.input.Input.{Input}
use Rattle.store_turns.specs.Meaning.{rule_value, outcome_of}
use Rattle.inc_store.proofs.NodeLists.{here, mapped_get, get_at, set_back}
use Rattle.inc_store.proofs.node_turn.apply_to.Goals as goal

pub returns-clause-rules : goal.returns-clause-rules
returns-clause-rules g c =
    let xs = c.args.nodes.now.items in
    let n = c.index_mut.result.now in
    let lt : c.args.at < length xs = omega (arith, c.args.nodes.now.ok.0, c.requires.within) in
    let at = here xs c.args.at n lt c.index_mut.ensures.value in
    map-set g.N.NodeRule.rule xs c.args.at c.apply.new.self ∙ ap (λ (r : Rule). set (map g.N.NodeRule.rule xs) c.args.at r) c.apply.ensures.rule ∙ set_back (map g.N.NodeRule.rule xs) c.args.at (g.N.NodeRule.rule n) (mapped_get g.N.NodeRule.rule xs c.args.at n at)

pub returns-clause-held : goal.returns-clause-held
returns-clause-held g c =
    let xs = c.args.nodes.now.items in
    let n = c.index_mut.result.now in
    let lt : c.args.at < length xs = omega (arith, c.args.nodes.now.ok.0, c.requires.within) in
    let at = here xs c.args.at n lt c.index_mut.ensures.value in
    map-set g.N.NodeRule.held xs c.args.at c.apply.new.self
    ∙ ap (λ (h : List Input). set (map g.N.NodeRule.held xs) c.args.at h)
    (c.in_ok-apply.ensures.held ∙ ap (λ (h : List Input). after_changes h c.args.changes.now) (sym (get_at (map g.N.NodeRule.held xs) c.args.at (g.N.NodeRule.held n) [] (mapped_get g.N.NodeRule.held xs c.args.at n at))))

pub returns-clause-value : goal.returns-clause-value
returns-clause-value g c =
    let xs = c.args.nodes.now.items in
    let n = c.index_mut.result.now in
    let m = c.apply.new.self in
    let lt : c.args.at < length xs = omega (arith, c.args.nodes.now.ok.0, c.requires.within) in
    let at = here xs c.args.at n lt c.index_mut.ensures.value in
    let is : c.index.result.now ≡ m = c.index.ensures ∙ get_or-set_same xs c.args.at m c.index.result.now lt in
    let h : g.N.NodeRule.held c.index.result.now ≡ after_changes (slice_index_or (map g.N.NodeRule.held xs) c.args.at []) c.args.changes.now =
    ap g.N.NodeRule.held is ∙ c.in_ok-apply.ensures.held ∙ ap (λ (k : List Input). after_changes k c.args.changes.now) (sym (get_at (map g.N.NodeRule.held xs) c.args.at (g.N.NodeRule.held n) [] (mapped_get g.N.NodeRule.held xs c.args.at n at))) in
    let r : g.N.NodeRule.rule c.index.result.now ≡ g.N.NodeRule.rule n = ap g.N.NodeRule.rule is ∙ c.apply.ensures.rule in
    c.in_ok-value.ensures
    ∙ ap (λ (q : Rule). outcome_of (q.value (g.N.NodeRule.held c.index.result.now))) r
    ∙ ap (λ (k : List Input). outcome_of ((g.N.NodeRule.rule n).value k)) h
    ∙ sym (ap (λ q. outcome_of (rule_value q (after_changes (slice_index_or (map g.N.NodeRule.held xs) c.args.at []) c.args.changes.now))) (mapped_get g.N.NodeRule.rule xs c.args.at n at))

pub returns-in_err-apply-clause-steps : goal.returns-in_err-apply-clause-steps
returns-in_err-apply-clause-steps g c = omega (arith, c.tick_each.ensures)
