use Rattle.std.proofs.Common.{◌∙◌, subst, sym}
use Rattle.node_base.specs.NumberChanges.{AreNumberChanges}
use Rattle.node_order.proofs.ExtremeLemmas.{changes_kept, probed_keys}
use Rattle.node_order.proofs.arg_extreme.ArgExtremeNodeRule.probe.Goals as goal

pub found-requires-clause-changes : goal.found-requires-clause-changes
found-requires-clause-changes c =
    let s = c.args.self.now in
    let xs = s.least.lowest.numbers.items in
    subst (λ t. AreNumberChanges xs t) (sym (c.deref.ensures.value ∙ c.in_ok-changes.ensures)) (changes_kept s.extreme xs c.args.changes.now c.requires.changes)

pub returns : goal.returns
returns c =
    let s = c.args.self.now in
    probed_keys s.extreme s.least.lowest.numbers.items c.args.changes.now c.requires.changes s.least.keys c.in_ok-keys.keys c.deref.result.now (c.deref.ensures.value ∙ c.in_ok-changes.ensures) c.in_ok-keys.ensures
