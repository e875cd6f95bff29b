use Rattle.std.proofs.Common.{◌∙◌, sym, subst, rules, w64}
use Rattle.std.specs.Prelude.{FitsSigned}
use Rattle.std.proofs.lemmas.Int.{to_z-of_z}
use Rattle.node_base.specs.NumberChanges.{AreNumberChanges, after_number_changes}
use Rattle.node_order.proofs.MirrorLemmas.{changes_mirrored, probed_greatest, probed_fault}
use Rattle.node_order.proofs.greatest.GreatestNumberNode.probe.Goals as goal

pub probe-requires-clause-changes : goal.probe-requires-clause-changes
probe-requires-clause-changes c =
    subst (λ t. AreNumberChanges c.args.self.now.lowest.numbers.items t) (sym (c.deref.ensures.value ∙ c.in_ok-changes.ensures))
    (changes_mirrored c.args.self.now.lowest.numbers.items c.args.changes.now c.requires.changes)

pub returns-in-Ok : goal.returns-in-Ok
returns-in-Ok c =
    let fits : FitsSigned w64 c.mirrored.result = search rules in
    let fits_least : FitsSigned w64 c.in-Ok.least = search rules in
    rw (to_z-of_z w64 c.mirrored.result fits)
    (probed_greatest c.args.self.now.lowest.numbers.items c.args.changes.now c.deref.result.now c.in-Ok.least c.mirrored.result (c.deref.ensures.value ∙ c.in_ok-changes.ensures) c.requires.settled.1 c.in-Ok.ensures (simp (to_z-of_z w64 c.in-Ok.least fits_least) at c.mirrored.ensures))

pub returns : goal.returns
returns c = probed_fault (after_number_changes c.args.self.now.lowest.numbers.items c.deref.result.now) _ c.in-Err.fault c.in-Err.ensures
