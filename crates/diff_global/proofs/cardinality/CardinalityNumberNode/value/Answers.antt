use Rattle.std.proofs.Common.{◌∙◌, sym}
use Rattle.diff_global.proofs.CardinalityLaws.{violations_are}
use Rattle.diff_global.proofs.cardinality.CardinalityNumberNode.value.Goals as goal

pub returns : goal.returns
returns c =
    let s = c.args.self.now in
    c.violations.ensures ∙ sym (violations_are s.demand s.low s.bounds s.tally s.totals c.requires.0)
