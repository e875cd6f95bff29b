use Rattle.std.proofs.Common.{◌∙◌, ap, sym, pos, w64, rules}
use Rattle.std.specs.Prelude.{FitsSigned, if◌then◌else◌}
use Rattle.std.proofs.lemmas.Int.{to_z-of_z}
use Rattle.diff_global.proofs.CardinalityLaws.{violation_read}
use Rattle.diff_global.proofs.cardinality.CardinalityNumberNode.place_violation.Goals as goal

pub returns-then-counts : goal.returns-then-counts
returns-then-counts c =
    let s = c.args.self.now in
    let v = c.at-value.result in
    let fits : FitsSigned w64 c.at-value.result = search rules in
    ap (λ t. if t then pos 1 else pos 0) (sym c.if-counts.true ∙ c.counts_at-counts.ensures)
    ∙ violation_read s.demand s.low s.bounds s.tally s.totals c.args.place v c.times.result _ _ c.requires.settled.0 c.requires.within c.requires.valued c.at-value.ensures
    (simp (to_z-of_z w64 c.at-value.result fits) at c.times.ensures) (simp (to_z-of_z w64 c.at-value.result fits) at c.is_over-is_over.ensures) c.are_violated-is_violated.ensures

pub returns-else-counts : goal.returns-else-counts
returns-else-counts c =
    let s = c.args.self.now in
    let v = c.at-value.result in
    let fits : FitsSigned w64 c.at-value.result = search rules in
    ap (λ t. if t then pos 1 else pos 0) (sym c.if-counts.false ∙ c.counts_at-counts.ensures)
    ∙ violation_read s.demand s.low s.bounds s.tally s.totals c.args.place v c.times.result _ _ c.requires.settled.0 c.requires.within c.requires.valued c.at-value.ensures
    (simp (to_z-of_z w64 c.at-value.result fits) at c.times.ensures) (simp (to_z-of_z w64 c.at-value.result fits) at c.is_over-is_over.ensures) c.are_violated-is_violated.ensures
