use Rattle.std.proofs.Common.{◌<◌, ◌^◌, arith, length, w64, rules}
use Rattle.std.specs.Prelude.{FitsSigned}
use Rattle.std.specs.List.{remove}
use Rattle.std.proofs.lemmas.Int.{to_z-of_z}
use Rattle.std.proofs.lemmas.List.Edits.{length-remove}
use Rattle.node_base.proofs.ChangeLemmas.{number_within}
use Rattle.diff_global.specs.CardinalityTotals.{AreTotals}
use Rattle.diff_global.proofs.TotalsShift.{shifted_out, shifted_in, few_elsewhere, totals_roomy}
use Rattle.diff_global.proofs.cardinality.Cardinality.changed.Goals as goal

pub shifted-without-requires-clause-room : goal.shifted-without-requires-clause-room
shifted-without-requires-clause-room c =
    let s = c.args.self.now in
    let l = c.requires.list in
    totals_roomy s.demand s.low s.bounds l.0 c.args.totals l.3 c.requires.bounds l.4

pub overflow_add-elsewhere-2 : goal.overflow_add-elsewhere-2
overflow_add-elsewhere-2 c =
    let l = c.requires.list in
    record { fits = omega (arith, (few_elsewhere l.0 c.args.change c.args.elsewhere l.1 l.2).1, l.4) }

pub shifted-requires-clause-before : goal.shifted-requires-clause-before
shifted-requires-clause-before c =
    let l = c.requires.list in
    omega (arith, (few_elsewhere l.0 c.args.change c.args.elsewhere l.1 l.2).1, l.4)

pub shifted-requires-clause-after : goal.shifted-requires-clause-after
shifted-requires-clause-after c =
    let l = c.requires.list in
    omega (arith, (few_elsewhere l.0 c.args.change c.args.elsewhere l.1 l.2).1, l.4)

pub shifted-requires-clause-room : goal.shifted-requires-clause-room
shifted-requires-clause-room c =
    let s = c.args.self.now in
    let l = c.requires.list in
    let fits : FitsSigned w64 c.args.change.old = search rules in
    let without : AreTotals s.demand s.low s.bounds (remove l.0 c.args.change.place) c.shifted-without.result
    = (simp (to_z-of_z w64 c.args.change.old fits) at c.shifted-without.ensures) l.0 (remove l.0 c.args.change.place) (shifted_out l.0 c.args.change c.args.elsewhere l.1 l.2) l.3 in
    let short : length (remove l.0 c.args.change.place) < 2 ^ 61 = omega (arith, length-remove l.0 c.args.change.place (number_within l.0 c.args.change l.1), l.4) in
    totals_roomy s.demand s.low s.bounds (remove l.0 c.args.change.place) c.shifted-without.result without c.requires.bounds short

pub returns : goal.returns
returns c xs h is are =
    let old : FitsSigned w64 c.args.change.old = search rules in
    let new : FitsSigned w64 c.args.change.new = search rules in
    (simp (to_z-of_z w64 c.args.change.new new) at c.shifted.ensures) (remove xs c.args.change.place) _ (shifted_in xs c.args.change c.args.elsewhere h is)
    ((simp (to_z-of_z w64 c.args.change.old old) at c.shifted-without.ensures) xs (remove xs c.args.change.place) (shifted_out xs c.args.change c.args.elsewhere h is) are)
