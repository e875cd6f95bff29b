use Rattle.std.proofs.Common.{◌≡◌, ◌+ℤ◌, ◌+◌, ◌∙◌, sym, ap, w64, rules}
use Rattle.std.specs.Prelude.{FitsSigned, Some, None}
use Rattle.std.proofs.lemmas.Int.{to_z-of_z}
use Rattle.cbl_violations.specs.Bounds.{bound_of}
use Rattle.diff_global.specs.Differences.{differs_by, part, misfit}
use Rattle.diff_global.proofs.TotalsShift.{totals_unbounded, totals_bounded}
use Rattle.diff_global.proofs.cardinality.Cardinality.shifted.Goals as goal

pub returns-in-Some : goal.returns-in-Some
returns-in-Some c xs ys shifted are =
    let s = c.args.self.now in
    let fits : FitsSigned w64 c.in-Some.bound = search rules in
    let bound : bound_of s.low s.bounds c.args.value ≡ Some c.in-Some.bound = sym (simp (to_z-of_z w64 c.args.value c.ranges.value) at c.bound_of.ensures) ∙ c.in-Some.is in
    let out = simp (to_z-of_z w64 c.in-Some.bound fits) at c.without.ensures.sum in
    let out_misfits = simp (to_z-of_z w64 c.in-Some.bound fits) at c.without.ensures.misfits in
    totals_bounded s.demand s.low s.bounds xs ys c.args.value c.args.before c.args.after shifted c.args.totals c.with.result c.in-Some.bound bound are
    ((simp (to_z-of_z w64 c.in-Some.bound fits) at c.with.ensures.sum) ∙ ap (λ z. z +ℤ part s.demand (differs_by s.demand c.args.after c.in-Some.bound)) out)
    ((simp (to_z-of_z w64 c.in-Some.bound fits) at c.with.ensures.misfits) ∙ ap (λ m. m + misfit (differs_by s.demand c.args.after c.in-Some.bound)) out_misfits)

pub returns-in-None : goal.returns-in-None
returns-in-None c xs ys shifted are =
    let s = c.args.self.now in
    let none : bound_of s.low s.bounds c.args.value ≡ None = sym (simp (to_z-of_z w64 c.args.value c.ranges.value) at c.bound_of.ensures) ∙ c.in-None.is in
    totals_unbounded s.demand s.low s.bounds xs ys c.args.value c.args.before c.args.after shifted c.args.totals none are
