use Rattle.std.proofs.Common.{◌≡◌, ◌<◌, ◌+◌, ◌^◌, ◌∙◌, ℕ, ℤ, [], length, get_or, rules, arith, w64}
use Rattle.std.specs.Prelude.{FitsSigned}
use Rattle.std.proofs.lemmas.Int.{to_z-of_z}
use Rattle.std.proofs.lemmas.List.{length-set}
use Rattle.node_base.proofs.ChangeLemmas.{number_within}
use Rattle.diff_comb.proofs.ProductLemmas.{small_turn, factor_turn, counted_turn, totals_turn}
use Rattle.diff_comb.proofs.weighted_total.WeightedTotalNumberNode.set.Goals as goal

pub replaced-self-requires-clause-small : goal.replaced-self-requires-clause-small
replaced-self-requires-clause-small c =
    let small = c.args.self.now.numbers.small in
    let ok = c.args.self.now.numbers.ok in
    let long = c.requires.settled.1 in
    let short : c.args.self.now.members < 2 ^ 62 = omega (arith, small, ok.0, ok.1, long) in
    (small_turn c.args.self.now.products c.args.self.now.members _ c.requires.settled.0 short).0

pub replaced-self-requires-clause-few : goal.replaced-self-requires-clause-few
replaced-self-requires-clause-few c =
    let small = c.args.self.now.numbers.small in
    let ok = c.args.self.now.numbers.ok in
    let long = c.requires.settled.1 in
    let short : c.args.self.now.members < 2 ^ 62 = omega (arith, small, ok.0, ok.1, long) in
    (small_turn c.args.self.now.products c.args.self.now.members _ c.requires.settled.0 short).1

pub replaced-self-requires-clause-counted : goal.replaced-self-requires-clause-counted
replaced-self-requires-clause-counted c =
    let s = c.args.self.now in
    let xs = s.numbers.items in
    let change = c.args.change in
    let factor = c.index-factor.result.now in
    let within = c.other-other.ensures.within in
    let long = c.requires.settled.1 in
    let inside : c.other-other.result < length xs = omega (arith, within, long) in
    let fits_old : FitsSigned w64 change.old = search rules in
    let fits_factor : FitsSigned w64 factor = search rules in
    let at = factor_turn xs [] c.other-other.result _ factor factor c.other-other.ensures.other inside c.index-factor.ensures Rattle.std.proofs.Common.refl in
    rw (to_z-of_z w64 change.old fits_old, to_z-of_z w64 factor fits_factor)
    (counted_turn s.products s.members xs change factor c.requires.settled.0 long c.requires.change at)

pub index_mut-requires : goal.index_mut-requires
index_mut-requires c =
    let within = number_within c.args.self.now.numbers.items c.args.change c.requires.change in
    omega (arith, within, c.args.self.now.numbers.ok.0)

pub returns-clause-settled : goal.returns-clause-settled
returns-clause-settled c =
    let s = c.args.self.now in
    let xs = s.numbers.items in
    let change = c.args.change in
    let factor = c.index-factor.result.now in
    let within = c.other-other.ensures.within in
    let long = c.requires.settled.1 in
    let inside : c.other-other.result < length xs = omega (arith, within, long) in
    let fits_old : FitsSigned w64 change.old = search rules in
    let fits_new : FitsSigned w64 change.new = search rules in
    let fits_factor : FitsSigned w64 factor = search rules in
    let at = factor_turn xs [] c.other-other.result _ factor factor c.other-other.ensures.other inside c.index-factor.ensures Rattle.std.proofs.Common.refl in
    rw (to_z-of_z w64 change.new fits_new)
    (totals_turn s.products c.replaced-self.result s.members xs change factor c.requires.settled.0 long c.requires.change at (simp (to_z-of_z w64 change.old fits_old, to_z-of_z w64 change.new fits_new, to_z-of_z w64 factor fits_factor) at c.replaced-self.ensures.fitting) (simp (to_z-of_z w64 change.old fits_old, to_z-of_z w64 change.new fits_new, to_z-of_z w64 factor fits_factor) at c.replaced-self.ensures.unfit), length-set xs change.place change.new ∙ long)
