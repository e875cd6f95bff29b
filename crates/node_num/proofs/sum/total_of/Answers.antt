use Rattle.std.proofs.Common.{◌<◌, ◌^◌, ◌∙◌, ◌+ℤ◌, ℤ, ap, sym, length, get_or, take, rules, arith, pos, w64, subst, List}
use Rattle.std.specs.Prelude.{All, FitsSigned}
use Rattle.std.proofs.lemmas.Int.{to_z-of_z}
use Rattle.std.proofs.lemmas.List.{take_all, length-take}
use Rattle.std.proofs.lemmas.List.Elements.{All-more}
use Rattle.cbl_base.proofs.TotalLemmas.{total-more}
use Rattle.node_num.specs.Few.{AreFew, IsSmall}
use Rattle.node_num.proofs.SmallTotals.{total_small}
use Rattle.node_num.proofs.sum.total_of.Goals as goal

pub plus-sum-requires : goal.plus-sum-requires
plus-sum-requires c =
    let short : length c.args.numbers.now < 2 ^ 62 = search rules in
    let few : AreFew (take c.loop-x.x-index c.args.numbers.now) = record { each = c.loop-x.invariant.each; few = omega (arith, length-take c.loop-x.x-index c.args.numbers.now, short) } in
    subst IsSmall (sym c.loop-x.invariant.total) (total_small _ few)

pub loop-x-preserved : goal.loop-x-preserved
loop-x-preserved c =
    let x = get_or c.args.numbers.now c.loop-x.x-index (pos 0) in
    let fits : FitsSigned w64 x = search rules in
    record {
      total =
          (simp (to_z-of_z w64 x fits) at c.plus-sum.ensures) ∙ ap (λ z. z +ℤ x) c.loop-x.invariant.total
          ∙ sym (total-more c.args.numbers.now c.loop-x.x-index (pos 0) c.loop-x-test.true);
      each = All-more (λ (z : ℤ). FitsSigned w64 z) c.args.numbers.now c.loop-x.x-index (pos 0) c.loop-x-test.true c.loop-x.invariant.each fits;
    }

pub returns-clause-few : goal.returns-clause-few
returns-clause-few c =
    let short : length c.args.numbers.now < 2 ^ 62 = search rules in
    record { each = subst (λ (t : List ℤ). All (λ (z : ℤ). FitsSigned w64 z) t) (take_all c.loop-x.x-index c.args.numbers.now c.loop-x-test.false) c.loop-x.invariant.each; few = short }
