use Rattle.std.proofs.Common.{◌-◌, sym, ap, ◌∙◌, arith}
use Rattle.ls_select.specs.Candidates.{score}
use Rattle.ls_select.specs.declared.scored.Scored.{Scored}
use Rattle.ls_select.proofs.ScanLaws.{going}
use Rattle.par_scan.proofs.Between.{score_most}
use Rattle.par_scan.proofs.Scans.{begins, few, one_more, room, stopped}
use Rattle.par_scan.proofs.stretch.scan_on.Goals as goal

pub returns-then-is_some : goal.returns-then-is_some
returns-then-is_some g c =
    let so_far = c.loop-number.invariant in
    stopped _ _ _ _ _ _ _ so_far.scanned (sym c.is_some.ensures ∙ c.if-is_some.true) so_far.begun so_far.order

pub overflow_sub-fuel : goal.overflow_sub-fuel
overflow_sub-fuel g c = (room _ _ _ _ _ _ c.loop-number.invariant.scanned (going _ (sym c.is_some.ensures ∙ c.if-is_some.false))).0

pub add-requires-clause-numbers : goal.add-requires-clause-numbers
add-requires-clause-numbers g c =
    let so_far = c.loop-number.invariant in
    let count = (few _ _ _ _ _ _ so_far.scanned).0 in
    omega (arith, count, so_far.first, so_far.begun, c.loop-number-test.true, c.requires.many)

pub add-requires-clause-costs : goal.add-requires-clause-costs
add-requires-clause-costs g c =
    let left = (room _ _ _ _ _ _ c.loop-number.invariant.scanned (going _ (sym c.is_some.ensures ∙ c.if-is_some.false))).0 in
    let most = score_most (g.P.Probe.candidate c.args.probe.now c.loop-number.number) (c.args.fuel - c.loop-number.part.cost) in
    let cost = ap (λ (s : Scored). s.cost) {y = score (g.P.Probe.candidate c.args.probe.now c.loop-number.number) (c.args.fuel - c.loop-number.part.cost)} c.in_ok-scored.ensures in
    omega (arith, left, most, cost, c.requires.fuel)

pub loop-number-preserved : goal.loop-number-preserved
loop-number-preserved g c =
    let so_far = c.loop-number.invariant in
    let next = one_more _ _ _ _ _ _ _ _ so_far.scanned so_far.begun c.in_ok-scored.ensures c.in_ok-add.ensures.scanned in
    record {
      begun = omega (arith, so_far.begun);
      order = omega (arith, c.loop-number-test.true);
      first = begins _ _ _ _ _ _ next;
      scanned = next;
    }
