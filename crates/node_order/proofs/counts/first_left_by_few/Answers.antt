use Rattle.std.proofs.Common.{rules, w64}
use Rattle.std.specs.Prelude.{FitsSigned}
use Rattle.std.specs.Map.Iter.{deref_pair}
use Rattle.std.proofs.lemmas.Int.{to_z-of_z}
use Rattle.std.proofs.lemmas.Map.Iter.{rest_more}
use Rattle.node_order.proofs.LowestLemmas.{walk_found, walk_passed}
use Rattle.node_order.proofs.counts.first_left_by_few.Goals as goal

pub returns-then-times_old-count-clause-first : goal.returns-then-times_old-count-clause-first
returns-then-times_old-count-clause-first c =
    let k = c.in-Some.number.now in
    let fits : FitsSigned w64 k = search rules in
    let at = rest_more deref_pair c.loop-number.number-iterator c.next.new.self c.next.result (c.in-Some.number, c.in-Some.count) c.in-Some.is c.next.ensures.steps in
    rw (to_z-of_z w64 k fits)
    (walk_found c.args.changes.now c.loop-number.number-iterator c.args.counts.now.by_number.entries c.next.new.self k c.in-Some.count.now c.times_old.result at c.loop-number.invariant (simp (to_z-of_z w64 k fits) at c.times_old.ensures) c.if-times_old-count.true)

pub loop-number-preserved : goal.loop-number-preserved
loop-number-preserved c =
    let k = c.in-Some.number.now in
    let fits : FitsSigned w64 k = search rules in
    let at = rest_more deref_pair c.loop-number.number-iterator c.next.new.self c.next.result (c.in-Some.number, c.in-Some.count) c.in-Some.is c.next.ensures.steps in
    walk_passed c.args.changes.now c.loop-number.number-iterator c.args.counts.now.by_number.entries c.next.new.self k c.in-Some.count.now c.times_old.result at c.loop-number.invariant (simp (to_z-of_z w64 k fits) at c.times_old.ensures) c.if-times_old-count.false
