use Rattle.std.proofs.Common.{◌∙◌, rules, w64}
use Rattle.std.specs.Prelude.{FitsSigned}
use Rattle.std.specs.Map.Iter.{deref_pair}
use Rattle.std.proofs.lemmas.Int.{to_z-of_z}
use Rattle.std.proofs.lemmas.Map.Iter.{rest_more}
use Rattle.node_order.proofs.LowestLemmas.{walk_found, walk_passed}
use Rattle.node_order.proofs.counts.first_left_by_many.Goals as goal

pub returns-then-times-count-clause-first : goal.returns-then-times-count-clause-first
returns-then-times-count-clause-first c changes are =
    let k = c.in-Some.number.now in
    let fits : FitsSigned w64 k = search rules in
    let at = rest_more deref_pair c.loop-number.number-iterator c.next.new.self c.next.result (c.in-Some.number, c.in-Some.count) c.in-Some.is c.next.ensures.steps in
    rw (to_z-of_z w64 k fits)
    (walk_found changes c.loop-number.number-iterator c.args.counts.now.by_number.entries c.next.new.self k c.in-Some.count.now c.times.result at (c.loop-number.invariant changes are) ((simp (to_z-of_z w64 k fits) at c.times.ensures) ∙ are k) c.if-times-count.true)

pub loop-number-preserved : goal.loop-number-preserved
loop-number-preserved c changes are =
    let k = c.in-Some.number.now in
    let fits : FitsSigned w64 k = search rules in
    let at = rest_more deref_pair c.loop-number.number-iterator c.next.new.self c.next.result (c.in-Some.number, c.in-Some.count) c.in-Some.is c.next.ensures.steps in
    walk_passed changes c.loop-number.number-iterator c.args.counts.now.by_number.entries c.next.new.self k c.in-Some.count.now c.times.result at (c.loop-number.invariant changes are) ((simp (to_z-of_z w64 k fits) at c.times.ensures) ∙ are k) c.if-times-count.false
