use Rattle.std.proofs.Common.{◌≡◌, ◌∙◌, ◌-◌, Some, arith, rules, ap, sym}
use Rattle.std.proofs.lemmas.Int.{to_z-of_z}
use Rattle.cbl_operations.specs.Operations.Greatest.{greatest_of}
use Rattle.store_shares.specs.Parts.{greater_told}
use Rattle.store_shares.specs.Words.{has}
use Rattle.store_shares.proofs.ReadingLaws.{greatest_after, greatest_empty, greatest_end, greatest_start, greatest_step, violations_from}
use Rattle.store_shares.proofs.reading.greatest.Goals as goal
use mir.Syntax.{w64}
use mir.Val.{SFits, of_z, to_z}

pub loop-at-init : goal.loop-at-init
loop-at-init g c =
    let next = c.next-at.ensures in
    record {
      low = next.above;
      high = next.within;
      found = next.some;
      rest = greatest_start (g.H.Held.violation_of c.args.held.now c.args.id) (has c.args.words.now) c.args.first c.args.end c.next-at.result next;
    }

pub loop-at-preserved : goal.loop-at-preserved
loop-at-preserved g c =
    let before = c.loop-at.invariant in
    let next = c.next-at-in-loop-at.ensures in
    let le = before.low in
    let above = next.above in
    let one : SFits w64 c.violation.result = search rules in
    let most : SFits w64 c.greater.result = search rules in
    let is : to_z w64 (of_z w64 c.greater.result) ≡ greater_told c.loop-at.most (g.H.Held.violation_of c.args.held.now c.args.id (c.loop-at.at - c.args.first)) =
    to_z-of_z w64 c.greater.result most ∙ c.greater.ensures ∙ ap (greater_told c.loop-at.most) (to_z-of_z w64 c.violation.result one ∙ c.violation.ensures) in
    record {
      low = omega (arith, le, above);
      high = next.within;
      found = next.some;
      rest = greatest_step (g.H.Held.violation_of c.args.held.now c.args.id) (has c.args.words.now) c.args.first c.args.end c.loop-at.at c.next-at-in-loop-at.result c.loop-at.most
          (greatest_of (violations_from (g.H.Held.violation_of c.args.held.now c.args.id) (has c.args.words.now) c.args.first c.args.first c.args.end))
          c.loop-at-test.true (before.found c.loop-at-test.true) next before.rest
          ∙ ap (λ m. greatest_after (Some m) (violations_from (g.H.Held.violation_of c.args.held.now c.args.id) (has c.args.words.now) c.args.first c.next-at-in-loop-at.result c.args.end)) (sym is);
    }

pub returns-then-end-first : goal.returns-then-end-first
returns-then-end-first g c = greatest_empty (g.H.Held.violation_of c.args.held.now c.args.id) (has c.args.words.now) c.args.first c.args.end c.if-end-first.true

pub returns : goal.returns
returns g c =
    let fits : SFits w64 c.unwrap_or.result = search rules in
    to_z-of_z w64 c.unwrap_or.result fits ∙ c.unwrap_or.ensures
    ∙ greatest_end (g.H.Held.violation_of c.args.held.now c.args.id) (has c.args.words.now) c.args.first c.args.end c.loop-at.at c.loop-at.most
    (greatest_of (violations_from (g.H.Held.violation_of c.args.held.now c.args.id) (has c.args.words.now) c.args.first c.args.first c.args.end)) c.loop-at-test.false c.loop-at.invariant.rest
