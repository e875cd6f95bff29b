use Rattle.std.proofs.Common.{◌≡◌, ◌∙◌, arith, pos, ◌-ℤ◌, ◌<ℤ◌, ◌≤ℤ◌}
use Rattle.std.proofs.lemmas.Int.{ints}
use Rattle.cbl_violations.proofs.WideNumbers.{read_is, difference_fits, difference_is, no_entry, entry_is}
use Rattle.cbl_violations.proofs.counting.bound_of.Goals as goal

pub overflow_sub-index : goal.overflow_sub-index
overflow_sub-index c =
    let v = c.ranges.value in
    let l = c.ranges.low in
    rw (read_is c.from.result _ v c.from.ensures, read_is c.from-2.result _ l c.from-2.ensures) (difference_fits _ _ v l)

pub returns-then-index-lt0 : goal.returns-then-index-lt0
returns-then-index-lt0 c =
    let v = c.ranges.value in
    let l = c.ranges.low in
    let z = c.args.value -ℤ c.args.low in
    let below = rw (read_is c.from.result _ v c.from.ensures, read_is c.from-2.result _ l c.from-2.ensures, difference_is _ _ v l) at c.if-index-lt0.true in
    let low : z <ℤ pos 0 = omega (arith, ints, below) in
    no_entry z c.args.bounds.now low

pub returns : goal.returns
returns c =
    let v = c.ranges.value in
    let l = c.ranges.low in
    let z = c.args.value -ℤ c.args.low in
    let at = rw (read_is c.from.result _ v c.from.ensures, read_is c.from-2.result _ l c.from-2.ensures, difference_is _ _ v l) at c.entry.ensures in
    let high = rw (read_is c.from.result _ v c.from.ensures, read_is c.from-2.result _ l c.from-2.ensures, difference_is _ _ v l) at c.if-index-lt0.false in
    let not_below : pos 0 ≤ℤ z = omega (arith, ints, high) in
    at ∙ entry_is z c.args.bounds.now not_below
