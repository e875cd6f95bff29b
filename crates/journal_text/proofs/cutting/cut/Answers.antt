use Rattle.std.proofs.Common.{◌≤◌, length, arith}
use Rattle.journal_text.proofs.Cuts.{cut_start, cut_more, cut_found, cut_none}
use Rattle.journal_text.proofs.cutting.cut.Goals as goal

pub loop-place-init : goal.loop-place-init
loop-place-init c = cut_start c.args.at c.args.bytes.now

pub returns-then-byte-at : goal.returns-then-byte-at
returns-then-byte-at c = cut_found c.args.at c.args.bytes.now c.loop-place.place c.loop-place-test.true c.if-byte-at.true c.loop-place.invariant

pub loop-place-preserved : goal.loop-place-preserved
loop-place-preserved c = cut_more c.args.at c.args.bytes.now c.loop-place.place c.loop-place-test.true c.if-byte-at.false c.loop-place.invariant

pub returns : goal.returns
returns c = let past : length c.args.bytes.now ≤ c.loop-place.place = omega (arith, c.loop-place-test.false) in cut_none c.args.at c.args.bytes.now c.loop-place.place past c.loop-place.invariant
