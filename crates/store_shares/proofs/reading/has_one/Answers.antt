use Rattle.std.proofs.Common.{arith, sym}
use Rattle.store_shares.specs.Words.{has}
use Rattle.store_shares.proofs.ReadingLaws.{none_empty, none_found, one_found}
use Rattle.store_shares.proofs.reading.has_one.Goals as goal

pub returns-then-end-first : goal.returns-then-end-first
returns-then-end-first c = sym (none_empty (has c.args.words.now) c.args.first c.args.end (omega arith))

pub returns-then-at-end : goal.returns-then-at-end
returns-then-at-end c = sym (one_found (has c.args.words.now) c.args.first c.args.end c.next-at.result c.next-at.ensures (omega arith))

pub returns : goal.returns
returns c = sym (none_found (has c.args.words.now) c.args.first c.args.end c.next-at.result c.next-at.ensures (omega arith))
