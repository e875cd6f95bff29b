use Rattle.std.proofs.Common.{rules}
use Rattle.store_shares.proofs.WordLaws.{none_left, lowest_is}
use Rattle.store_shares.proofs.words.lowest.Goals as goal

pub returns-then-rest-eq0 : goal.returns-then-rest-eq0
returns-then-rest-eq0 c = none_left c.args.bits c.args.from (search rules)

pub returns : goal.returns
returns c = lowest_is c.args.bits c.args.from (search rules) (search rules) (search rules)
