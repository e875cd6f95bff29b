use Rattle.std.proofs.Common.{arith}
use Rattle.store_shares.proofs.WordLaws.{next_is, none_beyond, none_in, none_past}
use Rattle.store_shares.proofs.words.next_in.Goals as goal

pub returns-then-limit-word : goal.returns-then-limit-word
returns-then-limit-word c = none_beyond c.args.word c.args.from c.args.limit c.if-limit-word.true

pub returns-in_default : goal.returns-in_default
returns-in_default c = none_in c.args.word c.args.from c.args.limit c.start_of.result c.requires c.start_of.ensures.inside c.start_of.ensures.outside c.in_default.ensures

pub returns-then-limit-number : goal.returns-then-limit-number
returns-then-limit-number c =
    none_past c.args.word c.args.from c.args.limit c.start_of.result c.requires c.start_of.ensures.inside c.start_of.ensures.outside c.in-Some.bit c.in-Some.ensures c.if-limit-number.true

pub returns : goal.returns
returns c =
    next_is c.args.word c.args.from c.args.limit c.start_of.result c.requires c.start_of.ensures.inside c.start_of.ensures.outside c.in-Some.bit c.in-Some.ensures (omega arith)
