use Rattle.node_order.proofs.ExtremeLemmas.{kept_keys}
use Rattle.node_order.proofs.arg_extreme.ArgExtremeNodeRule.value.Goals as goal

pub returns : goal.returns
returns c = kept_keys c.args.self.now.extreme c.args.self.now.least.keys c.args.self.now.least.lowest.numbers.items c.args.self.now.kept c.requires.3
