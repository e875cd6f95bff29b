use Rattle.std.proofs.Common.{refl}
use Rattle.node_set.proofs.KeysWhere.{kept_value}
use Rattle.node_set.proofs.set_of.SetOfNodeRule.value.Goals as goal

pub returns : goal.returns
returns c =
    kept_value c.args.self.now.keys c.args.self.now.numbers.items _ _ _ refl c.requires.0 c.kept.ensures
