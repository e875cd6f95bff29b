use Rattle.std.proofs.Common.{w64}
use Rattle.std.proofs.lemmas.Int.{to_z-of_z}
use Rattle.node_set.proofs.BagLemmas.{kept_without}
use Rattle.node_set.proofs.key_bag.KeyBag.take.Goals as goal

pub returns-else-times-eq1-clause-kept : goal.returns-else-times-eq1-clause-kept
returns-else-times-eq1-clause-kept c =
    kept_without _ _ c.args.key _ _ (simp (to_z-of_z w64 c.args.key c.ranges.key) at c.times-times.ensures) c.if-times-eq1.false
