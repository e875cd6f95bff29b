use Rattle.std.proofs.Common.{◌∙◌, sym, w64}
use Rattle.std.proofs.lemmas.Int.{to_z-of_z}
use Rattle.node_set.proofs.BagLemmas.{bag_unchanged, changed_less, changed_more}
use Rattle.node_set.proofs.key_bag.KeyBag.change.Goals as goal

pub take-requires : goal.take-requires
take-requires c = rw (to_z-of_z w64 c.args.key c.ranges.key) (c.requires.stood c.in-true-false.is-0)

pub returns-in-true-true : goal.returns-in-true-true
returns-in-true-true c xs ys = bag_unchanged c.args.self.now c.args.key c.args.was c.args.is xs ys (c.in-true-true.is-0 ∙ sym c.in-true-true.is-1)

pub returns-in-false-false : goal.returns-in-false-false
returns-in-false-false c xs ys = bag_unchanged c.args.self.now c.args.key c.args.was c.args.is xs ys (c.in-false-false.is-0 ∙ sym c.in-false-false.is-1)

pub returns-in-true-false : goal.returns-in-true-false
returns-in-true-false c =
    changed_less c.take.result c.args.self.now c.take.new.self c.args.key c.args.was c.args.is c.in-true-false.is-0 c.in-true-false.is-1 (simp (to_z-of_z w64 c.args.key c.ranges.key) at c.take.ensures.counts) (simp (to_z-of_z w64 c.args.key c.ranges.key) at c.take.ensures.kept)

pub returns-in-false-true : goal.returns-in-false-true
returns-in-false-true c =
    changed_more c.add.result c.args.self.now c.add.new.self c.args.key c.args.was c.args.is c.in-false-true.is-0 c.in-false-true.is-1 (simp (to_z-of_z w64 c.args.key c.ranges.key) at c.add.ensures.counts) (simp (to_z-of_z w64 c.args.key c.ranges.key) at c.add.ensures.kept)
