use Rattle.std.proofs.Common.{◌∙◌, length-set, arith}
use Rattle.node_base.proofs.ChangeLemmas.{few_more}
use Rattle.node_base.proofs.over_numbers.few_changes.Goals as goal

pub loop-index-preserved : goal.loop-index-preserved
loop-index-preserved c =
    let h = c.loop-index.invariant in
    let many = h.many in
    let few = c.requires.few in
    let below = c.loop-index-test.true in
    record {
      many = length-set c.loop-index.few c.loop-index.index c.number_change.result ∙ h.many;
      read = few_more c.loop-index.few c.args.changes.now c.loop-index.index c.index-changes-index.result c.number_change.result (omega (arith, many, few, below)) below c.index-changes-index.is c.number_change.ensures h.read;
    }
