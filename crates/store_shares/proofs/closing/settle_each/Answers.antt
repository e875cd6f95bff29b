use Rattle.layer_plan.specs.Dependencies.{list_of}
use Rattle.store_shares.proofs.SettledLaws.{kept_both, settled_more}
use Rattle.store_shares.proofs.closing.settle_each.Goals as goal

pub loop-variable-preserved : goal.loop-variable-preserved
loop-variable-preserved c =
    let before = c.loop-variable.invariant in
    let more = c.in_ok-settle.ensures in
    let old = c.args.sets.now.items in
    let mid = c.loop-variable.sets.items in
    let new = c.settle.new.sets.items in
    record {
      count = more.count;
      rising = more.rising;
      right = λ all closes right. more.right all closes (before.right all closes right);
      kept = kept_both old mid new before.kept more.kept;
      settled = settled_more (list_of c.args.users.now) old mid new c.loop-variable.variable before.kept before.settled more.kept more.settled;
    }
