use Rattle.std.proofs.Common.{◌≡◌, ◌<◌, ℕ, true, length, arith, sym, subst}
use Rattle.layer_plan.specs.Dependencies.{list_of}
use Rattle.store_shares.specs.Settled.{is_known}
use Rattle.store_shares.proofs.SettledLaws.{right_none, round_more, sets_of_right}
use Rattle.store_shares.proofs.closing.closed.Goals as goal

pub loop-round-init : goal.loop-round-init
loop-round-init c =
    let more = c.in_ok-settle_in_order.ensures in
    record {
      count = more.count;
      rising = more.rising;
      right = λ all closes. more.right all closes (right_none all c.in_ok-sets.sets.items c.in_ok-sets.ensures.none);
      below = λ ranked x lt low. absurd (omega (arith, low));
    }

pub loop-round-preserved : goal.loop-round-preserved
loop-round-preserved c =
    let before = c.loop-round.invariant in
    let more = c.in_ok-settle_each.ensures in
    record {
      count = more.count;
      rising = more.rising;
      right = λ all closes. more.right all closes (before.right all closes);
      below = λ ranked. round_more (list_of c.args.users.now) (length c.args.own.now) ranked c.loop-round._round c.loop-round.sets.items c.settle_each.new.sets.items (before.below ranked) more.settled;
    }

pub returns-then-are_all_known : goal.returns-then-are_all_known
returns-then-are_all_known c all closes =
    let before = c.loop-round.invariant in
    sets_of_right all (length c.args.own.now) c.loop-round.sets.items (before.right all closes) before.rising
    (λ x lt.
    let known = subst (λ ss. (y : ℕ) → y < length ss → is_known ss y ≡ true) c.deref.ensures.value (c.are_all_known.ensures c.if-are_all_known.true) in
    known x (subst (λ n. x < n) (sym before.count) lt))

pub returns : goal.returns
returns c all closes =
    let before = c.loop-round.invariant in
    sets_of_right all (length c.args.own.now) c.loop-round.sets.items (before.right all closes) before.rising
    (λ x lt. let ranks = c.requires.ranked.within x lt in before.below c.requires.ranked x lt (omega (arith, ranks)))
