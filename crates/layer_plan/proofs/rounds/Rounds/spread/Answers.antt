use Rattle.std.proofs.Common.{◌≡◌, ◌∙◌, ◌<◌, length, get_or, subst, sym, ap, below_more, arith}
use Rattle.std.proofs.lemmas.List.{get_or_read}
use Rattle.layer_plan.specs.Dependencies.{list_of, DependsOn}
use Rattle.layer_plan.specs.Rounds.{IsReachedFrom, near_of}
use Rattle.layer_plan.proofs.Lists.{place_of}
use Rattle.layer_plan.proofs.SpreadSteps.{Spread-next, keeps_then, reached_still, head_known}
use Rattle.layer_plan.proofs.rounds.Rounds.spread.Goals as goal

pub loop-place-preserved : goal.loop-place-preserved
loop-place-preserved c =
    let uses = c.args.uses.now in
    let s = c.loop-place.self in
    let item = c.index-item.result.now in
    let old = c.loop-place.invariant in
    let longer = old.1.longer in
    let at : get_or s.queue.items c.args.head 0 ≡ item = old.1.places c.args.head c.requires.head ∙ sym (get_or_read c.args.self.now.queue.items c.args.head item c.requires.head c.index-item.ensures 0) in
    let known : near_of s item < length uses = head_known uses (near_of s) s.queue.items c.args.head item old.0.spread (omega arith) at in (
      c.in_ok-reach.ensures.rounds,
      keeps_then uses c.args.self.now s c.reach.new.self old.1 c.in_ok-reach.ensures.kept,
      below_more (λ k. IsReachedFrom (near_of c.reach.new.self) (length uses) item (get_or (list_of uses item) k 0)) c.loop-place.place
          (λ k h. reached_still uses s c.reach.new.self item (get_or (list_of uses item) k 0) c.in_ok-reach.ensures.kept known (old.2 k h))
          (subst (λ y. IsReachedFrom (near_of c.reach.new.self) (length uses) item y) (sym c.entry-user.ensures.value) (subst (λ y. IsReachedFrom (near_of c.reach.new.self) (length uses) y c.entry-user.result) at c.in_ok-reach.ensures.reached)),
    )

pub returns-clause-rounds : goal.returns-clause-rounds
returns-clause-rounds c =
    let uses = c.args.uses.now in
    let s = c.loop-place.self in
    let item = c.index-item.result.now in
    let old = c.loop-place.invariant in
    let longer = old.1.longer in
    let at : get_or s.queue.items c.args.head 0 ≡ item = old.1.places c.args.head c.requires.head ∙ sym (get_or_read c.args.self.now.queue.items c.args.head item c.requires.head c.index-item.ensures 0) in
    let size = ap length c.list_of-place-end.ensures in
    record {
      count = old.0.count;
      room = old.0.room;
      spread = Spread-next uses (near_of s) s.queue.items c.args.head old.0.spread (omega arith)
          (λ v d. (let p = place_of uses item v (subst (λ y. DependsOn uses y v) at d) in let p_in = p.1 in subst (λ y. IsReachedFrom (near_of s) (length uses) y v) (sym at) (subst (λ y. IsReachedFrom (near_of s) (length uses) item y) p.2 (old.2 p.0 (omega arith)))));
    }
