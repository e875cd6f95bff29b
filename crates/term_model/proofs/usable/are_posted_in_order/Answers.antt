use Rattle.std.proofs.Common.{rules, ◌≡◌, ◌∙◌, ◌<◌, ◌≤◌, get_or, length, subst, sym, take}
use Rattle.std.specs.List.{All}
use Rattle.std.proofs.lemmas.Bool.{OnTrue_at}
use Rattle.std.proofs.lemmas.List.{take_all}
use Rattle.std.proofs.lemmas.List.Elements.{All-more}
use Rattle.term_model.specs.Checks.{AreCounts}
use Rattle.term_model.specs.Wellformed.{IsThere}
use Rattle.term_model.specs.declared.model.Posted.{Posted}
use Rattle.term_model.proofs.UsableLaws.{always, posted_more, counted_all}
use Rattle.term_model.proofs.usable.are_posted_in_order.Goals as goal

pub loop-turn-preserved : goal.loop-turn-preserved
loop-turn-preserved c =
    let posted = c.args.model.now.posted.items in
    let p : Posted = c.index.result.now in
    let is : p ≡ get_or posted c.loop-turn.turn p = search rules in
    let lt : c.loop-turn.turn < length posted = search rules in
    let inv = c.loop-turn.invariant in
    let there : IsThere c.args.side (length c.totals_by-totals.result.now) p = subst (λ n. IsThere c.args.side n p) inv.2 (OnTrue_at c.if-not-count_posted.false c.count_posted.ensures.there) in (
      subst (λ ps. AreCounts c.args.side ps c.count_posted.new.counts.items) (sym (posted_more posted c.loop-turn.turn p lt is))
          (OnTrue_at c.if-not-count_posted.false c.count_posted.ensures.counted (take c.loop-turn.turn posted) inv.0),
      All-more (IsThere c.args.side (length c.totals_by-totals.result.now)) posted c.loop-turn.turn p lt inv.1 (subst (IsThere c.args.side (length c.totals_by-totals.result.now)) is there),
      c.count_posted.ensures.length ∙ inv.2,
    )

pub returns-clause-posted : goal.returns-clause-posted
returns-clause-posted c =
    let posted = c.args.model.now.posted.items in
    let le : length posted ≤ c.loop-turn.turn = search rules in
    let are : AreCounts c.args.side posted c.loop-turn.counts.items = subst (λ ps. AreCounts c.args.side ps c.loop-turn.counts.items) (take_all c.loop-turn.turn posted le) c.loop-turn.invariant.0 in
    rw c.totals_by-totals.ensures at (counted_all c.args.side posted c.deref.result.now c.totals_by-totals.result.now c.are_all_counted.result (subst (AreCounts c.args.side posted) (sym c.deref.ensures.value) are) c.are_all_counted.ensures)

pub returns-clause-there : goal.returns-clause-there
returns-clause-there c =
    let posted = c.args.model.now.posted.items in
    let le : length posted ≤ c.loop-turn.turn = search rules in
    let there : All (IsThere c.args.side (length c.totals_by-totals.result.now)) posted = subst (All (IsThere c.args.side (length c.totals_by-totals.result.now))) (take_all c.loop-turn.turn posted le) c.loop-turn.invariant.1 in
    rw c.totals_by-totals.ensures at (always c.are_all_counted.result there)
