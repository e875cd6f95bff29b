use Rattle.std.proofs.lemmas.Bool.{OnTrue_at}
use Rattle.term_model.specs.Checks.{IsRanked}
use Rattle.term_model.proofs.UsableLaws.{below_more, all_ranked}
use Rattle.term_model.proofs.usable.are_ranked.Goals as goal

pub loop-place-preserved : goal.loop-place-preserved
loop-place-preserved c =
    below_more (IsRanked c.args.named.now c.args.ranks.now c.args.count) c.loop-place.place c.loop-place.invariant (OnTrue_at c.if-not-is_ranked.false c.is_ranked.ensures)

pub returns : goal.returns
returns c = all_ranked c.args.named.now c.args.ranks.now c.args.count c.loop-place.place c.loop-place-test.false c.loop-place.invariant
