use Rattle.std.proofs.Common.{◌∙◌, map, ap}
use Rattle.std.proofs.lemmas.List.{take_all}
use Rattle.store_shares.specs.Parts.{Reading, fewest_told, told, told_at}
use Rattle.store_shares.proofs.ReadingLaws.{fewest_more, there_is}
use Rattle.store_shares.proofs.reading.fewest.Goals as goal

pub loop-at-preserved : goal.loop-at-preserved
loop-at-preserved g c =
    let reading : Reading = record { number = g.H.Held.number_of c.args.held.now; violation = g.H.Held.violation_of c.args.held.now } in
    let one = there_is c.args.parts.now c.loop-at.at c.loop-at-test.true in
    record {
      within = c.fewer-best.ensures.within;
      fewest = λ test.
          fewest_more (told reading test) c.args.parts.now c.loop-at.at one.0 (told_at (told reading test) c.args.parts.now c.loop-at.best) (told_at (told reading test) c.args.parts.now c.fewer-best.result)
          c.loop-at-test.true one.1 (c.loop-at.invariant.fewest test) (c.fewer-best.ensures.fewer test one.0 one.1);
    }

pub returns-clause-fewest : goal.returns-clause-fewest
returns-clause-fewest g c test =
    let reading : Reading = record { number = g.H.Held.number_of c.args.held.now; violation = g.H.Held.violation_of c.args.held.now } in
    c.loop-at.invariant.fewest test ∙ ap (λ ps. fewest_told (map (told reading test) ps)) (take_all c.loop-at.at c.args.parts.now c.loop-at-test.false)
