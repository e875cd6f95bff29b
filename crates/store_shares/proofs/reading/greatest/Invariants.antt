use Rattle.std.proofs.Common.{◌≡◌, ◌-◌, ◌<◌, ◌≤◌, true}
use Rattle.cbl_operations.specs.Operations.Greatest.{greatest_of}
use Rattle.store_shares.specs.Words.{has}
use Rattle.store_shares.proofs.ReadingLaws.{greatest_after, violations_from}
use Rattle.store_shares.proofs.reading.greatest.Given as goal

abbrev pub invariant-loop-at : goal.invariant-loop-at
invariant-loop-at g l = record {
  low : l.first ≤ l.at;
  high : l.at ≤ l.end;
  found : l.at < l.end → has l.words l.at ≡ true;
  rest : greatest_of (violations_from (g.H.Held.violation_of l.held l.id) (has l.words) l.first l.first l.end) ≡ greatest_after l.most (violations_from (g.H.Held.violation_of l.held l.id) (has l.words) l.first l.at l.end);
}

abbrev pub decreases-loop-at : goal.decreases-loop-at
decreases-loop-at g l = l.end - l.at
