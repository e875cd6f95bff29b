use Rattle.std.proofs.Common.{◌≡◌, ◌*◌, ◌^◌, pos, drop, map}
use Rattle.std.specs.Prelude.{◌≤ℤ◌, neg_ℤ}
use Rattle.store_shares.specs.Parts.{sum_told, told, violation_of}
use Rattle.store_shares.specs.Words.{has}
use Rattle.store_shares.proofs.ReadingLaws.{sum_left}
use Rattle.store_shares.proofs.reading.+share.Given as goal

abbrev pub invariant-loop-part : goal.invariant-loop-part
invariant-loop-part g l = record {
  count : l.count ≡ l.part-index;
  low : neg_ℤ (pos (2 ^ 63 * l.count)) ≤ℤ l.sum;
  high : l.sum ≤ℤ pos (2 ^ 63 * l.count);
  rest : sum_told (map violation_of (map (told (record { number = g.H.Held.number_of l.held; violation = g.H.Held.violation_of l.held }) (has l.words)) l.part-items))
      ≡ sum_left (told (record { number = g.H.Held.number_of l.held; violation = g.H.Held.violation_of l.held }) (has l.words)) l.sum (drop l.part-index l.part-items);
}
