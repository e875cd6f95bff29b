use Rattle.std.proofs.Common.{◌≡◌, ◌-◌, ◌*◌, ◌^◌, ◌≤◌, pos, drop, length, map}
use Rattle.std.specs.Prelude.{◌≤ℤ◌, neg_ℤ}
use Rattle.std.specs.List.{range_with_len}
use Rattle.store_shares.specs.Calls.{AreZero, no_tally, tally_all}
use Rattle.store_shares.specs.Parts.{told, violation_of}
use Rattle.store_shares.specs.Words.{has}
use Rattle.store_shares.proofs.calls.total_of.Given as goal

abbrev pub invariant-loop-at : goal.invariant-loop-at
invariant-loop-at g l = record {
  low : l.first ≤ l.at;
  high : l.at ≤ l.end;
  few : neg_ℤ (pos (2 ^ 63 * (l.at - l.first))) ≤ℤ l.tally.sum;
  most : l.tally.sum ≤ℤ pos (2 ^ 63 * (l.at - l.first));
  rest : AreZero (has l.touched) l.first (map violation_of (map (told (record { number = g.H.Held.number_of l.held; violation = g.H.Held.violation_of l.held }) (has l.slots)) l.parts)) →
      tally_all no_tally (map violation_of (map (told (record { number = g.H.Held.number_of l.held; violation = g.H.Held.violation_of l.held }) (has l.slots)) l.parts)) (map (g.H.Held.weight_of l.held l.system) (range_with_len 0 (length l.parts)))
      ≡ tally_all l.tally (drop (l.at - l.first) (map violation_of (map (told (record { number = g.H.Held.number_of l.held; violation = g.H.Held.violation_of l.held }) (has l.slots)) l.parts)))
      (drop (l.at - l.first) (map (g.H.Held.weight_of l.held l.system) (range_with_len 0 (length l.parts))));
}

abbrev pub decreases-loop-at : goal.decreases-loop-at
decreases-loop-at g l = l.end - l.at
