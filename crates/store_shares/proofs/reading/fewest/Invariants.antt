use Rattle.std.proofs.Common.{◌≡◌, ◌<◌, ℕ, Bool, length, map, take}
use Rattle.std.specs.Prelude.{IfSome}
use Rattle.store_shares.specs.Parts.{fewest_told, told, told_at}
use Rattle.store_shares.proofs.reading.fewest.Given as goal

abbrev pub invariant-loop-at : goal.invariant-loop-at
invariant-loop-at g l = record {
  within : IfSome l.best (λ k. k < length l.parts);
  fewest : (test : ℕ → Bool) → told_at (told (record { number = g.H.Held.number_of l.held; violation = g.H.Held.violation_of l.held }) test) l.parts l.best
      ≡ fewest_told (map (told (record { number = g.H.Held.number_of l.held; violation = g.H.Held.violation_of l.held }) test) (take l.at l.parts));
}
