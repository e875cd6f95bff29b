use Rattle.std.proofs.Common.{◌≡◌}
use Rattle.diff_load_seq.specs.Levels.{IsKept}
use Rattle.diff_load_seq.specs.Bins.{AllFit, bins_of_first}
use Rattle.diff_load_seq.proofs.bins.filled_bins.Given as goal

abbrev pub invariant-loop-place : goal.invariant-loop-place
invariant-loop-place l = record {
  each : l.bins.each.items ≡ bins_of_first l.place l.sizes l.fn.low l.capacities l.numbers;
  kept : IsKept l.bins;
  fit : AllFit l.place l.sizes;
}
