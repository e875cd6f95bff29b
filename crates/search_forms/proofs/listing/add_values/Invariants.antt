-- A candidate for each value that is left.
use Rattle.std.proofs.Common.{◌≡◌, ◌+◌, ◌-◌, length}
use Rattle.comet_meaning.specs.Limits.{most_candidates}
use Rattle.comet_meaning.specs.State.{State}
use Rattle.run_steps.specs.OpenTuples.{pending_seen}
use Rattle.run_values.specs.Views.{value_seen}
use Rattle.search_forms.specs.Fronts.{values_behind}
use Rattle.search_forms.specs.Tables.{AreRows, candidates_seen}
use Rattle.search_forms.proofs.LastLaws.{values_left}
use Rattle.search_forms.proofs.listing.add_values.Given as goal

-- what is added for the values that are left is what was to be added at the start
abbrev pub invariant-values : goal.invariant-values
invariant-values l = record {
  left : (s : State) → values_left l.at l.known (pending_seen l.pending) (candidates_seen l.found) s ≡ values_behind l.at l.known (value_seen l.fn.domain) (candidates_seen l.fn.found) s;
  rows : AreRows l.found (length l.known + 1);
}

-- each value fills a place
abbrev pub decreases-values : goal.decreases-values
decreases-values l = most_candidates - l.found.count
