-- There is no value left, or the next one is added.
use Rattle.run_steps.specs.OpenTuples.{pending_seen}
use Rattle.run_values.specs.Views.{value_seen}
use Rattle.search_forms.specs.Tables.{candidates_seen}
use Rattle.search_forms.proofs.LastLaws.{values_open, values_end}
use Rattle.search_forms.proofs.listing.add_values.Goals as goal

pub values-init : goal.values-init
values-init c = record { left = λ s. values_open c.args.at c.args.known.now (pending_seen c.pending_of-pending.result) (value_seen c.args.domain) (candidates_seen c.args.found.now) s c.pending_of-pending.ensures; rows = c.requires.rows }

pub returns-in-None-clause-did : goal.returns-in-None-clause-did
returns-in-None-clause-did c = λ s. values_end c.args.at c.args.known.now (pending_seen c.values.pending) (candidates_seen c.values.found) s (c.values.invariant.left s) (rw c.in-None.is at c.take_value.ensures.next)
