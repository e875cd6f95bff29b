use Rattle.std.proofs.Common.{ℕ, List, ◌+◌, ◌*◌}
use Rattle.checked_tree.specs.Shape.{shape_of_link}
use Rattle.comet_meaning.specs.Levels.{Code}
use Rattle.comet_meaning.specs.Operators.{chain_form}
use Rattle.comet_meaning.specs.Program.{level}
use Rattle.comet_meaning.specs.Values.{Number}
use Rattle.comet_meaning.proofs.Rows.{LinksLeft}
use Rattle.run_objects.specs.OfRunState.Views.{state_seen}
use Rattle.run_steps.specs.Views.{links_seen, part}
use Rattle.run_steps.proofs.plain.+plain.Given as goal

abbrev pub decreases-number_within : goal.decreases-number_within
decreases-number_within l = 3 * l.chains + 2

abbrev pub decreases-number_inside : goal.decreases-number_inside
decreases-number_inside l = 3 * l.chains + 1

abbrev pub decreases-cell_within : goal.decreases-cell_within
decreases-cell_within l = 3 * l.chains

abbrev pub decreases-chain_within : goal.decreases-chain_within
decreases-chain_within l = 3 * l.chains

abbrev pub invariant-chain_within-loop-link : goal.invariant-chain_within-loop-link
invariant-chain_within-loop-link l = (code : Code) (printed : _) → LinksLeft (level code l.room) shape_of_link l.links l.link-index (Number l.number) (state_seen l.s printed) (chain_form (level code l.room) (part l.first) (links_seen l.links) (state_seen l.s printed))
