use Rattle.std.proofs.Common.{ℕ, List}
use Rattle.comet_meaning.specs.Operators.{chain_form}
use Rattle.comet_meaning.specs.Program.{level}
use Rattle.run_objects.specs.OfRunState.Views.{state_seen}
use Rattle.run_steps.specs.Views.{code_seen, links_seen, part}
use Rattle.run_steps.proofs.ShortLaws.{ChainLeft}
use Rattle.run_steps.proofs.short_calls.chain_spending.Given as goal

abbrev pub invariant-loop-link : goal.invariant-loop-link
invariant-loop-link l = (printed : _) → ChainLeft (level (code_seen l.code) l.room) l.links l.link-index l.number (state_seen l.fn.s printed) (state_seen l.s printed) (chain_form (level (code_seen l.code) l.room) (part l.first) (links_seen l.links) (state_seen l.fn.s printed))
