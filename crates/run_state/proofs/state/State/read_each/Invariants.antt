use Rattle.std.proofs.Common.{[], map}
use Rattle.comet_meaning.specs.Taking.{read_each}
use Rattle.comet_meaning.proofs.RowsOfTerms.{ReadLeft}
use Rattle.run_values.specs.Views.{value_seen}
use Rattle.run_state.specs.Views.{state_seen}
use Rattle.run_state.proofs.state.State.read_each.Given as goal

-- what is left to be read, behind what was, is the whole
abbrev pub invariant-loop-variable : goal.invariant-loop-variable
invariant-loop-variable g l =
    ReadLeft l.at l.variables l.variable-index (map value_seen l.values.items) (state_seen l.self (g.O.Outside.told l.out)) (read_each l.at l.variables [] (state_seen l.self (g.O.Outside.told l.out)))
