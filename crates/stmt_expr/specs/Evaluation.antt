-- The answer of an evaluation is the outcome of the expression's meaning: its value, where nothing of the state has changed
-- but the fuel, or a fault or the end of the fuel at the same place, with the same fuel left. Where memory ran out it tells
-- nothing. A rule of this project.
use Rattle.std.specs.Prelude.{◌≡◌, ℕ, Result, Ok, Err}
use Rattle.comet_meaning.specs.Values as values
use Rattle.comet_meaning.specs.State.{State, left}
use Rattle.comet_meaning.specs.Outcome.{Act, Outcome, Went, Halted, Faulted, SpentAt}
use Rattle.run_values.specs.Views.{value_seen}
use Rattle.run_values.specs.declared.values.Value.{Value}
use Rattle.run_values.specs.declared.stop.Stop.{Stop}
use Rattle.run_values.specs.declared.stop.Stop.TheVariants as stops
use Rattle.stmt_expr.specs.declared.evaluation.EvalStop.{EvalStop}
use Rattle.stmt_expr.specs.declared.evaluation.EvalStop.TheVariants.{Fault, Spent, NoMemory}

-- the state with this fuel
abbrev pub with_fuel : ℕ → State → State
with_fuel fuel s = record s { fuel = fuel }

-- the answer, and the state that is left, are those of the outcome
abbrev pub Gives : Result Value EvalStop → State → Outcome values.Value → Type 0
Gives (Ok v) s o = o ≡ Went (value_seen v) s
Gives (Err (Fault place f)) s o = o ≡ Halted (Faulted place f) (left s)
Gives (Err (Spent place)) s o = o ≡ Halted (SpentAt place) (left s)
Gives (Err NoMemory) s o = Unit {0}

-- what an expression means, in a state with this fuel, is this answer, and the same state with this fuel left
abbrev pub Evaluates : Act values.Value → State → ℕ → Result Value EvalStop → ℕ → Type 0
Evaluates meant s fuel answer rest = Gives answer (with_fuel rest s) (meant (with_fuel fuel s))

-- an answer as it is handed on; an output over memory stops only where memory runs out, and a pure expression closes no
-- solver, so none stops at a cycle
abbrev pub answer_seen : Result Value Stop → Result Value EvalStop
answer_seen (Ok v) = Ok v
answer_seen (Err (stops.Fault place f)) = Err (Fault place f)
answer_seen (Err (stops.Spent place)) = Err (Spent place)
answer_seen (Err stops.NoMemory) = Err NoMemory
answer_seen (Err (stops.Output stop)) = Err NoMemory
answer_seen (Err (stops.Cyclic place names)) = Err NoMemory
