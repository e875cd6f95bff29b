-- The variable in a cell, or nothing.
use Rattle.std.proofs.Common.{sym, ◌∙◌, ap, slice_get}
use Rattle.comet_meaning.specs.Cells.{variable_or}
use Rattle.run_state.proofs.state.State.variable_in.Goals as goal

pub returns-in-Some : goal.returns-in-Some
returns-in-Some c = λ printed. ap variable_or (sym c.in-Some.is ∙ c.variable_at.ensures ∙ ap (λ xs. slice_get xs c.args.cell) (c.variables.ensures printed))

pub returns-in-None : goal.returns-in-None
returns-in-None c = λ printed. ap variable_or (sym c.in-None.is ∙ c.variable_at.ensures ∙ ap (λ xs. slice_get xs c.args.cell) (c.variables.ensures printed))
