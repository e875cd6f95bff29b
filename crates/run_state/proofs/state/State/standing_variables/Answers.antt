-- The bounds of the array, and a term for each of its variables.
use Rattle.std.proofs.Common.{◌≡◌, map, ◌∙◌, ap}
use Rattle.comet_meaning.specs.OfModelView.Building.{variable}
use Rattle.comet_meaning.specs.Cells.{variables_of}
use Rattle.comet_meaning.specs.Values.{Variables}
use Rattle.run_values.specs.Views.{extent_seen}
use Rattle.run_state.specs.Views.{state_seen}
use Rattle.run_state.proofs.StandingLaws.{variables_standing}
use Rattle.run_state.proofs.state.State.standing_variables.Goals as goal

pub returns-clause-same : goal.returns-clause-same
returns-clause-same c = λ printed.
    let cells = variables_of (state_seen c.args.self.now printed) (Variables c.args.array) in
    let terms : c.in_ok-terms.terms.items ≡ map variable cells.variables = c.in_ok-terms.ensures.terms ∙ ap (map variable) (c.variables.ensures printed) in
    variables_standing (extent_seen c.variables_extent-extent.result) _ cells (c.variables_extent-extent.ensures printed) terms
