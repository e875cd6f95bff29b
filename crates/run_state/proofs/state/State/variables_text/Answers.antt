-- The variables are read, and then the text of their values is written.
use Rattle.std.proofs.Common.{◌≡◌, List, ℕ, map, sym, ◌∙◌, ap}
use Rattle.std.proofs.lemmas.Result.{err_from_is_err_and}
use Rattle.comet_meaning.specs.Values.{Variables}
use Rattle.comet_meaning.specs.Outcome.{Went}
use Rattle.comet_meaning.specs.Cells.{variables_of}
use Rattle.comet_meaning.specs.Printing.{grid_text, plain_text}
use Rattle.run_values.specs.Views.{value_seen}
use Rattle.run_state.specs.Views.{state_seen}
use Rattle.run_state.proofs.ReadLaws.{variables_text, text_unread, map_twice}
use Rattle.run_state.proofs.state.State.variables_text.Goals as goal

pub returns-in_err-values-clause-did : goal.returns-in_err-values-clause-did
returns-in_err-values-clause-did g c =
    let printed = g.O.Outside.told c.args.out.now in
    let p = err_from_is_err_and c.from_residual.result c.from_residual.ensures.1 in
    rw (p.1, p.2) (text_unread c.args.at c.args.array (state_seen c.args.self.now printed) _ (rw (c.variables.ensures printed) at (c.in_err-values.ensures.did)))

pub returns-clause-did : goal.returns-clause-did
returns-clause-did g c =
    let printed = g.O.Outside.told c.args.out.now in
    let s = state_seen c.args.self.now printed in
    let values = c.in_ok-values.values.items in
    let cells = variables_of s (Variables c.args.array) in
    let read = variables_text c.args.at c.args.array s _ (rw (c.variables.ensures printed) at (c.in_ok-values.ensures.did)) in
    let bounds = c.variables_extent.ensures printed in
    let written = rw (c.deref.ensures.value, c.new-text.ensures.items, ap (λ e. e.rows) bounds, ap (λ e. e.columns) bounds) at c.in_ok-push_array.ensures.ok in
    let same : c.push_array.new.text.items ≡ grid_text cells.rows (map plain_text (map value_seen values)) cells.columns =
    written ∙ ap (λ texts. grid_text cells.rows texts cells.columns) (sym (map_twice plain_text value_seen values)) in
    read ∙ ap (λ (text : List ℕ). Went text s) (sym same)
