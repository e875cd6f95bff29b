-- What stands in a term, as the meaning of programs has it. A rule of this project.
use Rattle.std.specs.Prelude.{option_map}
use Rattle.comet_meaning.specs.Terms as terms
use Rattle.run_values.specs.Views.{bounds_seen}
use Rattle.run_state.specs.declared.standing.InTerm.{InTerm}
use Rattle.run_state.specs.declared.standing.InTerm.TheVariants.{Single, Several}
use Rattle.run_state.specs.declared.standing.TermCells.{TermCells}

abbrev pub term_cells_seen : TermCells → terms.TermCells
term_cells_seen c = record { rows = bounds_seen c.rows; columns = option_map bounds_seen c.columns; terms = c.terms.items }

abbrev pub in_term_seen : InTerm → terms.InTerm
in_term_seen (Single t) = terms.Single t
in_term_seen (Several c) = terms.Several (term_cells_seen c)
