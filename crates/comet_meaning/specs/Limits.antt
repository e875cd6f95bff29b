-- The limits of a run. A rule of this project.
use Rattle.std.specs.Prelude.{ℕ}
use Rattle.cbl_base.specs.declared.limits.TheConstants.{MAX_CANDIDATES, MAX_CELLS, MAX_DATA_BYTES, MAX_RUNNING_DEPTH, MAX_TERM_DEPTH, MAX_TERM_NODES, MAX_VARIABLES}

-- how many statements and expressions may be executed inside each other
abbrev pub most_depth : ℕ
most_depth = MAX_RUNNING_DEPTH

abbrev pub most_variables : ℕ
most_variables = MAX_VARIABLES

-- how deep a term may be, and how many distinct subterms a model may have
abbrev pub most_term_depth : ℕ
most_term_depth = MAX_TERM_DEPTH

abbrev pub most_terms : ℕ
most_terms = MAX_TERM_NODES

abbrev pub most_cells : ℕ
most_cells = MAX_CELLS

-- how many bytes of data are read
abbrev pub most_data : ℕ
most_data = MAX_DATA_BYTES

-- how many candidates a selector may have
abbrev pub most_candidates : ℕ
most_candidates = MAX_CANDIDATES
