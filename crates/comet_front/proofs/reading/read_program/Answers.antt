use Rattle.comet_front.proofs.TypeStops.{built_found, built_refused, passes}
use Rattle.comet_front.proofs.reading.read_program.Goals as goal

pub returns-in_err-program-clause-refused : goal.returns-in_err-program-clause-refused
returns-in_err-program-clause-refused c = passes _ _ _ c.in_err-program.field-0.0 c.from_residual-in_err-program.ensures.1 c.in_ok-tree.ensures.found c.in_err-program.ensures.refused

pub returns-clause-found : goal.returns-clause-found
returns-clause-found c = built_found _ _ _ _ c.in_ok-tree.ensures.found c.in_ok-program.ensures.typed c.built.ensures.found

pub returns-clause-refused : goal.returns-clause-refused
returns-clause-refused c = built_refused _ _ _ _ c.in_ok-tree.ensures.found c.in_ok-program.ensures.typed c.built.ensures.refused
