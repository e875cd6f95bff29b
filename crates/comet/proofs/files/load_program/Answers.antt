use Rattle.comet.proofs.Exits.{passes}
use Rattle.comet.proofs.Loaded.{held_program, text_stops}
use Rattle.comet.proofs.files.load_program.Goals as goal

pub returns-in_err-program-clause-refused : goal.returns-in_err-program-clause-refused
returns-in_err-program-clause-refused g c = passes _ _ c.in_err-program.field-0.0 c.from_residual-in_err-program.ensures.1
    (text_stops _ _ c.as_slice.result.now _ _ _ (rw c.as_slice.ensures.value c.in_ok-text.ensures.read) c.in_err-program.ensures.refused)

pub returns-clause-loaded : goal.returns-clause-loaded
returns-clause-loaded g c = held_program _ _ c.as_slice.result.now _ (rw c.as_slice.ensures.value c.in_ok-text.ensures.read) c.in_ok-program.ensures.found
