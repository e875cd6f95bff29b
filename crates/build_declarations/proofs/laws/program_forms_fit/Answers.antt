use Rattle.build_declarations.proofs.ProgramFits.{fits}
use Rattle.build_declarations.proofs.laws.program_forms_fit.Goals as goal

pub returns : goal.returns
returns c = fits
