use Rattle.build_declarations.proofs.DeclarationFits.{fits}
use Rattle.build_declarations.proofs.laws.declaration_forms_fit.Goals as goal

pub returns : goal.returns
returns c = fits
