use Rattle.build_expressions.proofs.Fits.{fits}
use Rattle.build_expressions.proofs.laws.expression_forms_fit.Goals as goal

pub returns : goal.returns
returns c = fits
