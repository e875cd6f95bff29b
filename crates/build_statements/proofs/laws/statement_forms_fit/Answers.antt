use Rattle.build_statements.proofs.Fitting.{fits}
use Rattle.build_statements.proofs.laws.statement_forms_fit.Goals as goal

pub returns : goal.returns
returns c = fits
