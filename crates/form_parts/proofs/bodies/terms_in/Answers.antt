use Rattle.std.proofs.Common.{rules, arith}
use Rattle.std.proofs.lemmas.Grind.{common_steps}
use Rattle.form_parts.proofs.bodies.terms_in.Goals as goal

pub returns-clause-terms : goal.returns-clause-terms
returns-clause-terms c = first_of (search rules, grind (arith, common_steps))
