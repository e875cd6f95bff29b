use Rattle.build_expressions.proofs.Generators.{generators_made}
use Rattle.build_expressions.proofs.generating.make_generators.Goals as goal

pub returns : goal.returns
returns c = generators_made _ _ _ _ _ c.box_some.ensures c.in_ok-condition.ensures.0 c.in_ok-condition.ensures.1
