use Rattle.std.proofs.Common.{ap}
use Rattle.comet_syntax.specs.Written.Expressions.{written}
use Rattle.comet_syntax.specs.Written.Statements.{step_text}
use Rattle.build_simples.proofs.targets.make_step.Goals as goal

pub returns : goal.returns
returns c = ap (λ x. step_text c.args.step (written x)) c.in_ok-target.ensures.ok
