use Rattle.std.proofs.Common.{ap, ◌∙◌}
use Rattle.comet_syntax.specs.Written.Expressions.{written}
use Rattle.comet_syntax.specs.Written.Declarations.{whole_text}
use Rattle.comet_syntax.specs.Written.Statements.{write_text}
use Rattle.build_simples.proofs.targets.make_write.Goals as goal

pub returns : goal.returns
returns c = ap (λ x. write_text c.args.operator (written x) (whole_text c.in_ok-target.value.value)) c.in_ok-target.ensures.0
    ∙ ap (λ x. write_text c.args.operator (written c.args.target) (whole_text x)) c.in_ok-target.ensures.1
