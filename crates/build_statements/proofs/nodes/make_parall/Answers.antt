use Rattle.std.proofs.Common.{ap, ◌∙◌}
use Rattle.comet_syntax.specs.Written.Declarations.{whole_text}
use Rattle.comet_syntax.specs.Written.Statements.{written_statement, parall_text}
use Rattle.build_statements.proofs.Trees.{written_parall}
use Rattle.build_statements.proofs.nodes.make_parall.Goals as goal

pub returns : goal.returns
returns c = written_parall c.args.place c.args.name c.in_ok-domain.domain c.in_ok-domain.body
    ∙ ap (λ x. parall_text c.args.place c.args.name (whole_text x) (written_statement c.in_ok-domain.body.value)) c.in_ok-domain.ensures.0
    ∙ ap (λ x. parall_text c.args.place c.args.name (whole_text c.args.domain) (written_statement x)) c.in_ok-domain.ensures.1
