use Rattle.std.proofs.Common.{ap, ◌∙◌}
use Rattle.comet_syntax.specs.Written.Statements.{written_statement, watched_text}
use Rattle.build_statements.proofs.Trees.{written_whenever}
use Rattle.build_statements.proofs.nodes.make_whenever.Goals as goal

pub returns : goal.returns
returns c = written_whenever c.args.place c.in_ok-watched.watched c.in_ok-watched.body
    ∙ ap (λ x. watched_text c.args.place x (written_statement c.in_ok-watched.body.value)) c.in_ok-watched.ensures.0
    ∙ ap (λ x. watched_text c.args.place (record { variable = c.args.variable; event = c.args.event; names = c.args.names }) (written_statement x)) c.in_ok-watched.ensures.1
