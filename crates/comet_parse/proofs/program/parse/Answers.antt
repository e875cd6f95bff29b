use Rattle.comet_parse.proofs.Parsing.{spelled_alone}
use Rattle.comet_parse.proofs.program.parse.Goals as goal

pub returns-in-Ok-build-clause-only : goal.returns-in-Ok-build-clause-only
returns-in-Ok-build-clause-only c = spelled_alone c.args.tokens.now c.in-Ok.log.items c.in-Ok-build.program c.in-Ok.ensures.ok c.in-Ok-build.ensures
