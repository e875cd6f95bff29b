use Rattle.std.proofs.Common.{ap, ◌∙◌, map}
use Rattle.comet_syntax.specs.Written.Expressions.{written, written_link, chain}
use Rattle.parse_stacks.proofs.Trees.{written_chain}
use Rattle.parse_stacks.proofs.raising.make_chain.Goals as goal

pub returns : goal.returns
returns c = written_chain c.in_ok-first.first c.args.links
    ∙ ap (λ x. chain (written x) (map written_link c.args.links.items)) c.in_ok-first.ensures.ok
