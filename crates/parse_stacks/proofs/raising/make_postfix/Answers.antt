use Rattle.std.proofs.Common.{ap, ◌∙◌, map}
use Rattle.comet_syntax.specs.Written.Expressions.{written, written_suffix, postfix_by}
use Rattle.parse_stacks.proofs.Trees.{written_postfix}
use Rattle.parse_stacks.proofs.raising.make_postfix.Goals as goal

pub returns : goal.returns
returns c = written_postfix c.in_ok-primary.primary c.args.suffixes
    ∙ ap (λ x. postfix_by (written x).primary_rest (written x).head (map written_suffix c.args.suffixes.items)) c.in_ok-primary.ensures.ok
