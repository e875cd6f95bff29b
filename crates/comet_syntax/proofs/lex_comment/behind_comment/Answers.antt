use Rattle.std.proofs.Common.{◌∙◌, ap}
use Rattle.std.specs.Prelude.{drop}
use Rattle.comet_syntax.specs.Tokens.Comment.{of_a_line}
use Rattle.comet_syntax.proofs.Comments.{opens_block, opens_line, up_to_line_end, block_ends, block_stays_open}
use Rattle.comet_syntax.proofs.lex_comment.behind_comment.Goals as goal

pub returns-then-opening-eq42-clause-some : goal.returns-then-opening-eq42-clause-some
returns-then-opening-eq42-clause-some c = block_ends _ (opens_block _ _ _ c.requires c.split_at.ensures.front c.split_at.ensures.back c.if-opening-eq42.true) c.behind_close.ensures.some

pub returns-then-opening-eq42-clause-none : goal.returns-then-opening-eq42-clause-none
returns-then-opening-eq42-clause-none c = block_stays_open _ (opens_block _ _ _ c.requires c.split_at.ensures.front c.split_at.ensures.back c.if-opening-eq42.true) c.behind_close.ensures.none

pub returns-clause-some : goal.returns-clause-some
returns-clause-some c = of_a_line (opens_line _ _ _ c.requires c.split_at.ensures.front c.split_at.ensures.back c.if-opening-eq42.false)
    (up_to_line_end _ _ (c.split_at-2.ensures.back ∙ ap (λ n. drop n c.split_at.result.1.now) c.line_len.ensures)).1
