use Rattle.std.proofs.Common.{arith}
use Rattle.comet_syntax.proofs.Exits.{passes}
use Rattle.comet_syntax.proofs.Fronts.{token_of_len, no_kind_of_len}
use Rattle.comet_syntax.proofs.lex_front.read_lexeme.Goals as goal

pub returns-in_err-kind-clause-refused : goal.returns-in_err-kind-clause-refused
returns-in_err-kind-clause-refused c = passes _ _ c.in_err-kind.field-0.0 c.from_residual.ensures.1
    (λ is. no_kind_of_len c.lexeme_len-len.ensures.bound (c.lexeme_len-len.ensures.is_lexeme (omega arith)) c.lexeme_len-len.ensures.longest
    c.split_at.ensures.front (c.in_err-kind.ensures.refused is))

pub returns-clause-ok : goal.returns-clause-ok
returns-clause-ok c = token_of_len c.requires c.lexeme_len-len.ensures.bound (c.lexeme_len-len.ensures.is_lexeme (omega arith)) c.lexeme_len-len.ensures.longest
    c.split_at.ensures.front c.split_at.ensures.back c.in_ok-kind.ensures.ok
