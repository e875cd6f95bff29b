use Rattle.std.specs.Prelude.{◌∷◌}
use Rattle.std.proofs.Common.{ap, ◌∙◌}
use Rattle.comet_syntax.specs.declared.token.Word.TheVariants as words
use Rattle.comet_syntax.specs.Grammar.Statements.{statement_declaration}
use Rattle.comet_syntax.specs.Grammar.Symbols.{statement}
use Rattle.comet_syntax.specs.Written.Shown.{form, word}
use Rattle.comet_syntax.specs.Written.Declarations.{written_declaration}
use Rattle.build_statements.proofs.Trees.{written_declared}
use Rattle.build_statements.proofs.nodes.make_declared.Goals as goal

pub returns : goal.returns
returns c = written_declared c.in_ok-declaration.declaration
    ∙ ap (λ x. (λ behind. form statement statement_declaration ∷ written_declaration x (word words.Semicolon behind))) c.in_ok-declaration.ensures.ok
