use Rattle.std.specs.Prelude.{◌∷◌}
use Rattle.std.proofs.Common.{ap}
use Rattle.comet_syntax.specs.declared.token.Word.TheVariants as words
use Rattle.comet_syntax.specs.Grammar.Statements.{simple_call}
use Rattle.comet_syntax.specs.Grammar.Symbols.{simple}
use Rattle.comet_syntax.specs.Written.Shown.{form, word, mark}
use Rattle.comet_syntax.specs.Written.Declarations.{whole_text}
use Rattle.build_simples.proofs.simples.make_call.Goals as goal

pub returns : goal.returns
returns c = ap (λ x. (λ behind. form simple simple_call ∷ mark words.Call c.args.place (word words.LeftParenthesis (whole_text x (word words.RightParenthesis behind))))) c.in_ok-chosen.ensures.ok
