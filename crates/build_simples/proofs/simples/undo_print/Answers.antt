use Rattle.std.specs.Prelude.{refl}
use Rattle.std.proofs.Common.{ap, ◌∙◌, ◌∷◌}
use Rattle.std.proofs.lemmas.Result.{IfOk-weaker}
use Rattle.comet_syntax.specs.declared.token.Word.TheVariants as words
use Rattle.comet_syntax.specs.Grammar.Statements.{simple_cout}
use Rattle.comet_syntax.specs.Grammar.Symbols.{simple}
use Rattle.comet_syntax.specs.Written.Shown.{form, mark}
use Rattle.comet_syntax.specs.Written.Statements.{items_text}
use Rattle.parse_stacks.proofs.Tops.{has_one}
use Rattle.build_simples.proofs.simples.undo_print.Goals as goal

pub take-place-requires : goal.take-place-requires
take-place-requires c = has_one _ c.requires.2

pub take-first-requires : goal.take-first-requires
take-first-requires c = has_one _ c.requires.3.2

pub take-more-requires : goal.take-more-requires
take-more-requires c = has_one _ c.requires.3.3.2

pub returns : goal.returns
returns c = IfOk-weaker c.put.result _ _ (λ _ e. (c.take-place.result, _, c.take-place.ensures, (c.take-first.result, _, c.take-first.ensures, (c.take-more.result, _, c.take-more.ensures, (c.make_print-made.result, c.make_print-made.ensures ∙ ap (λ z. (λ behind. form simple simple_cout ∷ mark words.Cout c.take-place.result (items_text z behind))) (c.reverse.ensures.items ∙ c.in_ok-items.ensures), (e, refl)))))) c.put.ensures
