use Rattle.std.specs.Prelude.{refl}
use Rattle.std.proofs.Common.{ap, ◌∙◌}
use Rattle.std.proofs.lemmas.Result.{IfOk-weaker}
use Rattle.parse_stacks.specs.Raised.{with_suffixes}
use Rattle.parse_stacks.proofs.Tops.{has_one, of_ok}
use Rattle.build_expressions.proofs.operands.undo_set.Goals as goal

pub take-place-requires : goal.take-place-requires
take-place-requires c = has_one _ c.requires.2

pub take-listed-requires : goal.take-listed-requires
take-listed-requires c = has_one _ c.requires.3.2

pub take-suffixes-requires : goal.take-suffixes-requires
take-suffixes-requires c = has_one _ c.requires.3.3.2

pub returns : goal.returns
returns c = IfOk-weaker c.put_made.result _ _ (λ _ e. (_, _, c.take-place.ensures, (_, _, c.take-listed.ensures, (_, _, c.take-suffixes.ensures, (_, (of_ok _ e.1 c.suffix-made.ensures) ∙ ap (λ z. with_suffixes z c.take-suffixes.result) c.make_set-primary.ensures, (e.2, refl)))))) c.put_made.ensures
