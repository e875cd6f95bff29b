use Rattle.std.specs.Prelude.{refl}
use Rattle.std.proofs.lemmas.Result.{IfOk-weaker}
use Rattle.parse_stacks.proofs.Tops.{has_one, of_ok}
use Rattle.build_expressions.proofs.operands.undo_named.Goals as goal

pub take-name-requires : goal.take-name-requires
take-name-requires c = has_one _ c.requires.2

pub take-called-requires : goal.take-called-requires
take-called-requires c = has_one _ c.requires.3.2

pub take-suffixes-requires : goal.take-suffixes-requires
take-suffixes-requires c = has_one _ c.requires.3.3.2

pub returns : goal.returns
returns c = IfOk-weaker c.put_made.result _ _ (λ _ e. (_, _, c.take-name.ensures, (_, _, c.take-called.ensures, (_, _, c.take-suffixes.ensures, (_, (of_ok _ e.1 c.name_operand-made.ensures), (e.2, refl)))))) c.put_made.ensures
