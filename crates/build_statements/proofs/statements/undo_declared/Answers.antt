use Rattle.std.specs.Prelude.{refl}
use Rattle.std.proofs.lemmas.Result.{IfOk-weaker}
use Rattle.parse_stacks.proofs.Tops.{has_one, of_ok}
use Rattle.build_statements.proofs.statements.undo_declared.Goals as goal

pub take-declaration-requires : goal.take-declaration-requires
take-declaration-requires c = has_one _ c.requires.2

pub returns : goal.returns
returns c = IfOk-weaker c.put_made.result _ _ (λ _ e. (c.take-declaration.result, _, c.take-declaration.ensures, (e.0, (of_ok _ e.1 c.make_declared-made.ensures), (e.2, refl)))) c.put_made.ensures
