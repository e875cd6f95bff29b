use Rattle.std.specs.Prelude.{refl}
use Rattle.std.proofs.lemmas.Result.{IfOk-weaker}
use Rattle.build_declarations.proofs.Tops.{has_next, has_one}
use Rattle.build_declarations.proofs.declarations.undo_number_rest.Goals as goal

pub take-name-requires : goal.take-name-requires
take-name-requires c = has_one _ c.requires.2

pub take-dimensions-requires : goal.take-dimensions-requires
take-dimensions-requires c = has_one _ c.requires.3.2

pub take-solver-requires : goal.take-solver-requires
take-solver-requires c = has_next c.args.stacks.now.names.items _ c.take-name.ensures c.requires.2 c.requires.3.3.2

pub take-domain-requires : goal.take-domain-requires
take-domain-requires c = has_one _ c.requires.3.3.3.2

pub take-start-requires : goal.take-start-requires
take-start-requires c = has_one _ c.requires.3.3.3.3.2

pub returns : goal.returns
returns c = IfOk-weaker c.put.result _ _ (λ _ e. (c.take-name.result, _, c.take-name.ensures, (c.take-dimensions.result, _, c.take-dimensions.ensures, (c.take-solver.result, _, c.take-solver.ensures, (c.take-domain.result, _, c.take-domain.ensures, (c.take-start.result, _, c.take-start.ensures, (_, refl, (e, refl)))))))) c.put.ensures
