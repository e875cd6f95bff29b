use Rattle.std.specs.Prelude.{refl}
use Rattle.std.proofs.Common.{ap}
use Rattle.std.proofs.lemmas.Result.{IfOk-weaker}
use Rattle.cbl_base.specs.declared.place.Place.{Place}
use Rattle.comet_syntax.specs.declared.tree.program.ParameterKind.{ParameterKind}
use Rattle.parse_stacks.specs.declared.tails.ParameterType.{ParameterType}
use Rattle.parse_stacks.proofs.Tops.{has_one}
use Rattle.build_declarations.proofs.parameters.undo_variable_kind.Goals as goal

abbrev type_of : Place → ParameterKind → ParameterType
type_of p k = record { kind = k; place = p }

pub take-place-requires : goal.take-place-requires
take-place-requires c = has_one _ c.requires.2

pub take-is_array-requires : goal.take-is_array-requires
take-is_array-requires c = has_one _ c.requires.3.2

pub returns : goal.returns
returns c = IfOk-weaker c.put.result _ _ (λ _ e. (c.take-place.result, _, c.take-place.ensures, (c.take-is_array.result, _, c.take-is_array.ensures, (_, ap (type_of c.take-place.result) c.kind_of_variable-kind.ensures, (e, refl))))) c.put.ensures
