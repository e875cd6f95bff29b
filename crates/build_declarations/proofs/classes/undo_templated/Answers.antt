use Rattle.std.specs.Prelude.{refl}
use Rattle.std.proofs.Common.{ap}
use Rattle.std.proofs.lemmas.Result.{IfOk-weaker}
use Rattle.cbl_base.specs.declared.place.Place.{Place}
use Rattle.comet_syntax.specs.declared.tree.declarations.Class.{Class}
use Rattle.comet_syntax.specs.declared.tree.declarations.ClassKind.{ClassKind}
use Rattle.parse_stacks.proofs.Tops.{has_one}
use Rattle.build_declarations.proofs.classes.undo_templated.Goals as goal

abbrev class_of : Place → ClassKind → Class
class_of p k = record { place = p; kind = k }

pub take-place-requires : goal.take-place-requires
take-place-requires c = has_one _ c.requires.2

pub take-template-requires : goal.take-template-requires
take-template-requires c = has_one _ c.requires.3.2

pub returns : goal.returns
returns c = IfOk-weaker c.put.result _ _ (λ _ e. (c.take-place.result, _, c.take-place.ensures, (c.take-template.result, _, c.take-template.ensures, (_, ap (class_of c.take-place.result) c.with_template-kind.ensures, (e, refl))))) c.put.ensures
