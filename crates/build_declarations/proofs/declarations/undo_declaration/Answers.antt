use Rattle.std.specs.Prelude.{IfOk, Result, ◌≡◌}
use Rattle.std.proofs.Common.{subst, sym}
use Rattle.cbl_base.specs.declared.faults.NoMemory.{NoMemory}
use Rattle.parse_machine.specs.declared.form.DeclarationForm.{DeclarationForm}
use Rattle.parse_stacks.specs.declared.stacks.Stacks.{Stacks}
use Rattle.build_declarations.specs.MadeDeclarations.{IsReady, IsUndone}
use Rattle.build_declarations.proofs.declarations.undo_declaration.Goals as goal

-- what is said of the form in a branch
ready : (s : Stacks) {f g : DeclarationForm} → f ≡ g → IsReady f s → IsReady g s
ready s e h = subst (λ z. IsReady z s) e h

undone : (a b : Stacks) (r : Result (Unit {0}) NoMemory) {f g : DeclarationForm} → f ≡ g → IfOk r (λ _. IsUndone g a b) → IfOk r (λ _. IsUndone f a b)
undone a b r e h = subst (λ z. IfOk r (λ _. IsUndone z a b)) (sym e) h

pub undo_int-requires : goal.undo_int-requires
undo_int-requires c = ready c.args.stacks.now c.in-DeclarationInt.is c.requires

pub undo_bool-requires : goal.undo_bool-requires
undo_bool-requires c = ready c.args.stacks.now c.in-DeclarationBool.is c.requires

pub undo_range-requires : goal.undo_range-requires
undo_range-requires c = ready c.args.stacks.now c.in-DeclarationRange.is c.requires

pub undo_set-requires : goal.undo_set-requires
undo_set-requires c = ready c.args.stacks.now c.in-DeclarationSet.is c.requires

pub undo_variable-requires : goal.undo_variable-requires
undo_variable-requires c = ready c.args.stacks.now c.in-DeclarationVar.is c.requires

pub undo_variable-requires-in-DeclarationInc : goal.undo_variable-requires-in-DeclarationInc
undo_variable-requires-in-DeclarationInc c = ready c.args.stacks.now c.in-DeclarationInc.is c.requires

pub undo_object-requires : goal.undo_object-requires
undo_object-requires c = ready c.args.stacks.now c.in-DeclarationClassName.is c.requires

pub undo_array_rest-requires : goal.undo_array_rest-requires
undo_array_rest-requires c = ready c.args.stacks.now c.in-IntRestLeftBracket.is c.requires

pub undo_plain_rest-requires : goal.undo_plain_rest-requires
undo_plain_rest-requires c = ready c.args.stacks.now c.in-IntRestName.is c.requires

pub undo_value-requires : goal.undo_value-requires
undo_value-requires c = ready c.args.stacks.now c.in-StartValueEqual.is c.requires

pub undo_number_rest-requires : goal.undo_number_rest-requires
undo_number_rest-requires c = ready c.args.stacks.now c.in-VariableRestInt.is c.requires

pub undo_set_rest-requires : goal.undo_set_rest-requires
undo_set_rest-requires c = ready c.args.stacks.now c.in-VariableRestSet.is c.requires

pub undo_value-requires-in-DomainComma : goal.undo_value-requires-in-DomainComma
undo_value-requires-in-DomainComma c = ready c.args.stacks.now c.in-DomainComma.is c.requires

pub undo_assigned-requires : goal.undo_assigned-requires
undo_assigned-requires c = ready c.args.stacks.now c.in-VariableStartAssign.is c.requires

pub undo_defined-requires : goal.undo_defined-requires
undo_defined-requires c = ready c.args.stacks.now c.in-VariableStartArrow.is c.requires

pub undo_direct-requires : goal.undo_direct-requires
undo_direct-requires c = ready c.args.stacks.now c.in-MakerLeftParenthesis.is c.requires

pub undo_new-requires : goal.undo_new-requires
undo_new-requires c = ready c.args.stacks.now c.in-MakerEqual.is c.requires

pub undo_dimensions-requires : goal.undo_dimensions-requires
undo_dimensions-requires c = ready c.args.stacks.now c.in-DimensionsLeftBracket.is c.requires

pub undo_second_dimension-requires : goal.undo_second_dimension-requires
undo_second_dimension-requires c = ready c.args.stacks.now c.in-DimensionsTailComma.is c.requires

pub undo_named_dimension-requires : goal.undo_named_dimension-requires
undo_named_dimension-requires c = ready c.args.stacks.now c.in-DimensionName.is c.requires

pub undo_unnamed_dimension-requires : goal.undo_unnamed_dimension-requires
undo_unnamed_dimension-requires c = ready c.args.stacks.now c.in-DimensionUnnamed.is c.requires

pub undo_range_rest-requires : goal.undo_range_rest-requires
undo_range_rest-requires c = ready c.args.stacks.now c.in-DimensionRestIn.is c.requires

pub undo_called_rest-requires : goal.undo_called_rest-requires
undo_called_rest-requires c = ready c.args.stacks.now c.in-DimensionRestCalled.is c.requires

pub returns-in-DeclarationInt : goal.returns-in-DeclarationInt
returns-in-DeclarationInt c = undone c.args.stacks.now c.undo_int.new.stacks c.undo_int.result c.in-DeclarationInt.is c.undo_int.ensures

pub returns-in-DeclarationBool : goal.returns-in-DeclarationBool
returns-in-DeclarationBool c = undone c.args.stacks.now c.undo_bool.new.stacks c.undo_bool.result c.in-DeclarationBool.is c.undo_bool.ensures

pub returns-in-DeclarationRange : goal.returns-in-DeclarationRange
returns-in-DeclarationRange c = undone c.args.stacks.now c.undo_range.new.stacks c.undo_range.result c.in-DeclarationRange.is c.undo_range.ensures

pub returns-in-DeclarationSet : goal.returns-in-DeclarationSet
returns-in-DeclarationSet c = undone c.args.stacks.now c.undo_set.new.stacks c.undo_set.result c.in-DeclarationSet.is c.undo_set.ensures

pub returns-in-DeclarationVar : goal.returns-in-DeclarationVar
returns-in-DeclarationVar c = undone c.args.stacks.now c.undo_variable.new.stacks c.undo_variable.result c.in-DeclarationVar.is c.undo_variable.ensures

pub returns-in-DeclarationInc : goal.returns-in-DeclarationInc
returns-in-DeclarationInc c = undone c.args.stacks.now c.undo_variable-in-DeclarationInc.new.stacks c.undo_variable-in-DeclarationInc.result c.in-DeclarationInc.is c.undo_variable-in-DeclarationInc.ensures

pub returns-in-DeclarationClassName : goal.returns-in-DeclarationClassName
returns-in-DeclarationClassName c = undone c.args.stacks.now c.undo_object.new.stacks c.undo_object.result c.in-DeclarationClassName.is c.undo_object.ensures

pub returns-in-IntRestLeftBracket : goal.returns-in-IntRestLeftBracket
returns-in-IntRestLeftBracket c = undone c.args.stacks.now c.undo_array_rest.new.stacks c.undo_array_rest.result c.in-IntRestLeftBracket.is c.undo_array_rest.ensures

pub returns-in-IntRestName : goal.returns-in-IntRestName
returns-in-IntRestName c = undone c.args.stacks.now c.undo_plain_rest.new.stacks c.undo_plain_rest.result c.in-IntRestName.is c.undo_plain_rest.ensures

pub returns-in-StartValueNone : goal.returns-in-StartValueNone
returns-in-StartValueNone c = undone c.args.stacks.now c.undo_no_value.new.stacks c.undo_no_value.result c.in-StartValueNone.is c.undo_no_value.ensures

pub returns-in-StartValueEqual : goal.returns-in-StartValueEqual
returns-in-StartValueEqual c = undone c.args.stacks.now c.undo_value.new.stacks c.undo_value.result c.in-StartValueEqual.is c.undo_value.ensures

pub returns-in-VariableRestInt : goal.returns-in-VariableRestInt
returns-in-VariableRestInt c = undone c.args.stacks.now c.undo_number_rest.new.stacks c.undo_number_rest.result c.in-VariableRestInt.is c.undo_number_rest.ensures

pub returns-in-VariableRestSet : goal.returns-in-VariableRestSet
returns-in-VariableRestSet c = undone c.args.stacks.now c.undo_set_rest.new.stacks c.undo_set_rest.result c.in-VariableRestSet.is c.undo_set_rest.ensures

pub returns-in-DomainNone : goal.returns-in-DomainNone
returns-in-DomainNone c = undone c.args.stacks.now c.undo_no_value-in-DomainNone.new.stacks c.undo_no_value-in-DomainNone.result c.in-DomainNone.is c.undo_no_value-in-DomainNone.ensures

pub returns-in-DomainComma : goal.returns-in-DomainComma
returns-in-DomainComma c = undone c.args.stacks.now c.undo_value-in-DomainComma.new.stacks c.undo_value-in-DomainComma.result c.in-DomainComma.is c.undo_value-in-DomainComma.ensures

pub returns-in-VariableStartNone : goal.returns-in-VariableStartNone
returns-in-VariableStartNone c = undone c.args.stacks.now c.undo_no_start.new.stacks c.undo_no_start.result c.in-VariableStartNone.is c.undo_no_start.ensures

pub returns-in-VariableStartAssign : goal.returns-in-VariableStartAssign
returns-in-VariableStartAssign c = undone c.args.stacks.now c.undo_assigned.new.stacks c.undo_assigned.result c.in-VariableStartAssign.is c.undo_assigned.ensures

pub returns-in-VariableStartArrow : goal.returns-in-VariableStartArrow
returns-in-VariableStartArrow c = undone c.args.stacks.now c.undo_defined.new.stacks c.undo_defined.result c.in-VariableStartArrow.is c.undo_defined.ensures

pub returns-in-MakerLeftParenthesis : goal.returns-in-MakerLeftParenthesis
returns-in-MakerLeftParenthesis c = undone c.args.stacks.now c.undo_direct.new.stacks c.undo_direct.result c.in-MakerLeftParenthesis.is c.undo_direct.ensures

pub returns-in-MakerEqual : goal.returns-in-MakerEqual
returns-in-MakerEqual c = undone c.args.stacks.now c.undo_new.new.stacks c.undo_new.result c.in-MakerEqual.is c.undo_new.ensures

pub returns-in-DimensionsNone : goal.returns-in-DimensionsNone
returns-in-DimensionsNone c = undone c.args.stacks.now c.undo_no_dimensions.new.stacks c.undo_no_dimensions.result c.in-DimensionsNone.is c.undo_no_dimensions.ensures

pub returns-in-DimensionsLeftBracket : goal.returns-in-DimensionsLeftBracket
returns-in-DimensionsLeftBracket c = undone c.args.stacks.now c.undo_dimensions.new.stacks c.undo_dimensions.result c.in-DimensionsLeftBracket.is c.undo_dimensions.ensures

pub returns-in-DimensionsTailNone : goal.returns-in-DimensionsTailNone
returns-in-DimensionsTailNone c = undone c.args.stacks.now c.undo_no_second_dimension.new.stacks c.undo_no_second_dimension.result c.in-DimensionsTailNone.is c.undo_no_second_dimension.ensures

pub returns-in-DimensionsTailComma : goal.returns-in-DimensionsTailComma
returns-in-DimensionsTailComma c = undone c.args.stacks.now c.undo_second_dimension.new.stacks c.undo_second_dimension.result c.in-DimensionsTailComma.is c.undo_second_dimension.ensures

pub returns-in-DimensionName : goal.returns-in-DimensionName
returns-in-DimensionName c = undone c.args.stacks.now c.undo_named_dimension.new.stacks c.undo_named_dimension.result c.in-DimensionName.is c.undo_named_dimension.ensures

pub returns-in-DimensionUnnamed : goal.returns-in-DimensionUnnamed
returns-in-DimensionUnnamed c = undone c.args.stacks.now c.undo_unnamed_dimension.new.stacks c.undo_unnamed_dimension.result c.in-DimensionUnnamed.is c.undo_unnamed_dimension.ensures

pub returns-in-DimensionRestIn : goal.returns-in-DimensionRestIn
returns-in-DimensionRestIn c = undone c.args.stacks.now c.undo_range_rest.new.stacks c.undo_range_rest.result c.in-DimensionRestIn.is c.undo_range_rest.ensures

pub returns-in-DimensionRestCalled : goal.returns-in-DimensionRestCalled
returns-in-DimensionRestCalled c = undone c.args.stacks.now c.undo_called_rest.new.stacks c.undo_called_rest.result c.in-DimensionRestCalled.is c.undo_called_rest.ensures
