-- What each form of declarations makes of the values of its symbols.
-- Definitions of this project.
use Rattle.std.specs.Prelude.{List, [], ◌∷◌, None, Some, reverse, ◌≡◌}
use Rattle.cbl_base.specs.declared.place.Place.{Place}
use Rattle.comet_syntax.specs.declared.tree.declarations.Class.{Class}
use Rattle.comet_syntax.specs.declared.tree.declarations.Declaration.{Declaration}
use Rattle.comet_syntax.specs.declared.tree.declarations.Declaration.TheVariants as declarations
use Rattle.comet_syntax.specs.declared.tree.declarations.Dimension.{Dimension}
use Rattle.comet_syntax.specs.declared.tree.declarations.Incremental.{Incremental}
use Rattle.comet_syntax.specs.declared.tree.declarations.Incremental.TheVariants as incrementals
use Rattle.comet_syntax.specs.declared.tree.declarations.Maker.{Maker}
use Rattle.comet_syntax.specs.declared.tree.declarations.Maker.TheVariants as makers
use Rattle.comet_syntax.specs.declared.tree.declarations.VariableStart.TheVariants as starts
use Rattle.comet_syntax.specs.declared.tree.expressions.Argument.{Argument}
use Rattle.comet_syntax.specs.declared.tree.expressions.Name.{Name}
use Rattle.comet_syntax.specs.Grammar.Symbols.{Symbol, same, product_tail, total_tail, range_tail, comparison_tail, and_tail, or_tail, branches}
use Rattle.comet_syntax.specs.Written.Expressions.{Writing, written}
use Rattle.parse_machine.specs.Forms.{part_in_declaration, body_in_declaration}
use Rattle.parse_machine.specs.declared.form.DeclarationForm.{DeclarationForm}
use Rattle.parse_machine.specs.declared.form.DeclarationForm.TheVariants as forms
use Rattle.parse_stacks.specs.Raised.{raised, named_operand}
use Rattle.parse_stacks.specs.Undoing.{Values, Ready, Undone}
use Rattle.parse_stacks.specs.Values.{Value}
use Rattle.parse_stacks.specs.declared.stacks.Stacks.{Stacks}
use Rattle.parse_stacks.specs.declared.tails.Behind.{Behind}
use Rattle.parse_stacks.specs.declared.tails.DimensionRest.{DimensionRest}
use Rattle.parse_stacks.specs.declared.tails.DimensionRest.TheVariants as dimension_rests
use Rattle.parse_stacks.specs.declared.tails.IntRest.{IntRest}
use Rattle.parse_stacks.specs.declared.tails.IntRest.TheVariants as int_rests
use Rattle.parse_stacks.specs.declared.tails.VariableRest.{VariableRest}
use Rattle.parse_stacks.specs.declared.tails.VariableRest.TheVariants as variable_rests

-- `int` and what stands behind it
abbrev pub int_declaration : Place → IntRest → Declaration
int_declaration place (int_rests.Array n e) = declarations.IntArray place n e
int_declaration place (int_rests.Plain n d e) = declarations.Int place n d e

-- `var{` or `inc{` and what stands behind it
abbrev pub variable_declaration : Place → Incremental → VariableRest → Declaration
variable_declaration place w (variable_rests.Number n d s e v) = declarations.Variable place w n d s e v
variable_declaration place w (variable_rests.Set n d s e) = declarations.SetVariable place w n d s e

-- `(arguments)`
abbrev pub IsDirect : List Argument → Maker → Type 0
IsDirect all (makers.Direct a) = a.items ≡ all
IsDirect all (makers.New c a) = ⊥

-- `new class(arguments)`
abbrev pub IsNew : Class → List Argument → Maker → Type 0
IsNew class all (makers.Direct a) = ⊥
IsNew class all (makers.New c a) = (c ≡ class) × (a.items ≡ all)

-- a dimension without a name, whose range is written so
pub record IsUnnamedDimension (range : Writing) (d : Dimension) : Type 0 where
  pub unnamed : d.name ≡ None
  pub range_is : written d.range ≡ range

-- a name and what stands behind it
abbrev pub IsNamedDimension : Name → DimensionRest → Dimension → Type 0
IsNamedDimension n (dimension_rests.In range) d = d ≡ record { name = Some n; range = range }
IsNamedDimension n (dimension_rests.Rest called suffixes behind) d = IsUnnamedDimension (raised (named_operand n called suffixes) behind) d

-- what stands behind the first operand of an expression
abbrev pub tails : List Symbol
tails = same product_tail ∷ same total_tail ∷ same range_tail ∷ same comparison_tail ∷ same and_tail ∷ same or_tail ∷ same branches ∷ []

abbrev pub behind_of : Values tails → Behind
behind_of v = record {
  product = v.0;
  total = v.1.0;
  up_to = v.1.1.0;
  compared = v.1.1.1.0;
  conjunction = v.1.1.1.1.0;
  disjunction = v.1.1.1.1.1.0;
  branches = v.1.1.1.1.1.1.0;
}

abbrev pub Made : (f : DeclarationForm) → Values (body_in_declaration f) → Value (part_in_declaration f) → Type 0
Made forms.DeclarationInt v x = x ≡ int_declaration v.0 v.1.0
Made forms.DeclarationBool v x = x ≡ declarations.Bool v.0 v.1.0 v.1.1.0
Made forms.DeclarationRange v x = x ≡ declarations.Range v.0 v.1.0 v.1.1.1.0
Made forms.DeclarationSet v x = x ≡ declarations.Set v.0 v.1.1.1.1.0 v.1.1.1.1.1.0
Made forms.DeclarationVar v x = x ≡ variable_declaration v.0 incrementals.Var v.1.1.0
Made forms.DeclarationInc v x = x ≡ variable_declaration v.0 incrementals.Inc v.1.1.0
Made forms.DeclarationClassName v x = x ≡ declarations.Object v.0 v.1.0 v.1.1.0
Made forms.IntRestLeftBracket v x = x ≡ int_rests.Array v.1.1.0 v.1.1.1.1.0
Made forms.IntRestName v x = x ≡ int_rests.Plain v.0 v.1.0 v.1.1.0
Made forms.StartValueNone v x = x ≡ None
Made forms.StartValueEqual v x = x ≡ Some v.1.0
Made forms.VariableRestInt v x = x ≡ variable_rests.Number v.1.1.0 v.1.1.1.0 v.1.1.1.1.1.0 v.1.1.1.1.1.1.0 v.1.1.1.1.1.1.1.1.0
Made forms.VariableRestSet v x = x ≡ variable_rests.Set v.1.1.1.1.1.0 v.1.1.1.1.1.1.0 v.1.1.1.1.1.1.1.1.0 v.1.1.1.1.1.1.1.1.1.1.1.0
Made forms.DomainNone v x = x ≡ None
Made forms.DomainComma v x = x ≡ Some v.1.0
Made forms.VariableStartNone v x = x ≡ None
Made forms.VariableStartAssign v x = x ≡ Some (starts.Assign v.1.0)
Made forms.VariableStartArrow v x = x ≡ Some (starts.Define v.1.0)
Made forms.MakerLeftParenthesis v x = IsDirect (reverse v.1.0.items) x
Made forms.MakerEqual v x = IsNew v.1.1.0 (reverse v.1.1.1.1.0.items) x
Made forms.DimensionsNone v x = x ≡ None
Made forms.DimensionsLeftBracket v x = x ≡ Some (record { first = v.1.0; second = v.1.1.0 })
Made forms.DimensionsTailNone v x = x ≡ None
Made forms.DimensionsTailComma v x = x ≡ Some v.1.0
Made forms.DimensionName v x = IsNamedDimension v.0 v.1.0 x
Made forms.DimensionUnnamed v x = IsUnnamedDimension (raised (written v.0) (behind_of v.1)) x
Made forms.DimensionRestIn v x = x ≡ dimension_rests.In v.1.0
Made forms.DimensionRestCalled v x = x ≡ dimension_rests.Rest v.0 v.1.0 (behind_of v.1.1)

-- the values of a form's symbols stand on the stacks
abbrev pub IsReady : DeclarationForm → Stacks → Type 0
IsReady f stacks = Ready (body_in_declaration f) stacks

-- a form was undone
abbrev pub IsUndone : DeclarationForm → Stacks → Stacks → Type 0
IsUndone f old new = Undone (part_in_declaration f) (body_in_declaration f) (Made f) old new
