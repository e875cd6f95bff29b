-- What each form of declarations makes is written as the form and its values.
use Rattle.std.specs.Prelude.{List, ◌∷◌, reverse, ◌≡◌}
use Rattle.std.proofs.Common.{sym, ◌∙◌, ap, subst}
use Rattle.comet_syntax.specs.declared.tree.declarations.Dimension.{Dimension}
use Rattle.comet_syntax.specs.declared.tree.declarations.Maker.TheVariants as makers
use Rattle.comet_syntax.specs.declared.tree.expressions.Name.{Name}
use Rattle.comet_syntax.specs.Grammar.Declarations.{dimension_rest_called, dimension_name, dimension_unnamed, maker_left_parenthesis, maker_equal}
use Rattle.comet_syntax.specs.Grammar.Symbols.{dimension, dimension_rest, maker}
use Rattle.comet_syntax.specs.declared.token.Word.TheVariants as words
use Rattle.comet_syntax.specs.Written.Shown.{Shown, form, name, word}
use Rattle.comet_syntax.specs.Written.Expressions.{Writing, Opening, by_name, by_opening, written}
use Rattle.comet_syntax.specs.Written.Declarations.{arguments_in, dimension_by, dimension_head, dimensions_text, domain_text, made_text, second_dimension, start_text, variable_start_text, written_declaration, written_dimension}
use Rattle.parse_machine.specs.Forms.{part_in_declaration, body_in_declaration}
use Rattle.parse_machine.specs.declared.form.DeclarationForm.{DeclarationForm}
use Rattle.parse_machine.specs.declared.form.DeclarationForm.TheVariants as forms
use Rattle.parse_stacks.specs.declared.tails.DimensionRest.TheVariants as dimension_rests
use Rattle.parse_stacks.specs.declared.tails.IntRest.TheVariants as int_rests
use Rattle.parse_stacks.specs.declared.tails.VariableRest.TheVariants as variable_rests
use Rattle.parse_stacks.specs.Raised.{raised, named_operand}
use Rattle.parse_stacks.specs.Standing.{Fits}
use Rattle.parse_stacks.specs.Texts.{DimensionRestLevel, StartsRight, unnamed_text, dimension_rest_text, int_rest_text, variable_rest_text}
use Rattle.parse_stacks.proofs.GoingOn.{raised_goes, named_goes}
use Rattle.build_declarations.specs.MadeDeclarations.{Made, behind_of, IsUnnamedDimension}

-- a dimension without a name is written as its range is
unnamed_dimension : {w : Writing} (d : Dimension) (Y : List Shown) → IsUnnamedDimension w d → dimension_head w.head (w.whole_rest Y) ≡ written_dimension d Y
unnamed_dimension d Y m = ap (λ z. dimension_head z.head (z.whole_rest Y)) (sym m.range_is) ∙ ap (λ z. dimension_by z (written d.range) Y) (sym m.unnamed)

-- one that begins with a name, too
named_dimension : (n : Name) (w : Writing) (X Y : List Shown) → w.head ≡ by_name n → X ≡ w.whole_rest Y → form dimension dimension_name ∷ name n (form dimension_rest dimension_rest_called ∷ X) ≡ dimension_head w.head (w.whole_rest Y)
named_dimension n w X Y h e = ap (λ z. dimension_head (by_name n) z) e ∙ ap (λ z. dimension_head z (w.whole_rest Y)) (sym h)

-- and one that begins otherwise
opened_dimension : (w r : Writing) (o : Opening) (Z Y : List Shown) → w.head ≡ by_opening o → r.head ≡ w.head → Z ≡ r.whole_rest Y
    → form dimension dimension_unnamed ∷ unnamed_text w.head Z ≡ dimension_head r.head (r.whole_rest Y)
opened_dimension w r o Z Y h g e = ap (λ z. form dimension dimension_unnamed ∷ unnamed_text z Z) h ∙ (ap (λ z. dimension_head (by_opening o) z) e ∙ ap (λ z. dimension_head z (r.whole_rest Y)) (sym (g ∙ h)))

pub fits : (f : DeclarationForm) → Fits (part_in_declaration f) (body_in_declaration f) (Made f)
fits forms.DeclarationInt (p, (int_rests.Array n e, u)) x l m = (tt, λ Y. ap (λ z. written_declaration z Y) (sym m))
fits forms.DeclarationInt (p, (int_rests.Plain n d e, u)) x l m = (tt, λ Y. ap (λ z. written_declaration z Y) (sym m))
fits forms.DeclarationBool v x l m = (tt, λ Y. ap (λ z. written_declaration z Y) (sym m))
fits forms.DeclarationRange v x l m = (tt, λ Y. ap (λ z. written_declaration z Y) (sym m))
fits forms.DeclarationSet v x l m = (tt, λ Y. ap (λ z. written_declaration z Y) (sym m))
fits forms.DeclarationVar (p, (b, (variable_rests.Number n d s e i, u))) x l m = (tt, λ Y. ap (λ z. written_declaration z Y) (sym m))
fits forms.DeclarationVar (p, (b, (variable_rests.Set n d s e, u))) x l m = (tt, λ Y. ap (λ z. written_declaration z Y) (sym m))
fits forms.DeclarationInc (p, (b, (variable_rests.Number n d s e i, u))) x l m = (tt, λ Y. ap (λ z. written_declaration z Y) (sym m))
fits forms.DeclarationInc (p, (b, (variable_rests.Set n d s e, u))) x l m = (tt, λ Y. ap (λ z. written_declaration z Y) (sym m))
fits forms.DeclarationClassName v x l m = (tt, λ Y. ap (λ z. written_declaration z Y) (sym m))
fits forms.IntRestLeftBracket v x l m = (tt, λ Y. ap (λ z. int_rest_text z Y) (sym m))
fits forms.IntRestName v x l m = (tt, λ Y. ap (λ z. int_rest_text z Y) (sym m))
fits forms.StartValueNone v x l m = (tt, λ Y. ap (λ z. start_text z Y) (sym m))
fits forms.StartValueEqual v x l m = (tt, λ Y. ap (λ z. start_text z Y) (sym m))
fits forms.VariableRestInt v x l m = (tt, λ Y. ap (λ z. variable_rest_text z Y) (sym m))
fits forms.VariableRestSet v x l m = (tt, λ Y. ap (λ z. variable_rest_text z Y) (sym m))
fits forms.DomainNone v x l m = (tt, λ Y. ap (λ z. domain_text z Y) (sym m))
fits forms.DomainComma v x l m = (tt, λ Y. ap (λ z. domain_text z Y) (sym m))
fits forms.VariableStartNone v x l m = (tt, λ Y. ap (λ z. variable_start_text z Y) (sym m))
fits forms.VariableStartAssign v x l m = (tt, λ Y. ap (λ z. variable_start_text z Y) (sym m))
fits forms.VariableStartArrow v x l m = (tt, λ Y. ap (λ z. variable_start_text z Y) (sym m))
fits forms.MakerLeftParenthesis v (makers.Direct a) l m = (tt, λ Y. ap (λ z. form maker maker_left_parenthesis ∷ arguments_in z Y) (sym m))
fits forms.MakerLeftParenthesis v (makers.New c a) l m = absurd m
fits forms.MakerEqual v (makers.Direct a) l m = absurd m
fits forms.MakerEqual v (makers.New c a) l m = (
  tt,
  λ Y. ap (λ z. form maker maker_equal ∷ word words.Equal (word words.New (made_text z (reverse v.1.1.1.1.0.items) Y))) (sym m.0)
      ∙ ap (λ z. form maker maker_equal ∷ word words.Equal (word words.New (made_text c z Y))) (sym m.1),
)
fits forms.DimensionsNone v x l m = (tt, λ Y. ap (λ z. dimensions_text z Y) (sym m))
fits forms.DimensionsLeftBracket v x l m = (tt, λ Y. ap (λ z. dimensions_text z Y) (sym m))
fits forms.DimensionsTailNone v x l m = (tt, λ Y. ap (λ z. second_dimension z Y) (sym m))
fits forms.DimensionsTailComma v x l m = (tt, λ Y. ap (λ z. second_dimension z Y) (sym m))
fits forms.DimensionName (n, (dimension_rests.In e, u)) x l m = (tt, λ Y. ap (λ z. written_dimension z Y) (sym m))
fits forms.DimensionName (n, (dimension_rests.Rest c s b, u)) x l m =
    let named = named_goes n c s in
    let goes = raised_goes (named_operand n c s) b named.level l.1.0 in
    (tt, λ Y. named_dimension n (raised (named_operand n c s) b) _ Y (goes.head ∙ named.head) (named.rest _ ∙ goes.rest Y) ∙ unnamed_dimension x Y m)
fits forms.DimensionUnnamed v x l m =
    let starts : StartsRight (behind_of v.1) = record { product = l.1.0; total = l.1.1.0; conjunction = l.1.1.1.1.1.0; disjunction = l.1.1.1.1.1.1.0 } in
    let goes = raised_goes (written v.0) (behind_of v.1) l.0.level starts in
    (tt, λ Y. opened_dimension (written v.0) (raised (written v.0) (behind_of v.1)) l.0.by _ Y l.0.head_is goes.head (goes.rest Y) ∙ unnamed_dimension x Y m)
fits forms.DimensionRestIn v x l m = (subst (λ z. DimensionRestLevel z) (sym m) tt, λ Y. ap (λ z. dimension_rest_text z Y) (sym m))
fits forms.DimensionRestCalled v x l m = (
  subst (λ z. DimensionRestLevel z) (sym m) (record { product = l.1.1.0; total = l.1.1.1.0; conjunction = l.1.1.1.1.1.1.0; disjunction = l.1.1.1.1.1.1.1.0 }),
  λ Y. ap (λ z. dimension_rest_text z Y) (sym m),
)
