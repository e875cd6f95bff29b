use Rattle.std.specs.Prelude.{IfOk, Result, ◌≡◌, refl}
use Rattle.std.proofs.Common.{subst, sym}
use Rattle.cbl_base.specs.declared.faults.NoMemory.{NoMemory}
use Rattle.parse_machine.specs.declared.form.ExpressionForm.{ExpressionForm}
use Rattle.parse_machine.specs.Forms.{body_in_expression, part_in_expression}
use Rattle.parse_stacks.specs.declared.stacks.Stacks.{Stacks}
use Rattle.parse_stacks.specs.Undoing.{Ready, Undone}
use Rattle.build_expressions.specs.Made.{Made}
use Rattle.build_expressions.proofs.forms.undo_expression.Goals as goal

as_form : (a b : Stacks) (r : Result (Unit {0}) NoMemory) {f g : ExpressionForm} → f ≡ g → IfOk r (λ _. Undone (part_in_expression g) (body_in_expression g) (Made g) a b)
    → IfOk r (λ _. Undone (part_in_expression f) (body_in_expression f) (Made f) a b)
as_form a b r e h = subst (λ z. IfOk r (λ _. Undone (part_in_expression z) (body_in_expression z) (Made z) a b)) (sym e) h

pub undo_whole-requires : goal.undo_whole-requires
undo_whole-requires c = subst (λ f. Ready (body_in_expression f) c.args.stacks.now) c.in-ExpressionOperand.is c.requires

pub returns-in-ExpressionOperand : goal.returns-in-ExpressionOperand
returns-in-ExpressionOperand c = as_form c.args.stacks.now c.undo_whole.new.stacks c.undo_whole.result c.in-ExpressionOperand.is c.undo_whole.ensures

pub returns-in-BranchesNone : goal.returns-in-BranchesNone
returns-in-BranchesNone c = as_form c.args.stacks.now c.undo_no_branches.new.stacks c.undo_no_branches.result c.in-BranchesNone.is c.undo_no_branches.ensures

pub undo_branches-requires : goal.undo_branches-requires
undo_branches-requires c = subst (λ f. Ready (body_in_expression f) c.args.stacks.now) c.in-BranchesQuestion.is c.requires

pub returns-in-BranchesQuestion : goal.returns-in-BranchesQuestion
returns-in-BranchesQuestion c = as_form c.args.stacks.now c.undo_branches.new.stacks c.undo_branches.result c.in-BranchesQuestion.is c.undo_branches.ensures

pub returns-in-OrTailNone : goal.returns-in-OrTailNone
returns-in-OrTailNone c = as_form c.args.stacks.now c.undo_no_links.new.stacks c.undo_no_links.result c.in-OrTailNone.is c.undo_no_links.ensures

pub undo_disjunction-requires : goal.undo_disjunction-requires
undo_disjunction-requires c = subst (λ f. Ready (body_in_expression f) c.args.stacks.now) c.in-OrTailOrOr.is c.requires

pub returns-in-OrTailOrOr : goal.returns-in-OrTailOrOr
returns-in-OrTailOrOr c = as_form c.args.stacks.now c.undo_disjunction.new.stacks c.undo_disjunction.result c.in-OrTailOrOr.is c.undo_disjunction.ensures

pub returns-in-AndTailNone : goal.returns-in-AndTailNone
returns-in-AndTailNone c = as_form c.args.stacks.now c.undo_no_links-in-AndTailNone.new.stacks c.undo_no_links-in-AndTailNone.result c.in-AndTailNone.is c.undo_no_links-in-AndTailNone.ensures

pub undo_conjunction-requires : goal.undo_conjunction-requires
undo_conjunction-requires c = subst (λ f. Ready (body_in_expression f) c.args.stacks.now) c.in-AndTailAndAnd.is c.requires

pub returns-in-AndTailAndAnd : goal.returns-in-AndTailAndAnd
returns-in-AndTailAndAnd c = as_form c.args.stacks.now c.undo_conjunction.new.stacks c.undo_conjunction.result c.in-AndTailAndAnd.is c.undo_conjunction.ensures

pub returns-in-ComparisonTailNone : goal.returns-in-ComparisonTailNone
returns-in-ComparisonTailNone c = as_form c.args.stacks.now c.undo_no_comparison.new.stacks c.undo_no_comparison.result c.in-ComparisonTailNone.is c.undo_no_comparison.ensures

pub undo_compared-requires : goal.undo_compared-requires
undo_compared-requires c = subst (λ f. Ready (body_in_expression f) c.args.stacks.now) c.in-ComparisonTailEqualEqual.is c.requires

pub returns-in-ComparisonTailEqualEqual : goal.returns-in-ComparisonTailEqualEqual
returns-in-ComparisonTailEqualEqual c = as_form c.args.stacks.now c.undo_compared.new.stacks c.undo_compared.result c.in-ComparisonTailEqualEqual.is c.undo_compared.ensures

pub undo_compared-requires-in-ComparisonTailNotEqual : goal.undo_compared-requires-in-ComparisonTailNotEqual
undo_compared-requires-in-ComparisonTailNotEqual c = subst (λ f. Ready (body_in_expression f) c.args.stacks.now) c.in-ComparisonTailNotEqual.is c.requires

pub returns-in-ComparisonTailNotEqual : goal.returns-in-ComparisonTailNotEqual
returns-in-ComparisonTailNotEqual c = as_form c.args.stacks.now c.undo_compared-in-ComparisonTailNotEqual.new.stacks c.undo_compared-in-ComparisonTailNotEqual.result c.in-ComparisonTailNotEqual.is c.undo_compared-in-ComparisonTailNotEqual.ensures

pub undo_compared-requires-in-ComparisonTailLess : goal.undo_compared-requires-in-ComparisonTailLess
undo_compared-requires-in-ComparisonTailLess c = subst (λ f. Ready (body_in_expression f) c.args.stacks.now) c.in-ComparisonTailLess.is c.requires

pub returns-in-ComparisonTailLess : goal.returns-in-ComparisonTailLess
returns-in-ComparisonTailLess c = as_form c.args.stacks.now c.undo_compared-in-ComparisonTailLess.new.stacks c.undo_compared-in-ComparisonTailLess.result c.in-ComparisonTailLess.is c.undo_compared-in-ComparisonTailLess.ensures

pub undo_compared-requires-in-ComparisonTailLessEqual : goal.undo_compared-requires-in-ComparisonTailLessEqual
undo_compared-requires-in-ComparisonTailLessEqual c = subst (λ f. Ready (body_in_expression f) c.args.stacks.now) c.in-ComparisonTailLessEqual.is c.requires

pub returns-in-ComparisonTailLessEqual : goal.returns-in-ComparisonTailLessEqual
returns-in-ComparisonTailLessEqual c = as_form c.args.stacks.now c.undo_compared-in-ComparisonTailLessEqual.new.stacks c.undo_compared-in-ComparisonTailLessEqual.result c.in-ComparisonTailLessEqual.is c.undo_compared-in-ComparisonTailLessEqual.ensures

pub undo_compared-requires-in-ComparisonTailGreater : goal.undo_compared-requires-in-ComparisonTailGreater
undo_compared-requires-in-ComparisonTailGreater c = subst (λ f. Ready (body_in_expression f) c.args.stacks.now) c.in-ComparisonTailGreater.is c.requires

pub returns-in-ComparisonTailGreater : goal.returns-in-ComparisonTailGreater
returns-in-ComparisonTailGreater c = as_form c.args.stacks.now c.undo_compared-in-ComparisonTailGreater.new.stacks c.undo_compared-in-ComparisonTailGreater.result c.in-ComparisonTailGreater.is c.undo_compared-in-ComparisonTailGreater.ensures

pub undo_compared-requires-in-ComparisonTailGreaterEqual : goal.undo_compared-requires-in-ComparisonTailGreaterEqual
undo_compared-requires-in-ComparisonTailGreaterEqual c = subst (λ f. Ready (body_in_expression f) c.args.stacks.now) c.in-ComparisonTailGreaterEqual.is c.requires

pub returns-in-ComparisonTailGreaterEqual : goal.returns-in-ComparisonTailGreaterEqual
returns-in-ComparisonTailGreaterEqual c = as_form c.args.stacks.now c.undo_compared-in-ComparisonTailGreaterEqual.new.stacks c.undo_compared-in-ComparisonTailGreaterEqual.result c.in-ComparisonTailGreaterEqual.is c.undo_compared-in-ComparisonTailGreaterEqual.ensures

pub returns-in-RangeTailNone : goal.returns-in-RangeTailNone
returns-in-RangeTailNone c = as_form c.args.stacks.now c.undo_no_range.new.stacks c.undo_no_range.result c.in-RangeTailNone.is c.undo_no_range.ensures

pub undo_range-requires : goal.undo_range-requires
undo_range-requires c = subst (λ f. Ready (body_in_expression f) c.args.stacks.now) c.in-RangeTailDotDot.is c.requires

pub returns-in-RangeTailDotDot : goal.returns-in-RangeTailDotDot
returns-in-RangeTailDotDot c = as_form c.args.stacks.now c.undo_range.new.stacks c.undo_range.result c.in-RangeTailDotDot.is c.undo_range.ensures

pub returns-in-TotalTailNone : goal.returns-in-TotalTailNone
returns-in-TotalTailNone c = as_form c.args.stacks.now c.undo_no_links-in-TotalTailNone.new.stacks c.undo_no_links-in-TotalTailNone.result c.in-TotalTailNone.is c.undo_no_links-in-TotalTailNone.ensures

pub undo_total-requires : goal.undo_total-requires
undo_total-requires c = subst (λ f. Ready (body_in_expression f) c.args.stacks.now) c.in-TotalTailPlus.is c.requires

pub returns-in-TotalTailPlus : goal.returns-in-TotalTailPlus
returns-in-TotalTailPlus c = as_form c.args.stacks.now c.undo_total.new.stacks c.undo_total.result c.in-TotalTailPlus.is c.undo_total.ensures

pub undo_total-requires-in-TotalTailMinus : goal.undo_total-requires-in-TotalTailMinus
undo_total-requires-in-TotalTailMinus c = subst (λ f. Ready (body_in_expression f) c.args.stacks.now) c.in-TotalTailMinus.is c.requires

pub returns-in-TotalTailMinus : goal.returns-in-TotalTailMinus
returns-in-TotalTailMinus c = as_form c.args.stacks.now c.undo_total-in-TotalTailMinus.new.stacks c.undo_total-in-TotalTailMinus.result c.in-TotalTailMinus.is c.undo_total-in-TotalTailMinus.ensures

pub returns-in-ProductTailNone : goal.returns-in-ProductTailNone
returns-in-ProductTailNone c = as_form c.args.stacks.now c.undo_no_links-in-ProductTailNone.new.stacks c.undo_no_links-in-ProductTailNone.result c.in-ProductTailNone.is c.undo_no_links-in-ProductTailNone.ensures

pub undo_product-requires : goal.undo_product-requires
undo_product-requires c = subst (λ f. Ready (body_in_expression f) c.args.stacks.now) c.in-ProductTailStar.is c.requires

pub returns-in-ProductTailStar : goal.returns-in-ProductTailStar
returns-in-ProductTailStar c = as_form c.args.stacks.now c.undo_product.new.stacks c.undo_product.result c.in-ProductTailStar.is c.undo_product.ensures

pub undo_product-requires-in-ProductTailSlash : goal.undo_product-requires-in-ProductTailSlash
undo_product-requires-in-ProductTailSlash c = subst (λ f. Ready (body_in_expression f) c.args.stacks.now) c.in-ProductTailSlash.is c.requires

pub returns-in-ProductTailSlash : goal.returns-in-ProductTailSlash
returns-in-ProductTailSlash c = as_form c.args.stacks.now c.undo_product-in-ProductTailSlash.new.stacks c.undo_product-in-ProductTailSlash.result c.in-ProductTailSlash.is c.undo_product-in-ProductTailSlash.ensures

pub undo_product-requires-in-ProductTailPercent : goal.undo_product-requires-in-ProductTailPercent
undo_product-requires-in-ProductTailPercent c = subst (λ f. Ready (body_in_expression f) c.args.stacks.now) c.in-ProductTailPercent.is c.requires

pub returns-in-ProductTailPercent : goal.returns-in-ProductTailPercent
returns-in-ProductTailPercent c = as_form c.args.stacks.now c.undo_product-in-ProductTailPercent.new.stacks c.undo_product-in-ProductTailPercent.result c.in-ProductTailPercent.is c.undo_product-in-ProductTailPercent.ensures

pub undo_named-requires : goal.undo_named-requires
undo_named-requires c = subst (λ f. Ready (body_in_expression f) c.args.stacks.now) c.in-OperandName.is c.requires

pub returns-in-OperandName : goal.returns-in-OperandName
returns-in-OperandName c = as_form c.args.stacks.now c.undo_named.new.stacks c.undo_named.result c.in-OperandName.is c.undo_named.ensures

pub returns-in-OperandUnnamed : goal.returns-in-OperandUnnamed
returns-in-OperandUnnamed c =
    let r = subst (λ f. Ready (body_in_expression f) c.args.stacks.now) c.in-OperandUnnamed.is c.requires in
    subst (λ z. Undone (part_in_expression z) (body_in_expression z) (Made z) c.args.stacks.now c.args.stacks.now) (sym c.in-OperandUnnamed.is) (r.0, r.1, r.2, (r.0, refl, (r.2, refl)))

pub undo_suffixed-requires : goal.undo_suffixed-requires
undo_suffixed-requires c = subst (λ f. Ready (body_in_expression f) c.args.stacks.now) c.in-UnnamedLiteral.is c.requires

pub returns-in-UnnamedLiteral : goal.returns-in-UnnamedLiteral
returns-in-UnnamedLiteral c = as_form c.args.stacks.now c.undo_suffixed.new.stacks c.undo_suffixed.result c.in-UnnamedLiteral.is c.undo_suffixed.ensures

pub undo_set-requires : goal.undo_set-requires
undo_set-requires c = subst (λ f. Ready (body_in_expression f) c.args.stacks.now) c.in-UnnamedLeftBrace.is c.requires

pub returns-in-UnnamedLeftBrace : goal.returns-in-UnnamedLeftBrace
returns-in-UnnamedLeftBrace c = as_form c.args.stacks.now c.undo_set.new.stacks c.undo_set.result c.in-UnnamedLeftBrace.is c.undo_set.ensures

pub undo_pair-requires : goal.undo_pair-requires
undo_pair-requires c = subst (λ f. Ready (body_in_expression f) c.args.stacks.now) c.in-UnnamedMin.is c.requires

pub returns-in-UnnamedMin : goal.returns-in-UnnamedMin
returns-in-UnnamedMin c = as_form c.args.stacks.now c.undo_pair.new.stacks c.undo_pair.result c.in-UnnamedMin.is c.undo_pair.ensures

pub undo_pair-requires-in-UnnamedMax : goal.undo_pair-requires-in-UnnamedMax
undo_pair-requires-in-UnnamedMax c = subst (λ f. Ready (body_in_expression f) c.args.stacks.now) c.in-UnnamedMax.is c.requires

pub returns-in-UnnamedMax : goal.returns-in-UnnamedMax
returns-in-UnnamedMax c = as_form c.args.stacks.now c.undo_pair-in-UnnamedMax.new.stacks c.undo_pair-in-UnnamedMax.result c.in-UnnamedMax.is c.undo_pair-in-UnnamedMax.ensures

pub undo_unary-requires : goal.undo_unary-requires
undo_unary-requires c = subst (λ f. Ready (body_in_expression f) c.args.stacks.now) c.in-UnnamedMinus.is c.requires

pub returns-in-UnnamedMinus : goal.returns-in-UnnamedMinus
returns-in-UnnamedMinus c = as_form c.args.stacks.now c.undo_unary.new.stacks c.undo_unary.result c.in-UnnamedMinus.is c.undo_unary.ensures

pub undo_unary-requires-in-UnnamedExclamation : goal.undo_unary-requires-in-UnnamedExclamation
undo_unary-requires-in-UnnamedExclamation c = subst (λ f. Ready (body_in_expression f) c.args.stacks.now) c.in-UnnamedExclamation.is c.requires

pub returns-in-UnnamedExclamation : goal.returns-in-UnnamedExclamation
returns-in-UnnamedExclamation c = as_form c.args.stacks.now c.undo_unary-in-UnnamedExclamation.new.stacks c.undo_unary-in-UnnamedExclamation.result c.in-UnnamedExclamation.is c.undo_unary-in-UnnamedExclamation.ensures

pub undo_aggregate-requires : goal.undo_aggregate-requires
undo_aggregate-requires c = subst (λ f. Ready (body_in_expression f) c.args.stacks.now) c.in-UnnamedSum.is c.requires

pub returns-in-UnnamedSum : goal.returns-in-UnnamedSum
returns-in-UnnamedSum c = as_form c.args.stacks.now c.undo_aggregate.new.stacks c.undo_aggregate.result c.in-UnnamedSum.is c.undo_aggregate.ensures

pub undo_aggregate-requires-in-UnnamedAll : goal.undo_aggregate-requires-in-UnnamedAll
undo_aggregate-requires-in-UnnamedAll c = subst (λ f. Ready (body_in_expression f) c.args.stacks.now) c.in-UnnamedAll.is c.requires

pub returns-in-UnnamedAll : goal.returns-in-UnnamedAll
returns-in-UnnamedAll c = as_form c.args.stacks.now c.undo_aggregate-in-UnnamedAll.new.stacks c.undo_aggregate-in-UnnamedAll.result c.in-UnnamedAll.is c.undo_aggregate-in-UnnamedAll.ensures

pub undo_aggregate-requires-in-UnnamedAnd : goal.undo_aggregate-requires-in-UnnamedAnd
undo_aggregate-requires-in-UnnamedAnd c = subst (λ f. Ready (body_in_expression f) c.args.stacks.now) c.in-UnnamedAnd.is c.requires

pub returns-in-UnnamedAnd : goal.returns-in-UnnamedAnd
returns-in-UnnamedAnd c = as_form c.args.stacks.now c.undo_aggregate-in-UnnamedAnd.new.stacks c.undo_aggregate-in-UnnamedAnd.result c.in-UnnamedAnd.is c.undo_aggregate-in-UnnamedAnd.ensures

pub undo_aggregate-requires-in-UnnamedOr : goal.undo_aggregate-requires-in-UnnamedOr
undo_aggregate-requires-in-UnnamedOr c = subst (λ f. Ready (body_in_expression f) c.args.stacks.now) c.in-UnnamedOr.is c.requires

pub returns-in-UnnamedOr : goal.returns-in-UnnamedOr
returns-in-UnnamedOr c = as_form c.args.stacks.now c.undo_aggregate-in-UnnamedOr.new.stacks c.undo_aggregate-in-UnnamedOr.result c.in-UnnamedOr.is c.undo_aggregate-in-UnnamedOr.ensures

pub undo_aggregate-requires-in-UnnamedSetOf : goal.undo_aggregate-requires-in-UnnamedSetOf
undo_aggregate-requires-in-UnnamedSetOf c = subst (λ f. Ready (body_in_expression f) c.args.stacks.now) c.in-UnnamedSetOf.is c.requires

pub returns-in-UnnamedSetOf : goal.returns-in-UnnamedSetOf
returns-in-UnnamedSetOf c = as_form c.args.stacks.now c.undo_aggregate-in-UnnamedSetOf.new.stacks c.undo_aggregate-in-UnnamedSetOf.result c.in-UnnamedSetOf.is c.undo_aggregate-in-UnnamedSetOf.ensures

pub undo_aggregate-requires-in-UnnamedArgMin : goal.undo_aggregate-requires-in-UnnamedArgMin
undo_aggregate-requires-in-UnnamedArgMin c = subst (λ f. Ready (body_in_expression f) c.args.stacks.now) c.in-UnnamedArgMin.is c.requires

pub returns-in-UnnamedArgMin : goal.returns-in-UnnamedArgMin
returns-in-UnnamedArgMin c = as_form c.args.stacks.now c.undo_aggregate-in-UnnamedArgMin.new.stacks c.undo_aggregate-in-UnnamedArgMin.result c.in-UnnamedArgMin.is c.undo_aggregate-in-UnnamedArgMin.ensures

pub undo_aggregate-requires-in-UnnamedArgMax : goal.undo_aggregate-requires-in-UnnamedArgMax
undo_aggregate-requires-in-UnnamedArgMax c = subst (λ f. Ready (body_in_expression f) c.args.stacks.now) c.in-UnnamedArgMax.is c.requires

pub returns-in-UnnamedArgMax : goal.returns-in-UnnamedArgMax
returns-in-UnnamedArgMax c = as_form c.args.stacks.now c.undo_aggregate-in-UnnamedArgMax.new.stacks c.undo_aggregate-in-UnnamedArgMax.result c.in-UnnamedArgMax.is c.undo_aggregate-in-UnnamedArgMax.ensures

pub undo_named_pair-requires : goal.undo_named_pair-requires
undo_named_pair-requires c = subst (λ f. Ready (body_in_expression f) c.args.stacks.now) c.in-PairFirstName.is c.requires

pub returns-in-PairFirstName : goal.returns-in-PairFirstName
returns-in-PairFirstName c = as_form c.args.stacks.now c.undo_named_pair.new.stacks c.undo_named_pair.result c.in-PairFirstName.is c.undo_named_pair.ensures

pub undo_unnamed_pair-requires : goal.undo_unnamed_pair-requires
undo_unnamed_pair-requires c = subst (λ f. Ready (body_in_expression f) c.args.stacks.now) c.in-PairUnnamed.is c.requires

pub returns-in-PairUnnamed : goal.returns-in-PairUnnamed
returns-in-PairUnnamed c = as_form c.args.stacks.now c.undo_unnamed_pair.new.stacks c.undo_unnamed_pair.result c.in-PairUnnamed.is c.undo_unnamed_pair.ensures

pub undo_pair_over-requires : goal.undo_pair_over-requires
undo_pair_over-requires c = subst (λ f. Ready (body_in_expression f) c.args.stacks.now) c.in-PairNamedIn.is c.requires

pub returns-in-PairNamedIn : goal.returns-in-PairNamedIn
returns-in-PairNamedIn c = as_form c.args.stacks.now c.undo_pair_over.new.stacks c.undo_pair_over.result c.in-PairNamedIn.is c.undo_pair_over.ensures

pub undo_pair_two-requires : goal.undo_pair_two-requires
undo_pair_two-requires c = subst (λ f. Ready (body_in_expression f) c.args.stacks.now) c.in-PairNamedCalled.is c.requires

pub returns-in-PairNamedCalled : goal.returns-in-PairNamedCalled
returns-in-PairNamedCalled c = as_form c.args.stacks.now c.undo_pair_two.new.stacks c.undo_pair_two.result c.in-PairNamedCalled.is c.undo_pair_two.ensures

pub returns-in-LiteralNumber : goal.returns-in-LiteralNumber
returns-in-LiteralNumber c =
    let r = subst (λ f. Ready (body_in_expression f) c.args.stacks.now) c.in-LiteralNumber.is c.requires in
    subst (λ z. Undone (part_in_expression z) (body_in_expression z) (Made z) c.args.stacks.now c.args.stacks.now) (sym c.in-LiteralNumber.is) (r.0, r.1, r.2, (r.0, refl, (r.2, refl)))

pub undo_truth-requires : goal.undo_truth-requires
undo_truth-requires c = subst (λ f. Ready (body_in_expression f) c.args.stacks.now) c.in-LiteralTrue.is c.requires

pub returns-in-LiteralTrue : goal.returns-in-LiteralTrue
returns-in-LiteralTrue c = as_form c.args.stacks.now c.undo_truth.new.stacks c.undo_truth.result c.in-LiteralTrue.is c.undo_truth.ensures

pub undo_truth-requires-in-LiteralFalse : goal.undo_truth-requires-in-LiteralFalse
undo_truth-requires-in-LiteralFalse c = subst (λ f. Ready (body_in_expression f) c.args.stacks.now) c.in-LiteralFalse.is c.requires

pub returns-in-LiteralFalse : goal.returns-in-LiteralFalse
returns-in-LiteralFalse c = as_form c.args.stacks.now c.undo_truth-in-LiteralFalse.new.stacks c.undo_truth-in-LiteralFalse.result c.in-LiteralFalse.is c.undo_truth-in-LiteralFalse.ensures

pub undo_parentheses-requires : goal.undo_parentheses-requires
undo_parentheses-requires c = subst (λ f. Ready (body_in_expression f) c.args.stacks.now) c.in-LiteralLeftParenthesis.is c.requires

pub returns-in-LiteralLeftParenthesis : goal.returns-in-LiteralLeftParenthesis
returns-in-LiteralLeftParenthesis c = as_form c.args.stacks.now c.undo_parentheses.new.stacks c.undo_parentheses.result c.in-LiteralLeftParenthesis.is c.undo_parentheses.ensures

pub undo_list-requires : goal.undo_list-requires
undo_list-requires c = subst (λ f. Ready (body_in_expression f) c.args.stacks.now) c.in-LiteralLeftBracket.is c.requires

pub returns-in-LiteralLeftBracket : goal.returns-in-LiteralLeftBracket
returns-in-LiteralLeftBracket c = as_form c.args.stacks.now c.undo_list.new.stacks c.undo_list.result c.in-LiteralLeftBracket.is c.undo_list.ensures

pub undo_extreme-requires : goal.undo_extreme-requires
undo_extreme-requires c = subst (λ f. Ready (body_in_expression f) c.args.stacks.now) c.in-ExtremeMin.is c.requires

pub returns-in-ExtremeMin : goal.returns-in-ExtremeMin
returns-in-ExtremeMin c = as_form c.args.stacks.now c.undo_extreme.new.stacks c.undo_extreme.result c.in-ExtremeMin.is c.undo_extreme.ensures

pub undo_extreme-requires-in-ExtremeMax : goal.undo_extreme-requires-in-ExtremeMax
undo_extreme-requires-in-ExtremeMax c = subst (λ f. Ready (body_in_expression f) c.args.stacks.now) c.in-ExtremeMax.is c.requires

pub returns-in-ExtremeMax : goal.returns-in-ExtremeMax
returns-in-ExtremeMax c = as_form c.args.stacks.now c.undo_extreme-in-ExtremeMax.new.stacks c.undo_extreme-in-ExtremeMax.result c.in-ExtremeMax.is c.undo_extreme-in-ExtremeMax.ensures

pub undo_named-requires-in-PostfixName : goal.undo_named-requires-in-PostfixName
undo_named-requires-in-PostfixName c = subst (λ f. Ready (body_in_expression f) c.args.stacks.now) c.in-PostfixName.is c.requires

pub returns-in-PostfixName : goal.returns-in-PostfixName
returns-in-PostfixName c = as_form c.args.stacks.now c.undo_named-in-PostfixName.new.stacks c.undo_named-in-PostfixName.result c.in-PostfixName.is c.undo_named-in-PostfixName.ensures

pub undo_suffixed-requires-in-PostfixLiteral : goal.undo_suffixed-requires-in-PostfixLiteral
undo_suffixed-requires-in-PostfixLiteral c = subst (λ f. Ready (body_in_expression f) c.args.stacks.now) c.in-PostfixLiteral.is c.requires

pub returns-in-PostfixLiteral : goal.returns-in-PostfixLiteral
returns-in-PostfixLiteral c = as_form c.args.stacks.now c.undo_suffixed-in-PostfixLiteral.new.stacks c.undo_suffixed-in-PostfixLiteral.result c.in-PostfixLiteral.is c.undo_suffixed-in-PostfixLiteral.ensures

pub undo_set-requires-in-PostfixLeftBrace : goal.undo_set-requires-in-PostfixLeftBrace
undo_set-requires-in-PostfixLeftBrace c = subst (λ f. Ready (body_in_expression f) c.args.stacks.now) c.in-PostfixLeftBrace.is c.requires

pub returns-in-PostfixLeftBrace : goal.returns-in-PostfixLeftBrace
returns-in-PostfixLeftBrace c = as_form c.args.stacks.now c.undo_set-in-PostfixLeftBrace.new.stacks c.undo_set-in-PostfixLeftBrace.result c.in-PostfixLeftBrace.is c.undo_set-in-PostfixLeftBrace.ensures

pub undo_suffixed-requires-in-PostfixExtreme : goal.undo_suffixed-requires-in-PostfixExtreme
undo_suffixed-requires-in-PostfixExtreme c = subst (λ f. Ready (body_in_expression f) c.args.stacks.now) c.in-PostfixExtreme.is c.requires

pub returns-in-PostfixExtreme : goal.returns-in-PostfixExtreme
returns-in-PostfixExtreme c = as_form c.args.stacks.now c.undo_suffixed-in-PostfixExtreme.new.stacks c.undo_suffixed-in-PostfixExtreme.result c.in-PostfixExtreme.is c.undo_suffixed-in-PostfixExtreme.ensures

pub returns-in-CalledNone : goal.returns-in-CalledNone
returns-in-CalledNone c = as_form c.args.stacks.now c.undo_no_call.new.stacks c.undo_no_call.result c.in-CalledNone.is c.undo_no_call.ensures

pub undo_called-requires : goal.undo_called-requires
undo_called-requires c = subst (λ f. Ready (body_in_expression f) c.args.stacks.now) c.in-CalledLeftParenthesis.is c.requires

pub returns-in-CalledLeftParenthesis : goal.returns-in-CalledLeftParenthesis
returns-in-CalledLeftParenthesis c = as_form c.args.stacks.now c.undo_called.new.stacks c.undo_called.result c.in-CalledLeftParenthesis.is c.undo_called.ensures

pub returns-in-SuffixesNone : goal.returns-in-SuffixesNone
returns-in-SuffixesNone c = as_form c.args.stacks.now c.undo_no_suffixes.new.stacks c.undo_no_suffixes.result c.in-SuffixesNone.is c.undo_no_suffixes.ensures

pub undo_index-requires : goal.undo_index-requires
undo_index-requires c = subst (λ f. Ready (body_in_expression f) c.args.stacks.now) c.in-SuffixesLeftBracket.is c.requires

pub returns-in-SuffixesLeftBracket : goal.returns-in-SuffixesLeftBracket
returns-in-SuffixesLeftBracket c = as_form c.args.stacks.now c.undo_index.new.stacks c.undo_index.result c.in-SuffixesLeftBracket.is c.undo_index.ensures

pub undo_method-requires : goal.undo_method-requires
undo_method-requires c = subst (λ f. Ready (body_in_expression f) c.args.stacks.now) c.in-SuffixesDot.is c.requires

pub returns-in-SuffixesDot : goal.returns-in-SuffixesDot
returns-in-SuffixesDot c = as_form c.args.stacks.now c.undo_method.new.stacks c.undo_method.result c.in-SuffixesDot.is c.undo_method.ensures

pub returns-in-SecondNone : goal.returns-in-SecondNone
returns-in-SecondNone c = as_form c.args.stacks.now c.undo_no_second.new.stacks c.undo_no_second.result c.in-SecondNone.is c.undo_no_second.ensures

pub undo_second-requires : goal.undo_second-requires
undo_second-requires c = subst (λ f. Ready (body_in_expression f) c.args.stacks.now) c.in-SecondComma.is c.requires

pub returns-in-SecondComma : goal.returns-in-SecondComma
returns-in-SecondComma c = as_form c.args.stacks.now c.undo_second.new.stacks c.undo_second.result c.in-SecondComma.is c.undo_second.ensures

pub returns-in-ArgumentsNone : goal.returns-in-ArgumentsNone
returns-in-ArgumentsNone c = as_form c.args.stacks.now c.undo_no_arguments.new.stacks c.undo_no_arguments.result c.in-ArgumentsNone.is c.undo_no_arguments.ensures

pub returns-in-ArgumentsListed : goal.returns-in-ArgumentsListed
returns-in-ArgumentsListed c =
    let r = subst (λ f. Ready (body_in_expression f) c.args.stacks.now) c.in-ArgumentsListed.is c.requires in
    subst (λ z. Undone (part_in_expression z) (body_in_expression z) (Made z) c.args.stacks.now c.args.stacks.now) (sym c.in-ArgumentsListed.is) (r.0, r.1, r.2, (r.0, refl, (r.2, refl)))

pub undo_listed-requires : goal.undo_listed-requires
undo_listed-requires c = subst (λ f. Ready (body_in_expression f) c.args.stacks.now) c.in-ListedArgument.is c.requires

pub returns-in-ListedArgument : goal.returns-in-ListedArgument
returns-in-ListedArgument c = as_form c.args.stacks.now c.undo_listed.new.stacks c.undo_listed.result c.in-ListedArgument.is c.undo_listed.ensures

pub returns-in-ArgumentsTailNone : goal.returns-in-ArgumentsTailNone
returns-in-ArgumentsTailNone c = as_form c.args.stacks.now c.undo_no_arguments-in-ArgumentsTailNone.new.stacks c.undo_no_arguments-in-ArgumentsTailNone.result c.in-ArgumentsTailNone.is c.undo_no_arguments-in-ArgumentsTailNone.ensures

pub undo_more_arguments-requires : goal.undo_more_arguments-requires
undo_more_arguments-requires c = subst (λ f. Ready (body_in_expression f) c.args.stacks.now) c.in-ArgumentsTailComma.is c.requires

pub returns-in-ArgumentsTailComma : goal.returns-in-ArgumentsTailComma
returns-in-ArgumentsTailComma c = as_form c.args.stacks.now c.undo_more_arguments.new.stacks c.undo_more_arguments.result c.in-ArgumentsTailComma.is c.undo_more_arguments.ensures

pub undo_argument-requires : goal.undo_argument-requires
undo_argument-requires c = subst (λ f. Ready (body_in_expression f) c.args.stacks.now) c.in-ArgumentExpression.is c.requires

pub returns-in-ArgumentExpression : goal.returns-in-ArgumentExpression
returns-in-ArgumentExpression c = as_form c.args.stacks.now c.undo_argument.new.stacks c.undo_argument.result c.in-ArgumentExpression.is c.undo_argument.ensures

pub undo_string-requires : goal.undo_string-requires
undo_string-requires c = subst (λ f. Ready (body_in_expression f) c.args.stacks.now) c.in-ArgumentString.is c.requires

pub returns-in-ArgumentString : goal.returns-in-ArgumentString
returns-in-ArgumentString c = as_form c.args.stacks.now c.undo_string.new.stacks c.undo_string.result c.in-ArgumentString.is c.undo_string.ensures
