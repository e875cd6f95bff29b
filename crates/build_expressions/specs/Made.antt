-- What is made of the values of each form of expressions.
-- Definitions of this project.
use Rattle.std.specs.Prelude.{[], true, false, None, ◌≡◌}
use Rattle.comet_syntax.specs.declared.tree.expressions.Aggregate.TheVariants as aggregates
use Rattle.comet_syntax.specs.declared.tree.expressions.ChainOperator.TheVariants as chains
use Rattle.comet_syntax.specs.declared.tree.expressions.Comparison.TheVariants as comparisons
use Rattle.comet_syntax.specs.declared.tree.expressions.Extreme.TheVariants as extremes
use Rattle.comet_syntax.specs.declared.tree.expressions.UnaryOperator.TheVariants as unaries
use Rattle.parse_machine.specs.declared.form.ExpressionForm.{ExpressionForm}
use Rattle.parse_machine.specs.declared.form.ExpressionForm.TheVariants as forms
use Rattle.parse_machine.specs.Forms.{body_in_expression, part_in_expression}
use Rattle.parse_stacks.specs.Undoing.{Values}
use Rattle.parse_stacks.specs.Values.{Value}
use Rattle.build_expressions.specs.MadeArguments.{ArgumentMade, CalledMade, IndexMade, ListedMade, MethodMade, MoreArgumentsMade, SecondMade, StringMade}
use Rattle.build_expressions.specs.MadeLevels.{BranchesMade, ComparedMade, ConjunctionMade, DisjunctionMade, ProductMade, TotalMade, UpToMade, WholeMade}
use Rattle.build_expressions.specs.MadeOperands.{AggregateMade, ExtremeMade, ListMade, NamedMade, NamedPairMade, PairMade, PairOverMade, PairTwoMade, ParenthesesMade, SetMade, SuffixedMade, TruthMade, UnaryMade, UnnamedPairMade}

abbrev pub Made : (f : ExpressionForm) → Values (body_in_expression f) → Value (part_in_expression f) → Type 0
Made forms.ExpressionOperand v x = WholeMade v x
Made forms.BranchesNone v x = x ≡ None
Made forms.BranchesQuestion v x = BranchesMade v x
Made forms.OrTailNone v x = x.items ≡ []
Made forms.OrTailOrOr v x = DisjunctionMade v x
Made forms.AndTailNone v x = x.items ≡ []
Made forms.AndTailAndAnd v x = ConjunctionMade v x
Made forms.ComparisonTailNone v x = x ≡ None
Made forms.ComparisonTailEqualEqual v x = ComparedMade comparisons.Equal v x
Made forms.ComparisonTailNotEqual v x = ComparedMade comparisons.NotEqual v x
Made forms.ComparisonTailLess v x = ComparedMade comparisons.Less v x
Made forms.ComparisonTailLessEqual v x = ComparedMade comparisons.LessEqual v x
Made forms.ComparisonTailGreater v x = ComparedMade comparisons.Greater v x
Made forms.ComparisonTailGreaterEqual v x = ComparedMade comparisons.GreaterEqual v x
Made forms.RangeTailNone v x = x ≡ None
Made forms.RangeTailDotDot v x = UpToMade v x
Made forms.TotalTailNone v x = x.items ≡ []
Made forms.TotalTailPlus v x = TotalMade chains.Add v x
Made forms.TotalTailMinus v x = TotalMade chains.Subtract v x
Made forms.ProductTailNone v x = x.items ≡ []
Made forms.ProductTailStar v x = ProductMade chains.Multiply v x
Made forms.ProductTailSlash v x = ProductMade chains.Divide v x
Made forms.ProductTailPercent v x = ProductMade chains.Remainder v x
Made forms.OperandName v x = NamedMade v x
Made forms.OperandUnnamed v x = x ≡ v.0
Made forms.UnnamedLiteral v x = SuffixedMade v x
Made forms.UnnamedLeftBrace v x = SetMade v x
Made forms.UnnamedMin v x = PairMade extremes.Min v x
Made forms.UnnamedMax v x = PairMade extremes.Max v x
Made forms.UnnamedMinus v x = UnaryMade unaries.Negative v x
Made forms.UnnamedExclamation v x = UnaryMade unaries.Not v x
Made forms.UnnamedSum v x = AggregateMade aggregates.Sum v x
Made forms.UnnamedAll v x = AggregateMade aggregates.All v x
Made forms.UnnamedAnd v x = AggregateMade aggregates.And v x
Made forms.UnnamedOr v x = AggregateMade aggregates.Or v x
Made forms.UnnamedSetOf v x = AggregateMade aggregates.SetOf v x
Made forms.UnnamedArgMin v x = AggregateMade aggregates.ArgMin v x
Made forms.UnnamedArgMax v x = AggregateMade aggregates.ArgMax v x
Made forms.PairFirstName v x = NamedPairMade v x
Made forms.PairUnnamed v x = UnnamedPairMade v x
Made forms.PairNamedIn v x = PairOverMade v x
Made forms.PairNamedCalled v x = PairTwoMade v x
Made forms.LiteralNumber v x = x ≡ v.0
Made forms.LiteralTrue v x = TruthMade true v x
Made forms.LiteralFalse v x = TruthMade false v x
Made forms.LiteralLeftParenthesis v x = ParenthesesMade v x
Made forms.LiteralLeftBracket v x = ListMade v x
Made forms.ExtremeMin v x = ExtremeMade extremes.Min v x
Made forms.ExtremeMax v x = ExtremeMade extremes.Max v x
Made forms.PostfixName v x = NamedMade v x
Made forms.PostfixLiteral v x = SuffixedMade v x
Made forms.PostfixLeftBrace v x = SetMade v x
Made forms.PostfixExtreme v x = SuffixedMade v x
Made forms.CalledNone v x = x ≡ None
Made forms.CalledLeftParenthesis v x = CalledMade v x
Made forms.SuffixesNone v x = x.items ≡ []
Made forms.SuffixesLeftBracket v x = IndexMade v x
Made forms.SuffixesDot v x = MethodMade v x
Made forms.SecondNone v x = x ≡ None
Made forms.SecondComma v x = SecondMade v x
Made forms.ArgumentsNone v x = x.items ≡ []
Made forms.ArgumentsListed v x = x ≡ v.0
Made forms.ListedArgument v x = ListedMade v x
Made forms.ArgumentsTailNone v x = x.items ≡ []
Made forms.ArgumentsTailComma v x = MoreArgumentsMade v x
Made forms.ArgumentExpression v x = ArgumentMade v x
Made forms.ArgumentString v x = StringMade v x
