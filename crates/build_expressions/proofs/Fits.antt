-- What is made of the values of each form of expressions is written as the form and its values.
use Rattle.std.specs.Prelude.{List, [], ◌∷◌, map, reverse, refl}
use Rattle.std.proofs.Common.{sym, ◌∙◌, ap, subst, inl, inr}
use Rattle.comet_syntax.specs.declared.token.Word.TheVariants as words
use Rattle.comet_syntax.specs.declared.tree.expressions.Comparison.TheVariants as comparisons
use Rattle.comet_syntax.specs.declared.tree.expressions.Extreme.TheVariants as extremes
use Rattle.comet_syntax.specs.Grammar.Symbols as grammar
use Rattle.comet_syntax.specs.Grammar.Expressions as bodies
use Rattle.comet_syntax.specs.Written.Shown.{Grows, each, form, mark, name, word}
use Rattle.comet_syntax.specs.Written.Expressions.{arguments_text, at_operand, at_product, by_brace, by_extreme, by_literal, generators_behind, listed_text, more_argument, option_value, parenthesized, set_of, two_apart, two_in_pair, whole, written, written_argument, written_generator}
use Rattle.parse_machine.specs.declared.form.ExpressionForm.{ExpressionForm}
use Rattle.parse_machine.specs.declared.form.ExpressionForm.TheVariants as forms
use Rattle.parse_machine.specs.Forms.{body_in_expression, part_in_expression}
use Rattle.parse_stacks.specs.Levels.{IsAdding, IsConjoining, IsDisjoining, IsMultiplying, IsOperand, after_text, closed_suffixes}
use Rattle.parse_stacks.specs.Standing.{Fits}
use Rattle.parse_stacks.specs.Texts.{IsLiteral, PairRestLevel, StartsRight, branches_text, called_text, compared_text, extreme_text, links_text, literal_text, pair_rest_text, pair_text, up_to_text}
use Rattle.parse_stacks.proofs.GoingOn.{comparison_level_goes, conjunction_level_goes, named_goes, raised_goes}
use Rattle.parse_stacks.proofs.Trees.{written_argument_expression, written_argument_str}
use Rattle.build_expressions.specs.Made.{Made}
use Rattle.build_expressions.specs.MadeLevels.{behind_of}
use Rattle.build_expressions.proofs.Fitting.{aggregate_fits, begun_fits, compared_fits, goes_text, joined_starts, joined_text, listed_fits, no_links, number_fits, operand_named, pair_fits, postfix_named, postfix_suffixed, product_text, two_fits, unnamed_operand, unnamed_other, unnamed_suffixed, up_to_fits}

pub fits : (f : ExpressionForm) → Fits (part_in_expression f) (body_in_expression f) (Made f)
fits forms.ExpressionOperand (o, (p, (t, (u, (c, (k, (d, (b, end)))))))) x l m =
    let s : StartsRight (behind_of p t u c k d b) = record { product = l.1.0; total = l.1.1.0; conjunction = l.1.1.1.1.1.0; disjunction = l.1.1.1.1.1.1.0 } in
    (tt, λ Y. ap (λ z. form grammar.expression bodies.expression_operand ∷ z) (goes_text (raised_goes (written o) (behind_of p t u c k d b) l.0 s) Y) ∙ ap (λ z. whole z Y) (sym m))
fits forms.BranchesNone v x l m = (tt, λ Y. ap (λ z. branches_text z Y) (sym m))
fits forms.BranchesQuestion v x l m = (tt, λ Y. ap (λ z. branches_text z Y) (sym m))
fits forms.OrTailNone v x l m = no_links grammar.or_tail IsDisjoining x m
fits forms.OrTailOrOr (place, (o, (p, (t, (u, (c, (k, (more, end)))))))) x l m =
    let g = conjunction_level_goes (written o) p t u c k l.1.0 l.1.1.0 l.1.1.1.0 l.1.1.1.1.1.1.0 in (
      joined_starts IsDisjoining _ more x m refl,
      λ Y. ap (λ z. form grammar.or_tail bodies.or_tail_or_or ∷ mark words.OrOr place z) (goes_text g (links_text grammar.or_tail more Y)) ∙ joined_text grammar.or_tail _ more x m Y,
    )
fits forms.AndTailNone v x l m = no_links grammar.and_tail IsConjoining x m
fits forms.AndTailAndAnd (place, (o, (p, (t, (u, (c, (more, end))))))) x l m =
    let g = comparison_level_goes (written o) p t u c l.1.0 l.1.1.0 l.1.1.1.0 in (
      joined_starts IsConjoining _ more x m refl,
      λ Y. ap (λ z. form grammar.and_tail bodies.and_tail_and_and ∷ mark words.AndAnd place z) (goes_text g (links_text grammar.and_tail more Y)) ∙ joined_text grammar.and_tail _ more x m Y,
    )
fits forms.ComparisonTailNone v x l m = (tt, λ Y. ap (λ z. compared_text z Y) (sym m))
fits forms.ComparisonTailEqualEqual (place, (o, (p, (t, (u, end))))) x l m = (tt, λ Y. compared_fits comparisons.Equal place o p t u m.0 m.2 l.1.0 l.1.1.0 l.1.1.1.0 Y ∙ ap (λ z. compared_text z Y) (sym m.1))
fits forms.ComparisonTailNotEqual (place, (o, (p, (t, (u, end))))) x l m = (tt, λ Y. compared_fits comparisons.NotEqual place o p t u m.0 m.2 l.1.0 l.1.1.0 l.1.1.1.0 Y ∙ ap (λ z. compared_text z Y) (sym m.1))
fits forms.ComparisonTailLess (place, (o, (p, (t, (u, end))))) x l m = (tt, λ Y. compared_fits comparisons.Less place o p t u m.0 m.2 l.1.0 l.1.1.0 l.1.1.1.0 Y ∙ ap (λ z. compared_text z Y) (sym m.1))
fits forms.ComparisonTailLessEqual (place, (o, (p, (t, (u, end))))) x l m = (tt, λ Y. compared_fits comparisons.LessEqual place o p t u m.0 m.2 l.1.0 l.1.1.0 l.1.1.1.0 Y ∙ ap (λ z. compared_text z Y) (sym m.1))
fits forms.ComparisonTailGreater (place, (o, (p, (t, (u, end))))) x l m = (tt, λ Y. compared_fits comparisons.Greater place o p t u m.0 m.2 l.1.0 l.1.1.0 l.1.1.1.0 Y ∙ ap (λ z. compared_text z Y) (sym m.1))
fits forms.ComparisonTailGreaterEqual (place, (o, (p, (t, (u, end))))) x l m = (tt, λ Y. compared_fits comparisons.GreaterEqual place o p t u m.0 m.2 l.1.0 l.1.1.0 l.1.1.1.0 Y ∙ ap (λ z. compared_text z Y) (sym m.1))
fits forms.RangeTailNone v x l m = (tt, λ Y. ap (λ z. up_to_text z Y) (sym m))
fits forms.RangeTailDotDot (place, (o, (p, (t, end)))) x l m = (tt, λ Y. up_to_fits place o p t m.0 m.2 l.1.0 l.1.1.0 l.1.1.1.0 Y ∙ ap (λ z. up_to_text z Y) (sym m.1))
fits forms.TotalTailNone v x l m = no_links grammar.total_tail IsAdding x m
fits forms.TotalTailPlus (place, (o, (p, (more, end)))) x l m = (
  joined_starts IsAdding _ more x m (inl refl),
  λ Y. ap (λ z. form grammar.total_tail bodies.total_tail_plus ∷ mark words.Plus place z) (product_text o p l.1.0 l.1.1.0 (links_text grammar.total_tail more Y)) ∙ joined_text grammar.total_tail _ more x m Y,
)
fits forms.TotalTailMinus (place, (o, (p, (more, end)))) x l m = (
  joined_starts IsAdding _ more x m (inr refl),
  λ Y. ap (λ z. form grammar.total_tail bodies.total_tail_minus ∷ mark words.Minus place z) (product_text o p l.1.0 l.1.1.0 (links_text grammar.total_tail more Y)) ∙ joined_text grammar.total_tail _ more x m Y,
)
fits forms.ProductTailNone v x l m = no_links grammar.product_tail IsMultiplying x m
fits forms.ProductTailStar (place, (o, (more, end))) x l m = (joined_starts IsMultiplying _ more x m (inl refl), λ Y. joined_text grammar.product_tail _ more x m Y)
fits forms.ProductTailSlash (place, (o, (more, end))) x l m = (joined_starts IsMultiplying _ more x m (inr (inl refl)), λ Y. joined_text grammar.product_tail _ more x m Y)
fits forms.ProductTailPercent (place, (o, (more, end))) x l m = (joined_starts IsMultiplying _ more x m (inr (inr refl)), λ Y. joined_text grammar.product_tail _ more x m Y)
fits forms.OperandName (n, (c, (s, end))) x l m =
    let g = operand_named n c s x m in
    (g.0, λ Y. ap (λ z. form grammar.operand bodies.operand_name ∷ name n z) ((named_goes n c s).rest Y) ∙ g.1 Y)
fits forms.OperandUnnamed (e, end) x l m = (
  subst (λ z. IsOperand (written z)) (sym m) l.0.level,
  λ Y. unnamed_operand (written e).head l.0.by l.0.head_is ((written e).operand_rest Y) ∙ ap (λ z. at_operand (written z) Y) (sym m),
)
fits forms.UnnamedLiteral (e, (s, end)) x l m =
    let g = unnamed_suffixed (written e) (by_literal l.0.text) (λ behind. behind) s (written x) l.0.is m in
    (g.0, λ Y. ap (λ z. form grammar.unnamed bodies.unnamed_literal ∷ literal_text z.head (closed_suffixes (reverse s.items) Y)) l.0.is ∙ g.1 Y)
fits forms.UnnamedLeftBrace (place, (all, (brace, (s, end)))) x l m =
    unnamed_suffixed (set_of place (map written_argument (reverse all.items))) (by_brace place (λ behind. listed_text (map written_argument (reverse all.items)) (word words.RightBrace behind))) (λ behind. behind) s
    (written x) refl m
fits forms.UnnamedMin (place, (left, (q, end))) x l m = pair_fits extremes.Min place q (written x) m
fits forms.UnnamedMax (place, (left, (q, end))) x l m = pair_fits extremes.Max place q (written x) m
fits forms.UnnamedMinus (place, (o, end)) x l m = unnamed_other (λ behind. form grammar.unnamed bodies.unnamed_minus ∷ mark words.Minus place (at_operand (written o) behind)) (written x) m
fits forms.UnnamedExclamation (place, (o, end)) x l m = unnamed_other (λ behind. form grammar.unnamed bodies.unnamed_exclamation ∷ mark words.Exclamation place (at_operand (written o) behind)) (written x) m
fits forms.UnnamedSum (place, (left, (g, (right, (o, (p, end)))))) x l m = aggregate_fits bodies.unnamed_sum words.Sum place g o p (written x) l.1.1.1.1.0 l.1.1.1.1.1.0 m
fits forms.UnnamedAll (place, (left, (g, (right, (o, (p, end)))))) x l m = aggregate_fits bodies.unnamed_all words.All place g o p (written x) l.1.1.1.1.0 l.1.1.1.1.1.0 m
fits forms.UnnamedAnd (place, (left, (g, (right, (o, (p, end)))))) x l m = aggregate_fits bodies.unnamed_and words.And place g o p (written x) l.1.1.1.1.0 l.1.1.1.1.1.0 m
fits forms.UnnamedOr (place, (left, (g, (right, (o, (p, end)))))) x l m = aggregate_fits bodies.unnamed_or words.Or place g o p (written x) l.1.1.1.1.0 l.1.1.1.1.1.0 m
fits forms.UnnamedSetOf (place, (left, (g, (right, (o, (p, end)))))) x l m = aggregate_fits bodies.unnamed_set_of words.SetOf place g o p (written x) l.1.1.1.1.0 l.1.1.1.1.1.0 m
fits forms.UnnamedArgMin (place, (left, (g, (right, (o, (p, end)))))) x l m = aggregate_fits bodies.unnamed_arg_min words.ArgMin place g o p (written x) l.1.1.1.1.0 l.1.1.1.1.1.0 m
fits forms.UnnamedArgMax (place, (left, (g, (right, (o, (p, end)))))) x l m = aggregate_fits bodies.unnamed_arg_max words.ArgMax place g o p (written x) l.1.1.1.1.0 l.1.1.1.1.1.0 m
fits forms.PairFirstName (n, (r, end)) x l m = (tt, λ Y. begun_fits n r x l.1.0 m Y)
fits forms.PairUnnamed (o, (p, (t, (u, (c, (k, (d, (b, (comma, (right, (parenthesis, (s, end)))))))))))) x l m =
    let starts : StartsRight (behind_of p t u c k d b) = record { product = l.1.0; total = l.1.1.0; conjunction = l.1.1.1.1.1.0; disjunction = l.1.1.1.1.1.1.0 } in
    (tt, λ Y. two_fits o (behind_of p t u c k d b) m.0 right s l.0 starts m.2 Y ∙ ap (λ z. pair_text z Y) (sym m.1))
fits forms.PairNamedIn (word_in, (domain, (more, (condition, (parenthesis, (o, (p, end))))))) x l m = (
  subst PairRestLevel (sym m.1) tt,
  λ Y. ap (λ z. form grammar.pair_named bodies.pair_named_in ∷ word words.In (whole (written domain) (generators_behind (map written_generator (reverse more.items)) (option_value written condition)
      (word words.RightParenthesis z)))) (product_text o p l.1.1.1.1.1.0 l.1.1.1.1.1.1.0 Y ∙ ap (λ z. at_product z Y) (sym m.2)) ∙ ap (λ z. pair_rest_text z Y) (sym m.1),
)
fits forms.PairNamedCalled (called, (inner, (p, (t, (u, (c, (k, (d, (b, (comma, (right, (parenthesis, (s, end))))))))))))) x l m =
    let starts : StartsRight (behind_of p t u c k d b) = record { product = l.1.1.0; total = l.1.1.1.0; conjunction = l.1.1.1.1.1.1.0; disjunction = l.1.1.1.1.1.1.1.0 } in
    (subst PairRestLevel (sym m) starts, λ Y. ap (λ z. pair_rest_text z Y) (sym m))
fits forms.LiteralNumber (e, end) x l m =
    let is_literal : IsLiteral (written e) = record { text = _; is = l.0.2 } in
    (subst (λ z. IsLiteral (written z)) (sym m) is_literal, λ Y. number_fits (written e) l.0.0 l.0.1 l.0.2 Y ∙ ap (λ z. literal_text (written z).head Y) (sym m))
fits forms.LiteralTrue v x l m = (record { text = _; is = m }, λ Y. ap (λ z. literal_text z.head Y) (sym m))
fits forms.LiteralFalse v x l m = (record { text = _; is = m }, λ Y. ap (λ z. literal_text z.head Y) (sym m))
fits forms.LiteralLeftParenthesis v x l m = (record { text = _; is = m }, λ Y. ap (λ z. literal_text z.head Y) (sym m))
fits forms.LiteralLeftBracket v x l m = (record { text = _; is = m }, λ Y. ap (λ z. literal_text z.head Y) (sym m))
fits forms.ExtremeMin (place, (parenthesis, (left, (comma, (right, (closing, end)))))) x l m =
    (record { extreme = extremes.Min; place = place; left = written left; right = written right; is = m }, λ Y. ap (λ z. extreme_text z.head Y) (sym m))
fits forms.ExtremeMax (place, (parenthesis, (left, (comma, (right, (closing, end)))))) x l m =
    (record { extreme = extremes.Max; place = place; left = written left; right = written right; is = m }, λ Y. ap (λ z. extreme_text z.head Y) (sym m))
fits forms.PostfixName (n, (c, (s, end))) x l m = (tt, λ Y. ap (λ z. form grammar.postfix bodies.postfix_name ∷ name n z) ((named_goes n c s).rest Y) ∙ postfix_named n c s x m Y)
fits forms.PostfixLiteral (e, (s, end)) x l m = (
  tt,
  λ Y. ap (λ z. form grammar.postfix bodies.postfix_literal ∷ literal_text z.head (closed_suffixes (reverse s.items) Y)) l.0.is
      ∙ postfix_suffixed (written e) (by_literal l.0.text) (λ behind. behind) s (written x) l.0.is m Y,
)
fits forms.PostfixLeftBrace (place, (all, (brace, (s, end)))) x l m = (
  tt,
  λ Y. postfix_suffixed (set_of place (map written_argument (reverse all.items))) (by_brace place (λ behind. listed_text (map written_argument (reverse all.items)) (word words.RightBrace behind))) (λ behind. behind) s
      (written x) refl m Y,
)
fits forms.PostfixExtreme (e, (s, end)) x l m = (
  tt,
  λ Y. ap (λ z. form grammar.postfix bodies.postfix_extreme ∷ extreme_text z.head (closed_suffixes (reverse s.items) Y)) l.0.is
      ∙ postfix_suffixed (written e) (by_extreme l.0.extreme l.0.place (two_in_pair l.0.left l.0.right) (two_apart l.0.left l.0.right)) (λ behind. behind) s (written x) l.0.is m Y,
)
fits forms.CalledNone v x l m = (tt, λ Y. ap (λ z. called_text z Y) (sym m))
fits forms.CalledLeftParenthesis v x l m = (
  tt,
  λ Y. ap (λ z. form grammar.called bodies.called_left_parenthesis ∷ parenthesized (map written_argument z) Y) (sym m.2) ∙ ap (λ z. called_text z Y) (sym m.1),
)
fits forms.SuffixesNone v x l m = (tt, λ Y. ap (λ z. closed_suffixes (reverse z) Y) (sym m))
fits forms.SuffixesLeftBracket v x l m = (tt, λ Y. ap (λ (z : List Grows). each (λ y. y) z (form grammar.suffixes [] ∷ Y)) (sym m))
fits forms.SuffixesDot v x l m = (tt, λ Y. ap (λ (z : List Grows). each (λ y. y) z (form grammar.suffixes [] ∷ Y)) (sym m))
fits forms.SecondNone v x l m = (tt, λ Y. ap (λ z. after_text grammar.second words.Comma (option_value written z) Y) (sym m))
fits forms.SecondComma v x l m = (tt, λ Y. ap (λ z. after_text grammar.second words.Comma (option_value written z) Y) (sym m))
fits forms.ArgumentsNone v x l m = (tt, λ Y. ap (λ z. arguments_text (map written_argument (reverse z)) Y) (sym m))
fits forms.ArgumentsListed (all, end) x l m = (
  tt,
  λ Y. listed_fits (reverse all.items) l.0.first l.0.more l.0.is Y ∙ ap (λ z. arguments_text (map written_argument (reverse z.items)) Y) (sym m),
)
fits forms.ListedArgument (a, (more, end)) x l m = (record { first = a; more = reverse more.items; is = m }, λ Y. ap (λ z. listed_text (map written_argument z) Y) (sym m))
fits forms.ArgumentsTailNone v x l m = (tt, λ Y. ap (λ z. each more_argument (map written_argument (reverse z)) (form grammar.arguments_tail [] ∷ Y)) (sym m))
fits forms.ArgumentsTailComma v x l m = (tt, λ Y. ap (λ z. each more_argument (map written_argument z) (form grammar.arguments_tail [] ∷ Y)) (sym m))
fits forms.ArgumentExpression (e, end) x l m = (tt, λ Y. ap (λ z. z Y) (sym (written_argument_expression e)) ∙ ap (λ z. written_argument z Y) (sym m))
fits forms.ArgumentString (t, end) x l m = (tt, λ Y. ap (λ z. z Y) (sym (written_argument_str t)) ∙ ap (λ z. written_argument z Y) (sym m))
