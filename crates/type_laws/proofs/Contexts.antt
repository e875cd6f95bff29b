-- What stands in a pure place is pure.
use Rattle.std.specs.Prelude.{◌≡◌, refl, Bool, true, false, List, [], ◌∷◌, Option, None, Some, if◌then◌else◌}
use Rattle.comet_syntax.specs.declared.tree.expressions.UnaryOperator.{UnaryOperator}
use Rattle.comet_syntax.specs.declared.tree.expressions.UnaryOperator.TheVariants as unaries
use Rattle.checked_tree.specs.declared.expressions.Method.{Method}
use Rattle.checked_tree.specs.declared.expressions.Method.TheVariants as methods
use Rattle.checked_tree.specs.Shape.{Seen}
use Rattle.type_rules.specs.declared.context.Context.{Context}
use Rattle.type_rules.specs.declared.context.Context.TheVariants as context
use Rattle.type_rules.specs.Rules.{is_pure, inner, inside, made_pure, is_logical}
use Rattle.type_calls.specs.Methods.{first_context}
use Rattle.type_expressions.specs.Expressions.{Linked, operand_context, first_operator_context, argument_context}

pub inner_pure : (c : Context) → is_pure c ≡ true → is_pure (inner c) ≡ true
inner_pure context.Plain h = h
inner_pure context.Pure h = h
inner_pure context.Term h = h
inner_pure context.Constraint h = refl
inner_pure context.Posted h = refl

pub inside_pure : (c : Context) → is_pure c ≡ true → is_pure (inside c) ≡ true
inside_pure context.Plain h = h
inside_pure context.Pure h = h
inside_pure context.Term h = h
inside_pure context.Constraint h = h
inside_pure context.Posted h = refl

pub made_pure_pure : (c : Context) → is_pure (made_pure c) ≡ true
made_pure_pure context.Plain = refl
made_pure_pure context.Pure = refl
made_pure_pure context.Term = refl
made_pure_pure context.Constraint = refl
made_pure_pure context.Posted = refl

pub either_pure : (b : Bool) (c : Context) → is_pure c ≡ true → is_pure (if b then inside c else inner c) ≡ true
either_pure true c h = inside_pure c h
either_pure false c h = inner_pure c h

pub operand_pure : (o : UnaryOperator) (c : Context) → is_pure c ≡ true → is_pure (operand_context o c) ≡ true
operand_pure unaries.Negative c h = inner_pure c h
operand_pure unaries.Not c h = inside_pure c h

pub first_operator_pure : (ls : List Linked) (c : Context) → is_pure c ≡ true → is_pure (first_operator_context ls c) ≡ true
first_operator_pure [] c h = h
first_operator_pure (l ∷ ls) c h = either_pure (is_logical l.operator) c h

pub argument_pure : (first other : Context) (es : List Seen) → is_pure first ≡ true → is_pure other ≡ true → is_pure (argument_context first other es) ≡ true
argument_pure first other [] f o = f
argument_pure first other (e ∷ es) f o = o

pub first_pure : (m : Option Method) (c : Context) → is_pure c ≡ true → is_pure (first_context m c) ≡ true
first_pure None c h = h
first_pure (Some methods.Close) c h = h
first_pure (Some methods.Post) c h = refl
first_pure (Some methods.Violations) c h = h
first_pure (Some methods.SystemAssignDelta) c h = h
first_pure (Some methods.SystemSwapDelta) c h = h
first_pure (Some methods.ObjectiveAssignDelta) c h = h
first_pure (Some methods.ObjectiveSwapDelta) c h = h
first_pure (Some methods.ObjectiveValue) c h = h
first_pure (Some methods.ObjectiveEvaluation) c h = h
first_pure (Some methods.PostPart) c h = refl
first_pure (Some methods.Draw) c h = h
first_pure (Some methods.ReadInt) c h = h
first_pure (Some methods.HasMove) c h = h
first_pure (Some methods.GetMove) c h = h
first_pure (Some methods.Report) c h = h
first_pure (Some methods.BestValue) c h = h
first_pure (Some methods.HasBest) c h = h
first_pure (Some methods.CopyBest) c h = h
first_pure (Some methods.Stop) c h = h
first_pure (Some methods.IsStopped) c h = h
first_pure (Some methods.Restore) c h = h
first_pure (Some methods.Low) c h = h
first_pure (Some methods.Up) c h = h
first_pure (Some methods.RangeSize) c h = h
first_pure (Some methods.Insert) c h = h
first_pure (Some methods.Delete) c h = h
first_pure (Some methods.Contains) c h = h
first_pure (Some methods.SetSize) c h = h
first_pure (Some methods.ArraySize) c h = h
first_pure (Some methods.Domain) c h = h
