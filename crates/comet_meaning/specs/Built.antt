-- The forms that run by now. A checked program that holds any other one is refused before it runs: monitors, as
-- declarations or as parameters, and `parall`. What a monitor is asked stands only where there is one. A rule of this
-- project.
use Rattle.std.specs.Prelude.{Bool, true, false, ◌&&◌, List, Option, Some, None}
use Rattle.std.specs.List.{list_all}
use Rattle.checked_tree.specs.declared.kind.Kind.{Kind}
use Rattle.checked_tree.specs.declared.kind.Kind.TheVariants as kinds
use Rattle.checked_tree.specs.declared.expressions.Method.{Method}
use Rattle.checked_tree.specs.declared.expressions.Method.TheVariants as methods
use Rattle.checked_tree.specs.Shape as shapes
use Rattle.checked_tree.specs.Shape.{Shape, Seen, whole}
use Rattle.checked_tree.specs.Actions as deeds
use Rattle.checked_tree.specs.Actions.{Deed, Shown, Started, Sized, Varying}
use Rattle.checked_tree.specs.Tasks as works
use Rattle.checked_tree.specs.Tasks.{Work, Counted, Coded, Whole}

-- expressions

abbrev pub is_built_method : Method → Bool
is_built_method methods.Close = true
is_built_method methods.ReadInt = true
is_built_method methods.Low = true
is_built_method methods.Up = true
is_built_method methods.RangeSize = true
is_built_method methods.Insert = true
is_built_method methods.Delete = true
is_built_method methods.Contains = true
is_built_method methods.SetSize = true
is_built_method methods.ArraySize = true
is_built_method methods.Domain = true
is_built_method methods.Post = true
is_built_method methods.Violations = true
is_built_method methods.SystemAssignDelta = true
is_built_method methods.SystemSwapDelta = true
is_built_method methods.ObjectiveAssignDelta = true
is_built_method methods.ObjectiveSwapDelta = true
is_built_method methods.ObjectiveValue = true
is_built_method methods.ObjectiveEvaluation = true
is_built_method methods.PostPart = true
is_built_method methods.Draw = true
is_built_method methods.HasMove = true
is_built_method methods.GetMove = true
is_built_method methods.Restore = true
is_built_method m = false

abbrev pub is_built_expression : Shape → Bool
is_built_expression (shapes.more x xs) = is_built_expression x && is_built_expression xs
is_built_expression (shapes.typed start at kind moving form) = is_built_expression form
is_built_expression (shapes.unary o e) = is_built_expression e
is_built_expression (shapes.parentheses e) = is_built_expression e
is_built_expression (shapes.chain first links) = is_built_expression first && is_built_expression links
is_built_expression (shapes.link o at e) = is_built_expression e
is_built_expression (shapes.compare c a b) = is_built_expression a && is_built_expression b
is_built_expression (shapes.range a b) = is_built_expression a && is_built_expression b
is_built_expression (shapes.conditional c a b) = is_built_expression c && is_built_expression a && is_built_expression b
is_built_expression (shapes.index a i) = is_built_expression a && is_built_expression i
is_built_expression (shapes.cell a i j) = is_built_expression a && is_built_expression i && is_built_expression j
is_built_expression (shapes.list es) = is_built_expression es
is_built_expression (shapes.set es) = is_built_expression es
is_built_expression (shapes.aggregate a gs c body) = is_built_expression gs && is_built_expression c && is_built_expression body
is_built_expression (shapes.generator at slot domain) = is_built_expression domain
is_built_expression (shapes.builtin f es) = is_built_expression es
is_built_expression (shapes.call f es) = is_built_expression es
is_built_expression (shapes.method m o es) = is_built_method m && is_built_expression o && is_built_expression es
is_built_expression form = true

abbrev pub is_built_part : Seen → Bool
is_built_part e = is_built_expression (whole e)

-- the same of what may be left out
abbrev pub is_built_option : {A : Type 0} → (A → Bool) → Option A → Bool
is_built_option f None = true
is_built_option f (Some x) = f x

-- statements that hold no statement

abbrev pub is_started : Started → Bool
is_started x = is_built_part x.value

abbrev pub are_sizes : List Sized → Bool
are_sizes ds = list_all (λ d. is_built_part d.range) ds

abbrev pub is_built_variable : Varying → Bool
is_built_variable v = are_sizes v.dimensions && is_built_option is_built_part v.domain && is_built_option is_started v.start

abbrev pub is_built_object : Kind → Bool
is_built_object kinds.Input = true
is_built_object kinds.Solver = true
is_built_object kinds.System = true
is_built_object kinds.Objective = true
is_built_object kinds.Total = true
is_built_object kinds.Distribution = true
is_built_object kinds.Selector = true
is_built_object kinds.Solution = true
is_built_object k = false

abbrev pub is_built_shown : Shown → Bool
is_built_shown (deeds.value e) = is_built_part e
is_built_shown x = true

abbrev pub is_built_deed : Deed → Bool
is_built_deed deeds.nothing = true
is_built_deed (deeds.declaring slot k e) = is_built_option is_built_part e
is_built_deed (deeds.declaring_array slot k ds x) = are_sizes ds && is_built_option is_started x
is_built_deed (deeds.declaring_variable v) = is_built_variable v
is_built_deed (deeds.making slot k es) = is_built_object k && list_all is_built_part es
is_built_deed (deeds.writing o t e) = is_built_part t && is_built_part e
is_built_deed (deeds.swapping a b) = is_built_part a && is_built_part b
is_built_deed (deeds.stepping x t) = is_built_part t
is_built_deed (deeds.doing e) = is_built_part e
is_built_deed (deeds.choosing e) = is_built_part e
is_built_deed (deeds.printing xs) = list_all is_built_shown xs
is_built_deed (deeds.returning e) = is_built_option is_built_part e

-- statements in statements

abbrev pub is_built_work : Work → Bool
is_built_work works.no_more = true
is_built_work (works.more w ws) = is_built_work w && is_built_work ws
is_built_work (works.task at w) = is_built_work w
is_built_work (works.action d) = is_built_deed d
is_built_work (works.block ws) = is_built_work ws
is_built_work (works.when e a) = is_built_part e && is_built_work a
is_built_work (works.when_else e a b) = is_built_part e && is_built_work a && is_built_work b
is_built_work (works.loop e body) = is_built_part e && is_built_work body
is_built_work (works.counting c e d body) =
    is_built_option (λ x. is_built_part x.start) c && is_built_option is_built_part e && is_built_option is_built_deed d && is_built_work body
is_built_work (works.for_all gs c body) = list_all is_built_expression gs && is_built_option is_built_part c && is_built_work body
is_built_work (works.selecting gs c body) = list_all is_built_expression gs && is_built_option is_built_part c && is_built_work body
is_built_work (works.selecting_by x gs c key body) =
    list_all is_built_expression gs && is_built_option is_built_part c && is_built_part key && is_built_work body
is_built_work (works.submitting e slot body) = is_built_part e && is_built_work body
is_built_work (works.watching x names body) = is_built_part x && is_built_work body
is_built_work (works.at_once mode slot body) = is_built_work body
is_built_work w = false

-- programs

abbrev pub is_built_parameter : Kind → Bool
is_built_parameter kinds.Monitor = false
is_built_parameter k = true

abbrev pub is_built_function : Coded → Bool
is_built_function f = list_all is_built_parameter f.parameters && is_built_work f.body

unfoldable pub is_built : Whole → Bool
is_built p = list_all is_built_function p.functions && list_all is_built_work p.tasks
