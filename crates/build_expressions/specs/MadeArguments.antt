-- What is made of the values of the forms of calls, of suffixes and of arguments.
-- Definitions of this project.
use Rattle.std.specs.Prelude.{◌∷◌, Option, Some, ◌≡◌, map, reverse}
use Rattle.std.specs.declared.alloc.Global.{Global}
use Rattle.std.specs.declared.vec.Vec.{Vec}
use Rattle.comet_syntax.specs.declared.tree.expressions.Argument.{Argument}
use Rattle.comet_syntax.specs.declared.tree.expressions.Argument.TheVariants as arguments_as
use Rattle.comet_syntax.specs.declared.tree.expressions.Expression.{Expression}
use Rattle.comet_syntax.specs.declared.tree.expressions.Suffix.{Suffix}
use Rattle.comet_syntax.specs.Grammar.Expressions.{argument_expression, argument_string, arguments_tail_comma, called_left_parenthesis, listed_argument, second_comma, suffixes_dot, suffixes_left_bracket}
use Rattle.comet_syntax.specs.Written.Shown.{Grows}
use Rattle.comet_syntax.specs.Written.Expressions.{option_value, written, written_argument, written_suffix}
use Rattle.parse_stacks.specs.Levels.{index_text, method_text}
use Rattle.parse_stacks.specs.Undoing.{Values}

-- the arguments of a call, in order
abbrev pub CalledMade : Values called_left_parenthesis → Option (Vec Argument Global) → Type 0
CalledMade (left, (listed, (right, end))) x = (all : Vec Argument Global) × (x ≡ Some all) × (all.items ≡ reverse listed.items)

-- the suffixes in order: this one, and then the others
abbrev pub Followed : Grows → Vec Suffix Global → Vec Suffix Global → Type 0
Followed text more x = map written_suffix (reverse x.items) ≡ text ∷ map written_suffix (reverse more.items)

abbrev pub IndexMade : Values suffixes_left_bracket → Vec Suffix Global → Type 0
IndexMade (place, (index, (second, (bracket, (more, end))))) x = Followed (index_text place (written index) (option_value written second)) more x

abbrev pub MethodMade : Values suffixes_dot → Vec Suffix Global → Type 0
MethodMade (dot, (name, (left, (listed, (right, (more, end)))))) x = Followed (method_text name (map written_argument (reverse listed.items))) more x

abbrev pub SecondMade : Values second_comma → Option Expression → Type 0
SecondMade (comma, (second, end)) x = x ≡ Some second

-- the first argument, and then the others
abbrev pub ListedMade : Values listed_argument → Vec Argument Global → Type 0
ListedMade (first, (more, end)) x = reverse x.items ≡ first ∷ reverse more.items

-- one more before the others
abbrev pub MoreArgumentsMade : Values arguments_tail_comma → Vec Argument Global → Type 0
MoreArgumentsMade (comma, (next, (more, end))) x = reverse x.items ≡ next ∷ reverse more.items

abbrev pub ArgumentMade : Values argument_expression → Argument → Type 0
ArgumentMade (e, end) x = x ≡ arguments_as.Expression e

abbrev pub StringMade : Values argument_string → Argument → Type 0
StringMade (string, end) x = x ≡ arguments_as.Str string
