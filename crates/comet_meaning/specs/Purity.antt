-- A pure expression does nothing but give its value: it reads no data, draws nothing, writes nothing, asks no monitor,
-- and calls only functions whose body is one `return` of a pure expression. In this test a call of the function
-- itself inside its own body is allowed. From the language.
use Rattle.std.specs.Prelude.{Bool, true, false, not, ◌&&◌, List, [], ◌∷◌, ◌++◌, Option, Some, None, slice_index_or}
use Rattle.checked_tree.specs.declared.expressions.Slot.{Slot}
use Rattle.checked_tree.specs.declared.expressions.Slot.TheVariants.{Global, Local}
use Rattle.checked_tree.specs.Shape as shapes
use Rattle.checked_tree.specs.Shape.{Shape, Seen, whole}
use Rattle.checked_tree.specs.Actions as deeds
use Rattle.checked_tree.specs.Actions.{Deed}
use Rattle.checked_tree.specs.Tasks as works
use Rattle.checked_tree.specs.Tasks.{Work, Coded}
use Rattle.type_rules.specs.Rows.{method_row}

-- whether a name's cell lies in the frame of the running call, as that of each generator does
abbrev pub is_local : Slot → Bool
is_local (Local i) = true
is_local (Global i) = false

-- whether an expression is pure, where it is known which functions are
abbrev pub is_pure : List Bool → Shape → Bool
is_pure known (shapes.more x xs) = is_pure known x && is_pure known xs
is_pure known (shapes.typed start at kind moving form) = is_pure known form
is_pure known (shapes.unary o e) = is_pure known e
is_pure known (shapes.parentheses e) = is_pure known e
is_pure known (shapes.chain first links) = is_pure known first && is_pure known links
is_pure known (shapes.link o at e) = is_pure known e
is_pure known (shapes.compare c a b) = is_pure known a && is_pure known b
is_pure known (shapes.range a b) = is_pure known a && is_pure known b
is_pure known (shapes.conditional c a b) = is_pure known c && is_pure known a && is_pure known b
is_pure known (shapes.index a i) = is_pure known a && is_pure known i
is_pure known (shapes.cell a i j) = is_pure known a && is_pure known i && is_pure known j
is_pure known (shapes.list es) = is_pure known es
is_pure known (shapes.set es) = is_pure known es
is_pure known (shapes.aggregate a gs c body) = is_pure known gs && is_pure known c && is_pure known body
is_pure known (shapes.generator at slot domain) = is_local slot && is_pure known domain
is_pure known (shapes.builtin f es) = is_pure known es
is_pure known (shapes.call f es) = slice_index_or known f false && is_pure known es
is_pure known (shapes.method m o es) = not (method_row m).impure && is_pure known o && is_pure known es
is_pure known form = true

-- the expression that a body returns, where it is one `return` of an expression
abbrev pub returned_by : Work → Option Seen
returned_by (works.task at (works.block (works.more (works.task place (works.action (deeds.returning e))) works.no_more))) = e
returned_by w = None

abbrev pub returns_pure : List Bool → Option Seen → Bool
returns_pure known None = false
returns_pure known (Some e) = is_pure known (whole e)

-- for each function whether it is pure, behind those before; a function calls only these and itself
abbrev pub pure_behind : List Bool → List Coded → List Bool
pure_behind known [] = known
pure_behind known (f ∷ fs) = pure_behind (known ++ returns_pure (known ++ true ∷ []) (returned_by f.body) ∷ []) fs

abbrev pub pure_functions : List Coded → List Bool
pure_functions fs = pure_behind [] fs
