-- What the making of objects is. From the language.
use Rattle.std.specs.Prelude.{Bool, true, false, ◌&&◌, List, [], ◌∷◌, length, map, drop, Option, Some, None, if◌then◌else◌}
use Rattle.cbl_base.specs.declared.place.Place.{Place}
use Rattle.comet_syntax.specs.declared.tree.expressions.Name.{Name}
use Rattle.comet_syntax.specs.declared.tree.expressions.Argument.{Argument}
use Rattle.comet_syntax.specs.declared.tree.declarations.Class.{Class}
use Rattle.comet_syntax.specs.declared.tree.declarations.Maker.{Maker}
use Rattle.comet_syntax.specs.declared.tree.declarations.Maker.TheVariants as makers
use Rattle.checked_tree.specs.declared.expressions.Slot.{Slot}
use Rattle.checked_tree.specs.declared.kind.Kind.{Kind}
use Rattle.checked_tree.specs.declared.kind.Kind.TheVariants as kind
use Rattle.checked_tree.specs.declared.stop.Cause.{Cause}
use Rattle.checked_tree.specs.declared.stop.Cause.TheVariants as cause
use Rattle.checked_tree.specs.Shape.{Seen, whole}
use Rattle.checked_tree.specs.Actions as deeds
use Rattle.checked_tree.specs.Actions.{Deed}
use Rattle.type_rules.specs.declared.context.Context.{Context}
use Rattle.type_rules.specs.declared.context.Context.TheVariants as context
use Rattle.type_rules.specs.Kinds.{is_same}
use Rattle.type_rules.specs.Classes.{class_kind, class_is_ls, class_wants}
use Rattle.type_scopes.specs.declared.effects.Doing.{Doing}
use Rattle.type_scopes.specs.declared.scope.Scope.{Scope}
use Rattle.type_scopes.specs.Names.{is_new, slot_of, declare_with}
use Rattle.type_scopes.specs.State.{Went, Check, give, ◌>>=◌}
use Rattle.type_calls.specs.Arguments.{arguments_fault}
use Rattle.type_calls.specs.Doing.{act_on}
use Rattle.type_calls.specs.Roots.{roots_of}
use Rattle.type_expressions.specs.Expressions.{judge_argument, arguments_form}
use Rattle.type_declarations.specs.Parts.{ruled}

-- the class that is made: the declared one, or the one behind `new`
abbrev pub made_kind : Class → Maker → Kind
made_kind c (makers.Direct args) = class_kind c.kind
made_kind c (makers.New d args) = class_kind d.kind

-- whether the class behind `new` has the technology `LS` or needs none
abbrev pub is_made_ls : Maker → Bool
is_made_ls (makers.Direct args) = true
is_made_ls (makers.New d args) = class_is_ls d.kind

-- the arguments of the making
abbrev pub maker_arguments : Maker → List Argument
maker_arguments (makers.Direct args) = args.items
maker_arguments (makers.New d args) = args.items

-- what a maker's first argument stands for: that of a `FunctionExpr` is a term
abbrev pub making_context : Kind → Context → Context
making_context kind.Objective c = context.Term
making_context k c = c

-- the arguments, and the incremental variables that they name as terms
pub record Handed : Type 0 where
  pub arguments : List Seen
  pub terms : List Slot

-- the arguments are judged from the left, the first one in its context, and the terms noted meanwhile are kept
unfoldable pub handed_form : Kind → List Argument → Scope → Check Handed
handed_form k args scope = λ s.
    (arguments_form (making_context k scope.context) (map judge_argument args) scope >>= λ es.
    λ t. Went (record { arguments = es; terms = drop (length s.terms) t.terms }) t) s

-- the cells of the names through which the first argument is reached
abbrev pub first_roots : List Seen → List Slot
first_roots [] = []
first_roots (e ∷ es) = roots_of (whole e)

-- what the making writes: a system or a sum its solver, a `FunctionExpr` the solver of the variables in its term
abbrev pub making_roots : Kind → Handed → List Slot
making_roots kind.System h = first_roots h.arguments
making_roots kind.Total h = first_roots h.arguments
making_roots kind.Objective h = h.terms
making_roots k h = []

-- the solver that a solution belongs to
abbrev pub kept_solvers : Kind → Handed → List Slot
kept_solvers kind.Solution h = first_roots h.arguments
kept_solvers k h = []

-- no `parall` makes a monitor
abbrev pub object_doing : Kind → Doing
object_doing k = record { impure = true; not_in_term = false; global = false; through = true; forbidden = is_same k kind.Monitor }

-- why these arguments don't make an object of this class: their number, then their types
abbrev pub making_fault : Kind → List Seen → Option Cause
making_fault k es = arguments_fault (class_wants k) (length (class_wants k)) es

-- the name is new in its block, the declared class is the made one, and the arguments make it
abbrev pub object_fault : Bool → Kind → Kind → List Seen → Option Cause
object_fault new k made es =
    if new then (if is_same k made then making_fault k es else Some cause.WrongType) else Some cause.DeclaredTwice

-- only `LS` is supported
abbrev pub ls_fault : Bool → Option Cause
ls_fault is_ls = if is_ls then None else Some cause.OnlyLs

-- the name of the object is declared in the next cell, a solution's with the solver that it belongs to
abbrev pub object_declared : Name → Kind → Handed → Scope → Check Deed
object_declared n k h scope = λ s.
    (declare_with n.text k 0 (kept_solvers k h) >>= λ _.
    give (deeds.making (slot_of scope (length s.names)) k h.arguments)) s

-- the object's own rule, what its making writes, its technology, and then its name
abbrev pub object_made : Place → Bool → Name → Kind → Kind → Handed → Scope → Check Deed
object_made place is_ls n k made h scope =
    (λ s. ruled place (object_fault (is_new n.text scope.block s.names) k made h.arguments) s) >>= λ _.
    act_on place scope (object_doing k) (making_roots k h) >>= λ _.
    ruled place (ls_fault is_ls) >>= λ _.
    object_declared n k h scope

-- the declaration of an object: its arguments, and then all else, at the class
unfoldable pub object_form : Class → Name → Maker → Scope → Check Deed
object_form c n m scope =
    handed_form (class_kind c.kind) (maker_arguments m) scope >>= λ h.
    object_made c.place (class_is_ls c.kind && is_made_ls m) n (class_kind c.kind) (made_kind c m) h scope
