-- What simple statements are: the expressions in them, then their own rule. From the language.
use Rattle.std.specs.Prelude.{Bool, true, false, not, ◌&&◌, ◌||◌, ◌==◌, List, [], ◌∷◌, ◌++◌, map, Option, Some, None, if◌then◌else◌}
use Rattle.std.specs.List.{list_any}
use Rattle.cbl_base.specs.declared.place.Place.{Place}
use Rattle.comet_syntax.specs.declared.tree.expressions.Name.{Name}
use Rattle.comet_syntax.specs.declared.tree.statements.Item.{Item}
use Rattle.comet_syntax.specs.declared.tree.statements.Item.TheVariants as items
use Rattle.comet_syntax.specs.declared.tree.statements.NewObject.{NewObject}
use Rattle.comet_syntax.specs.declared.tree.statements.Simple.{Simple}
use Rattle.comet_syntax.specs.declared.tree.statements.Simple.TheVariants as simples
use Rattle.comet_syntax.specs.declared.tree.statements.Step.{Step}
use Rattle.comet_syntax.specs.declared.tree.statements.WriteOperator.{WriteOperator}
use Rattle.comet_syntax.specs.declared.tree.statements.WriteOperator.TheVariants as writing
use Rattle.checked_tree.specs.declared.expressions.Slot.{Slot}
use Rattle.checked_tree.specs.declared.expressions.Slot.TheVariants.{Global, Local}
use Rattle.checked_tree.specs.declared.kind.Kind.{Kind}
use Rattle.checked_tree.specs.declared.kind.Kind.TheVariants as kind
use Rattle.checked_tree.specs.declared.stop.Cause.{Cause}
use Rattle.checked_tree.specs.declared.stop.Cause.TheVariants as cause
use Rattle.checked_tree.specs.Shape as shapes
use Rattle.checked_tree.specs.Shape.{Shape, Seen, whole}
use Rattle.checked_tree.specs.Actions as deeds
use Rattle.checked_tree.specs.Actions.{Deed, Shown}
use Rattle.type_rules.specs.declared.context.Context.{Context}
use Rattle.type_rules.specs.declared.context.Context.TheVariants as context
use Rattle.type_rules.specs.Kinds.{is_number, is_set, is_same, is_printed, is_incremental, fits, asked_of}
use Rattle.type_rules.specs.Classes.{class_kind, class_is_ls}
use Rattle.type_scopes.specs.declared.effects.Doing.{Doing}
use Rattle.type_scopes.specs.declared.names.Binding.{Binding}
use Rattle.type_scopes.specs.declared.names.Found.{Found}
use Rattle.type_scopes.specs.declared.scope.Scope.{Scope}
use Rattle.type_scopes.specs.declared.scope.Frame.{Frame}
use Rattle.type_scopes.specs.Names.{look, solvers_at, within}
use Rattle.type_scopes.specs.State.{Check, give, ◌>>=◌, each}
use Rattle.type_calls.specs.Doing.{act_on}
use Rattle.type_calls.specs.Roots.{roots_of, is_name}
use Rattle.type_expressions.specs.Expressions.{Judge, judge, name_form}
use Rattle.type_simples.specs.declared.simples.Standing.{Standing}
use Rattle.type_declarations.specs.Parts.{ruled, wrong_unless, start_form}
use Rattle.type_declarations.specs.Objects.{Handed, handed_form, making_fault, making_roots, kept_solvers, object_doing, ls_fault}

-- a statement's rule stands at the `for` that it belongs to, or else at its own place
abbrev pub place_at : Option Place → Place → Place
place_at None own = own
place_at (Some place) own = place

-- a statement that holds no statement, and its place
pub record Acted : Type 0 where
  pub place : Place
  pub deed : Deed

-- the statement, at its place
abbrev pub acted : Place → Deed → Check Acted
acted place d = give (record { place = place; deed = d })

-- writes

-- what `=`, `+=`, `-=`, `++` and `--` write
abbrev pub is_plain : Kind → Bool
is_plain kind.Int = true
is_plain kind.Bool = true
is_plain kind.Range = true
is_plain kind.Set = true
is_plain k = false

-- whether it is a cell of an array
abbrev pub is_index : Shape → Bool
is_index (shapes.index a i) = true
is_index (shapes.cell a i j) = true
is_index f = false

-- whether there are none
abbrev pub is_empty : {A : Type 0} → List A → Bool
is_empty [] = true
is_empty (x ∷ xs) = false

-- a name, or a cell of an array that is reached through names
abbrev pub is_bare_with : Seen → List Slot → Bool
is_bare_with t roots = is_name t.form || (is_index t.form && not (is_empty roots))

-- the same of a target, by the names through which it is reached
abbrev pub is_bare : Seen → Bool
is_bare t = is_bare_with t (roots_of (whole t))

-- the right side of `<-` is a term
abbrev pub value_context : WriteOperator → Context → Context
value_context writing.Define c = context.Term
value_context o c = c

-- `=` writes a name or a cell of a plain type, with a value of that type
abbrev pub assigned_fault : Bool → Kind → Kind → Option Cause
assigned_fault bare t v = if bare && is_plain t then wrong_unless (fits (asked_of t) v) else Some cause.NotAssignable

-- `+=`, `-=`, `++` and `--` write an int, and the first two add a number
abbrev pub added_fault : Bool → Kind → Bool → Option Cause
added_fault bare t fit = if bare && is_plain t then wrong_unless (is_same t kind.Int && fit) else Some cause.NotAssignable

-- `:=` writes a variable, with a number
abbrev pub moved_fault : Kind → Kind → Option Cause
moved_fault t v = if is_same t kind.Variable then wrong_unless (is_number v) else Some cause.NotAssignable

-- `<-` writes a variable with a number, or a set variable with a set
abbrev pub defined_fault : Kind → Kind → Option Cause
defined_fault kind.Variable v = wrong_unless (is_number v)
defined_fault kind.SetVariable v = wrong_unless (is_set v)
defined_fault t v = Some cause.NotAssignable

-- whether the target is a name or a cell, its kind, and that of the value
abbrev pub write_fault : WriteOperator → Bool → Kind → Kind → Option Cause
write_fault writing.Set bare t v = assigned_fault bare t v
write_fault writing.Add bare t v = added_fault bare t (is_number v)
write_fault writing.Subtract bare t v = added_fault bare t (is_number v)
write_fault writing.Assign bare t v = moved_fault t v
write_fault writing.Define bare t v = defined_fault t v

-- a name's own cell is written, or what it refers to is written through it
abbrev pub writing_doing : Seen → Doing
writing_doing t = record { impure = true; not_in_term = false; global = false; through = not (is_name t.form) || is_incremental t.kind; forbidden = false }

-- what writes through what it is handed is an effect
abbrev pub through_doing : Doing
through_doing = record { impure = true; not_in_term = false; global = false; through = true; forbidden = false }

-- what writes a name's own cell is an effect
abbrev pub own_doing : Doing
own_doing = record { impure = true; not_in_term = false; global = false; through = false; forbidden = false }

-- a write: its target, its value, the `for` around it, its rule, and then its effect
unfoldable pub write_form : Judge → WriteOperator → Judge → Standing → Scope → Check Acted
write_form target o value st scope =
    target scope >>= λ t.
    value (within (value_context o scope.context) scope) >>= λ v.
    ruled (place_at st.at t.start) (wrong_unless st.holds) >>= λ _.
    ruled (place_at st.at t.start) (write_fault o (is_bare t) t.kind v.kind) >>= λ _.
    act_on (place_at st.at t.start) scope (writing_doing t) (roots_of (whole t)) >>= λ _.
    acted (place_at st.at t.start) (deeds.writing o t v)

-- `:=:` swaps two variables
abbrev pub swap_fault : Kind → Kind → Option Cause
swap_fault a b = if is_same a kind.Variable && is_same b kind.Variable then None else Some cause.NotAssignable

-- a swap: its left side, its right side, the `for` around it, its rule, and then its effect on both
unfoldable pub swap_form : Judge → Judge → Standing → Scope → Check Acted
swap_form left right st scope =
    left scope >>= λ a.
    right scope >>= λ b.
    ruled (place_at st.at a.start) (wrong_unless st.holds) >>= λ _.
    ruled (place_at st.at a.start) (swap_fault a.kind b.kind) >>= λ _.
    act_on (place_at st.at a.start) scope through_doing (roots_of (whole a) ++ roots_of (whole b)) >>= λ _.
    acted (place_at st.at a.start) (deeds.swapping a b)

-- `++` and `--`: the target, the `for` around it, its rule, and then its effect
unfoldable pub step_form : Judge → Step → Standing → Scope → Check Acted
step_form target x st scope =
    target scope >>= λ t.
    ruled (place_at st.at t.start) (wrong_unless st.holds) >>= λ _.
    ruled (place_at st.at t.start) (added_fault (is_bare t) t.kind true) >>= λ _.
    act_on (place_at st.at t.start) scope (writing_doing t) (roots_of (whole t)) >>= λ _.
    acted (place_at st.at t.start) (deeds.stepping x t)

-- an expression alone: what gives no value stands here, a move does not
unfoldable pub alone_form : Judge → Standing → Scope → Check Acted
alone_form e st scope =
    e scope >>= λ x.
    ruled (place_at st.at x.start) (wrong_unless st.holds) >>= λ _.
    ruled (place_at st.at x.start) (wrong_unless (not (is_same x.kind kind.Move))) >>= λ _.
    acted (place_at st.at x.start) (deeds.doing x)

-- `name = new ..`

-- the classes
abbrev pub is_object : Kind → Bool
is_object kind.Solver = true
is_object kind.System = true
is_object kind.Objective = true
is_object kind.Total = true
is_object kind.Distribution = true
is_object kind.Input = true
is_object kind.Selector = true
is_object kind.Monitor = true
is_object kind.Solution = true
is_object k = false

-- a name that can be assigned, the class that it has, and arguments that make an object of it
abbrev pub new_fault : Kind → Kind → List Seen → Option Cause
new_fault t k es =
    if is_plain t || is_object t
    then (if is_same t k then making_fault k es else Some cause.WrongType)
    else Some cause.NotAssignable

-- whether two cells are the same
abbrev pub same_slot : Slot → Slot → Bool
same_slot (Global i) (Global j) = i == j
same_slot (Global i) (Local j) = false
same_slot (Local i) (Global j) = false
same_slot (Local i) (Local j) = i == j

-- those cells that are not among the kept ones
abbrev pub others : List Slot → List Slot → List Slot
others kept [] = []
others kept (s ∷ ss) = (if list_any (same_slot s) kept then [] else s ∷ []) ++ others kept ss

-- the cells of the solvers that the named solution may belong to
abbrev pub solvers_found : List Binding → Option Found → List Slot
solvers_found names None = []
solvers_found names (Some f) = solvers_at names f.index

-- What the new object writes. A solution's name keeps its solvers, which a `restore` of it writes; another solver is
-- written here.
abbrev pub renewing_roots : List Slot → Kind → Handed → List Slot
renewing_roots kept k h = making_roots k h ++ others kept (kept_solvers k h)

-- the cell of a name
abbrev pub slot_in : Shape → Slot
slot_in (shapes.name s) = s
slot_in f = Global 0

-- the rule of `new`, the write of the name, the writes of the making, and its technology
abbrev pub renewed : Place → Name → Bool → Seen → Kind → Handed → Scope → Check Deed
renewed place n is_ls t k h scope =
    ruled place (new_fault t.kind k h.arguments) >>= λ _.
    act_on place scope own_doing (roots_of (whole t)) >>= λ _.
    (λ s. act_on place scope (object_doing k) (renewing_roots (solvers_found s.names (look n.text s.names)) k h) s) >>= λ _.
    ruled place (ls_fault is_ls) >>= λ _.
    give (deeds.making (slot_in t.form) k h.arguments)

-- `name = new ..`: the name, the arguments, the `for` around it, and then all else
unfoldable pub new_form : NewObject → Standing → Scope → Check Acted
new_form x st scope =
    name_form x.name scope >>= λ t.
    handed_form (class_kind x.class.kind) x.arguments.items scope >>= λ h.
    ruled (place_at st.at x.name.place) (wrong_unless st.holds) >>= λ _.
    renewed (place_at st.at x.name.place) x.name (class_is_ls x.class.kind) t (class_kind x.class.kind) h scope >>= λ d.
    acted (place_at st.at x.name.place) d

-- printing

-- what `cout` prints: an expression, a text, or the end of a line
unfoldable pub item_form : Item → Scope → Check Shown
item_form (items.Expression e) scope = judge e scope >>= λ v. give (deeds.value v)
item_form (items.Str t) scope = give (deeds.text t)
item_form items.EndLine scope = give deeds.end_line

-- one more item behind those before it
unfoldable pub shown_form : Scope → List Shown → (Scope → Check Shown) → Check (List Shown)
shown_form scope xs item = item scope >>= λ x. give (xs ++ x ∷ [])

-- items from the left
abbrev pub items_form : List (Scope → Check Shown) → Scope → Check (List Shown)
items_form all scope = each (shown_form scope) all []

-- whether it can be printed
abbrev pub is_shown : Shown → Bool
is_shown (deeds.value e) = is_printed e.kind
is_shown (deeds.text t) = true
is_shown deeds.end_line = true

-- whether all can be printed
abbrev pub all_shown : List Shown → Bool
all_shown [] = true
all_shown (x ∷ xs) = is_shown x && all_shown xs

-- `cout`: its items, the `for` around it, its rule, and then its effect
unfoldable pub print_form : Place → List Item → Standing → Scope → Check Acted
print_form place all st scope =
    items_form (map item_form all) scope >>= λ xs.
    ruled (place_at st.at place) (wrong_unless st.holds) >>= λ _.
    ruled (place_at st.at place) (wrong_unless (all_shown xs)) >>= λ _.
    act_on (place_at st.at place) scope own_doing [] >>= λ _.
    acted (place_at st.at place) (deeds.printing xs)

-- `call` of a move writes its selector
unfoldable pub choice_form : Place → Judge → Standing → Scope → Check Acted
choice_form place chosen st scope =
    chosen scope >>= λ e.
    ruled (place_at st.at place) (wrong_unless st.holds) >>= λ _.
    ruled (place_at st.at place) (wrong_unless (is_same e.kind kind.Move)) >>= λ _.
    act_on (place_at st.at place) scope through_doing (roots_of (whole e)) >>= λ _.
    acted (place_at st.at place) (deeds.choosing e)

-- all of them

-- what each simple statement is
unfoldable pub simple_form : Simple → Standing → Scope → Check Acted
simple_form (simples.Write t o v) = write_form (judge t.value) o (judge v.value)
simple_form (simples.Swap a b) = swap_form (judge a.value) (judge b.value)
simple_form (simples.Step t x) = step_form (judge t.value) x
simple_form (simples.Postfix e) = alone_form (judge e)
simple_form (simples.New x) = new_form x.value
simple_form (simples.Print place xs) = print_form place xs.items
simple_form (simples.Call place e) = choice_form place (judge e.value)

-- `return`: in functions alone, with a value exactly where one is given, and not where statements run later or apart

-- in a function that gives this: no value where it gives nothing, else a value of its type, and never apart
abbrev pub return_in : Kind → Bool → Option Seen → Option Cause
return_in result apart None = if apart || not (is_same result kind.Nothing) then Some cause.MisplacedReturn else None
return_in result apart (Some e) =
    if is_same result kind.Nothing then Some cause.MisplacedReturn
    else (if fits (asked_of result) e.kind then (if apart then Some cause.MisplacedReturn else None) else Some cause.WrongType)

-- outside functions each `return` is misplaced
abbrev pub return_fault : Option Frame → Bool → Option Seen → Option Cause
return_fault None apart e = Some cause.MisplacedReturn
return_fault (Some f) apart e = return_in f.result apart e

-- a `return`: its value, if it has one, and then its rule
unfoldable pub return_form : Place → Option Judge → Scope → Check Deed
return_form place value scope =
    start_form value scope >>= λ e.
    ruled place (return_fault scope.function scope.no_return e) >>= λ _.
    give (deeds.returning e)
