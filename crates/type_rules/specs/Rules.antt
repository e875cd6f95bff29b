-- What each operation makes of its operands, or why it is refused. Of several causes at one place the least is
-- given, so each rule asks for its causes in order. From the language.
use Rattle.std.specs.Prelude.{ℕ, Bool, true, false, not, ◌&&◌, ◌||◌, ◌==◌, List, [], ◌∷◌, length, Option, Some, None, Result, Ok, Err, if◌then◌else◌}
use Rattle.comet_syntax.specs.declared.tree.expressions.ChainOperator.{ChainOperator}
use Rattle.comet_syntax.specs.declared.tree.expressions.ChainOperator.TheVariants as chains
use Rattle.comet_syntax.specs.declared.tree.expressions.UnaryOperator.{UnaryOperator}
use Rattle.comet_syntax.specs.declared.tree.expressions.UnaryOperator.TheVariants as unaries
use Rattle.comet_syntax.specs.declared.tree.expressions.Aggregate.{Aggregate}
use Rattle.comet_syntax.specs.declared.tree.expressions.Aggregate.TheVariants as aggregates
use Rattle.checked_tree.specs.declared.kind.Kind.{Kind}
use Rattle.checked_tree.specs.declared.kind.Kind.TheVariants as kind
use Rattle.type_rules.specs.declared.kinds.Note.{Note}
use Rattle.checked_tree.specs.declared.stop.Cause.{Cause}
use Rattle.checked_tree.specs.declared.stop.Cause.TheVariants.{DeclaredTwice, WrongType, NotInTerm}
use Rattle.type_rules.specs.declared.context.Context.{Context}
use Rattle.type_rules.specs.declared.context.Context.TheVariants as context
use Rattle.type_rules.specs.Kinds.{is_number, is_truth, is_set, is_range, is_same, fits, cell_of}

-- what a rule gives: the kind of the whole and whether it holds incremental variables, or why it is refused
abbrev pub Ruling : Type 0
Ruling = Result Note Cause

-- contexts

-- whether a constraint is asked here
abbrev pub wants_constraint : Context → Bool
wants_constraint context.Constraint = true
wants_constraint context.Posted = true
wants_constraint c = false

-- whether a term is asked here, or a constraint
abbrev pub is_term : Context → Bool
is_term context.Plain = false
is_term context.Pure = false
is_term c = true

-- whether only what is pure may stand here
abbrev pub is_pure : Context → Bool
is_pure context.Plain = false
is_pure c = true

-- of an operand of an operation on numbers, sets or ranges
abbrev pub inner : Context → Context
inner context.Constraint = context.Term
inner context.Posted = context.Term
inner c = c

-- of a part that is a constraint where the whole is one
abbrev pub inside : Context → Context
inside context.Posted = context.Constraint
inside c = c

-- of a part of it that is evaluated on its own and must be pure
abbrev pub made_pure : Context → Context
made_pure context.Plain = context.Pure
made_pure context.Constraint = context.Term
made_pure context.Posted = context.Term
made_pure c = c

-- rules

-- it is of this kind, and holds no incremental variable
abbrev pub plain : Kind → Ruling
plain k = Ok (record { kind = k; moving = false })

-- it is of this kind, and holds incremental variables where this is true
abbrev pub with_moving : Kind → Bool → Ruling
with_moving k m = Ok (record { kind = k; moving = m })

-- a constraint, or a truth value that holds no incremental variable
abbrev pub is_constraint : Note → Bool
is_constraint n = is_same n.kind kind.Constraint || (is_truth n.kind && not n.moving)

-- `-` takes a number, and `!` a truth value or, where a constraint is asked, a constraint
abbrev pub unary_rule : UnaryOperator → Context → Note → Ruling
unary_rule unaries.Negative c n = if is_number n.kind then with_moving kind.Int n.moving else Err WrongType
unary_rule unaries.Not c n =
    if wants_constraint c
    then (if is_constraint n then Ok n else Err WrongType)
    else (if is_truth n.kind then with_moving kind.Bool n.moving else Err WrongType)

-- whether it joins truth values
abbrev pub is_logical : ChainOperator → Bool
is_logical chains.Or = true
is_logical chains.And = true
is_logical o = false

-- whether both meet the test
abbrev pub both : (Note → Bool) → Note → Note → Bool
both p a b = p a && p b

-- two joined constraints are a constraint, and two truth values are a truth value
abbrev pub either_constraint : Note → Note → Kind
either_constraint a b = if is_same a.kind kind.Constraint || is_same b.kind kind.Constraint then kind.Constraint else kind.Bool

-- `&&` and `||` take truth values or, where a constraint is asked, constraints
abbrev pub logical_rule : Context → Note → Note → Ruling
logical_rule c a b =
    if wants_constraint c
    then (if both is_constraint a b
    then with_moving (either_constraint a b) (a.moving || b.moving)
    else Err WrongType)
    else (if both (λ n. is_truth n.kind) a b then with_moving kind.Bool (a.moving || b.moving) else Err WrongType)

-- all other operators of chains take numbers
abbrev pub chain_rule : ChainOperator → Context → Note → Note → Ruling
chain_rule o c a b =
    if is_logical o
    then logical_rule c a b
    else (if both (λ n. is_number n.kind) a b then with_moving kind.Int (a.moving || b.moving) else Err WrongType)

-- what holds incremental variables is a constraint where one is asked, else a truth value
abbrev pub compared : Context → Bool → Kind
compared c m = if m && wants_constraint c then kind.Constraint else kind.Bool

-- comparisons take numbers
abbrev pub compare_rule : Context → Note → Note → Ruling
compare_rule c a b =
    if both (λ n. is_number n.kind) a b
    then with_moving (compared c (a.moving || b.moving)) (a.moving || b.moving)
    else Err WrongType

-- the ends of a range are numbers without incremental variables
abbrev pub range_rule : Note → Note → Ruling
range_rule a b =
    if both (λ n. is_number n.kind) a b
    then (if a.moving || b.moving then Err NotInTerm else plain kind.Range)
    else Err WrongType

-- `min(a, b)` and `max(a, b)`
abbrev pub extreme_rule : Note → Note → Ruling
extreme_rule a b = if both (λ n. is_number n.kind) a b then with_moving kind.Int (a.moving || b.moving) else Err WrongType

-- gives no value that can be handed on
abbrev pub gives_none : Kind → Bool
gives_none kind.Nothing = true
gives_none kind.Move = true
gives_none k = false

-- the kind of what is one of two kinds, if they go together
abbrev pub unified : Kind → Kind → Option Kind
unified a b =
    if is_truth a && is_truth b then Some kind.Bool
    else (if is_number a && is_number b then Some kind.Int
    else (if is_set a && is_set b then Some kind.Set
    else (if is_same a b && not (gives_none a) then Some a else None)))

-- a choice between two parts holds no incremental variable
abbrev pub unified_rule : Bool → Option Kind → Ruling
unified_rule m None = Err WrongType
unified_rule m (Some k) = if m then Err NotInTerm else plain k

-- the test is a truth value, and the two parts go together
abbrev pub conditional_rule : Note → Note → Note → Ruling
conditional_rule t a b = if is_truth t.kind then unified_rule (t.moving || (a.moving || b.moving)) (unified a.kind b.kind) else Err WrongType

-- an index that holds incremental variables picks a number of an array of numbers or variables, never a set variable
abbrev pub cell_rule : Bool → Bool → Option Kind → Ruling
cell_rule held m None = Err WrongType
cell_rule held m (Some k) =
    if m
    then (if is_same k kind.SetVariable then Err NotInTerm else with_moving kind.Int true)
    else with_moving k held

-- an array of one dimension, at a number
abbrev pub index_rule : Note → Note → Ruling
index_rule a i = if is_number i.kind then cell_rule a.moving i.moving (cell_of a.kind false) else Err WrongType

-- an array of two dimensions, at two numbers
abbrev pub grid_rule : Note → Note → Note → Ruling
grid_rule a i j = if is_number i.kind && is_number j.kind then cell_rule a.moving (i.moving || j.moving) (cell_of a.kind true) else Err WrongType

-- what gives no value stands in no parentheses
abbrev pub parentheses_rule : Note → Ruling
parentheses_rule n = if is_same n.kind kind.Nothing then Err WrongType else Ok n

-- of `[..]` and `{..}`: whether all are numbers, and whether one holds incremental variables
abbrev pub list_rule : Bool → Bool → Ruling
list_rule numbers m = if numbers then with_moving kind.Array m else Err WrongType

-- the members of a set are numbers without incremental variables
abbrev pub set_rule : Bool → Bool → Ruling
set_rule numbers m = if numbers then (if m then Err NotInTerm else plain kind.Set) else Err WrongType

-- whether a generator's name is new in its list, and what it ranges over
abbrev pub generator_rule : Bool → Note → Ruling
generator_rule is_new n =
    if is_new
    then (if is_range n.kind || is_set n.kind then (if n.moving then Err NotInTerm else plain kind.Int) else Err WrongType)
    else Err DeclaredTwice

-- what an aggregate gives, from its body
abbrev pub is_joining : Aggregate → Bool
is_joining aggregates.And = true
is_joining aggregates.Or = true
is_joining a = false

-- whether it has exactly one generator
abbrev pub is_choosing : Aggregate → Bool
is_choosing aggregates.SetOf = true
is_choosing aggregates.ArgMin = true
is_choosing aggregates.ArgMax = true
is_choosing a = false

-- what each aggregate gives
abbrev pub aggregate_kind : Aggregate → Kind
aggregate_kind aggregates.Sum = kind.Int
aggregate_kind aggregates.Min = kind.Int
aggregate_kind aggregates.Max = kind.Int
aggregate_kind aggregates.All = kind.Array
aggregate_kind aggregates.And = kind.Bool
aggregate_kind aggregates.Or = kind.Bool
aggregate_kind a = kind.Set

-- whether the body is a truth value
abbrev pub asks_truth : Aggregate → Bool
asks_truth aggregates.And = true
asks_truth aggregates.Or = true
asks_truth aggregates.SetOf = true
asks_truth a = false

-- whether the body is what the aggregate asks for here
abbrev pub body_fits : Aggregate → Context → Note → Bool
body_fits a c n =
    if is_joining a && wants_constraint c then is_constraint n
    else (if asks_truth a then is_truth n.kind else is_number n.kind)

-- what the aggregate is, by its body
abbrev pub aggregate_note : Aggregate → Context → Note → Note
aggregate_note a c n = if is_joining a && wants_constraint c then n else record { kind = aggregate_kind a; moving = n.moving }

-- the condition is taken for a truth value where there is none
abbrev pub aggregate_rule : Aggregate → Context → Bool → Note → Note → Ruling
aggregate_rule a c single condition body =
    if (is_truth condition.kind && (not (is_choosing a) || single)) && body_fits a c body
    then (if condition.moving then Err NotInTerm else Ok (aggregate_note a c body))
    else Err WrongType
