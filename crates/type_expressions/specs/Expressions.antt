-- What expressions are: operands from the left, then the operation's rule. From the language.
use Rattle.std.specs.Prelude.{ℕ, ℤ, Bool, true, false, not, ◌&&◌, ◌||◌, ◌==◌, List, [], ◌∷◌, ◌++◌, length, Option, Some, None, option_map, Result, Ok, Err, if◌then◌else◌}
use Rattle.std.specs.List.{list_all, list_any}
use Rattle.cbl_base.specs.declared.place.Place.{Place}
use Rattle.comet_syntax.specs.declared.tree.expressions.Name.{Name}
use Rattle.comet_syntax.specs.declared.tree.expressions.ChainOperator.{ChainOperator}
use Rattle.comet_syntax.specs.declared.tree.expressions.Comparison.{Comparison}
use Rattle.comet_syntax.specs.declared.tree.expressions.UnaryOperator.{UnaryOperator}
use Rattle.comet_syntax.specs.declared.tree.expressions.UnaryOperator.TheVariants as unaries
use Rattle.comet_syntax.specs.declared.tree.expressions.Extreme.{Extreme}
use Rattle.comet_syntax.specs.declared.tree.expressions.Extreme.TheVariants as extremes
use Rattle.comet_syntax.specs.declared.tree.expressions.Aggregate.{Aggregate}
use Rattle.comet_syntax.specs.declared.tree.expressions.Argument.{Argument}
use Rattle.comet_syntax.specs.declared.tree.expressions.Expression.{Expression}
use Rattle.comet_syntax.specs.declared.tree.expressions.Suffix.{Suffix}
use Rattle.comet_syntax.specs.declared.tree.expressions.Generator.{Generator, fold-Generator}
use Rattle.comet_syntax.specs.declared.tree.expressions.Generators.{Generators, fold-Generators}
use Rattle.comet_syntax.specs.declared.tree.expressions.Link.{Link, fold-Link}
use Rattle.comet_syntax.specs.declared.tree.expressions.Argument.TheOpen as layers
use Rattle.comet_syntax.specs.declared.tree.expressions.Argument.TheFolds.{fold-Expression, fold-Argument, fold-Suffix}
use Rattle.checked_tree.specs.declared.kind.Kind.{Kind}
use Rattle.checked_tree.specs.declared.kind.Kind.TheVariants as kind
use Rattle.type_rules.specs.declared.kinds.Note.{Note}
use Rattle.checked_tree.specs.declared.stop.Cause.{Cause}
use Rattle.checked_tree.specs.declared.stop.Cause.TheVariants as cause
use Rattle.type_scopes.specs.declared.scope.Scope.{Scope}
use Rattle.type_scopes.specs.declared.names.Found.{Found}
use Rattle.type_rules.specs.declared.context.Context.{Context}
use Rattle.checked_tree.specs.declared.expressions.Builtin.{Builtin}
use Rattle.checked_tree.specs.declared.expressions.Builtin.TheVariants as builtins
use Rattle.type_rules.specs.Kinds.{is_number, is_incremental, is_same}
use Rattle.type_scopes.specs.State.{State, Outcome, Went, Refused, Check, give, refuse, then_do, ◌>>=◌, each}
use Rattle.checked_tree.specs.Shape as shapes
use Rattle.checked_tree.specs.Shape.{Shape, Seen, whole, wholes, rows, optional}
use Rattle.type_rules.specs.Rules.{Ruling, plain, with_moving, inner, inside, made_pure, is_term, is_logical, is_joining, unary_rule, chain_rule, compare_rule, range_rule, extreme_rule, conditional_rule, index_rule, grid_rule, parentheses_rule, list_rule, set_rule, generator_rule, aggregate_rule}
use Rattle.type_scopes.specs.Names.{look, is_new, slot_of, opened, within, declare, closed, named_in_term}
use Rattle.type_rules.specs.Rows.{method_named}
use Rattle.type_calls.specs.Arguments.{note_of, made, all_numbers, any_moving}
use Rattle.type_calls.specs.Functions.{called}
use Rattle.type_calls.specs.Methods.{method_called, first_context}
use Rattle.checked_tree.specs.declared.expressions.Slot.{Slot}

-- how an expression is checked: by where it stands and what is known
abbrev pub Judge : Type 0
Judge = Scope → Check Seen

-- names

-- a function's name is no value; where a term is asked, what is incremental counts as such
abbrev pub name_rule : Context → Kind → Ruling
name_rule c k = if is_same k kind.Function then Err cause.WrongType else with_moving k (is_term c && is_incremental k)

-- a term names an incremental variable
abbrev pub noted : Slot → Seen → Check Seen
noted slot e = if e.moving then (named_in_term slot >>= λ _. give e) else give e

-- a visible name is an expression
abbrev pub named : Place → Scope → Option Found → Check Seen
named place scope None = refuse place cause.UnknownName
named place scope (Some f) = made place place (shapes.name (slot_of scope f.index)) (name_rule scope.context f.kind) >>= noted (slot_of scope f.index)

-- a name, the last one of its spelling
unfoldable pub name_form : Name → Judge
name_form n scope = λ s. named n.place scope (look n.text s.names) s

-- operations

-- what is asked of the operand
abbrev pub operand_context : UnaryOperator → Context → Context
operand_context unaries.Negative c = inner c
operand_context unaries.Not c = inside c

-- the operand, and then the operator's rule
unfoldable pub unary_form : UnaryOperator → Place → Judge → Judge
unary_form o place operand scope =
    operand (within (operand_context o scope.context) scope) >>= λ e.
    made place place (shapes.unary o (whole e)) (unary_rule o scope.context (note_of e))

-- both sides from the left, and then the comparison's rule
unfoldable pub comparison_form : Judge → Comparison → Place → Judge → Judge
comparison_form left c place right scope =
    left (within (inner scope.context) scope) >>= λ a.
    right (within (inner scope.context) scope) >>= λ b.
    made a.start place (shapes.compare c (whole a) (whole b)) (compare_rule scope.context (note_of a) (note_of b))

-- both ends from the left, and then the range's rule
unfoldable pub range_form : Judge → Place → Judge → Judge
range_form low place high scope =
    low (within (inner scope.context) scope) >>= λ a.
    high (within (inner scope.context) scope) >>= λ b.
    made a.start place (shapes.range (whole a) (whole b)) (range_rule (note_of a) (note_of b))

-- the test and both parts from the left, and then the rule, at the first token
unfoldable pub conditional_form : Judge → Judge → Judge → Judge
conditional_form test then_part else_part scope =
    test (within (inner scope.context) scope) >>= λ t.
    then_part (within (inner scope.context) scope) >>= λ a.
    else_part (within (inner scope.context) scope) >>= λ b.
    made t.start t.start (shapes.conditional (whole t) (whole a) (whole b)) (conditional_rule (note_of t) (note_of a) (note_of b))

-- what stands in parentheses, and then the rule
unfoldable pub parentheses_form : Place → Judge → Judge
parentheses_form place e scope =
    e (within (inside scope.context) scope) >>= λ x.
    made place place (shapes.parentheses (whole x)) (parentheses_rule (note_of x))

-- the function of the language that it is
abbrev pub extreme_builtin : Extreme → Builtin
extreme_builtin extremes.Min = builtins.Min
extreme_builtin extremes.Max = builtins.Max

-- both arguments from the left, and then the rule
unfoldable pub extreme_form : Extreme → Place → Judge → Judge → Judge
extreme_form x place left right scope =
    left (within (inner scope.context) scope) >>= λ a.
    right (within (inner scope.context) scope) >>= λ b.
    made place place (shapes.builtin (extreme_builtin x) (wholes (a ∷ b ∷ []))) (extreme_rule (note_of a) (note_of b))

-- chains: each operand behind the first, and then its operator

-- an operator of a chain, with its place and its right operand
pub record Linked : Type 0 where
  pub operator : ChainOperator
  pub place : Place
  pub operand : Judge

-- a chain so far
pub record Front : Type 0 where
  pub note : Note
  pub links : List Shape

-- what is asked of an operator's operands
abbrev pub operator_context : ChainOperator → Context → Context
operator_context o c = if is_logical o then inside c else inner c

-- what is asked of the first operand, by the first operator
abbrev pub first_operator_context : List Linked → Context → Context
first_operator_context [] c = c
first_operator_context (l ∷ ls) c = operator_context l.operator c

-- the chain with one more operator, if its rule has a case
abbrev pub linked : Place → Front → Shape → Ruling → Check Front
linked place front shape (Ok n) = give (record { note = n; links = front.links ++ shape ∷ [] })
linked place front shape (Err c) = refuse place c

-- the right operand, and then the operator's rule
unfoldable pub link_form : Scope → Front → Linked → Check Front
link_form scope front l =
    l.operand (within (operator_context l.operator scope.context) scope) >>= λ e.
    linked l.place front (shapes.link l.operator l.place (whole e)) (chain_rule l.operator scope.context front.note (note_of e))

-- the whole chain, at its first token
abbrev pub chained : Seen → Front → Seen
chained e front = record { start = e.start; place = e.start; kind = front.note.kind; moving = front.note.moving; form = shapes.chain (whole e) (rows front.links) }

-- the first operand, and then operator by operator
unfoldable pub chain_form : Judge → List Linked → Judge
chain_form first links scope =
    first (within (first_operator_context links scope.context) scope) >>= λ e.
    each (link_form scope) links (record { note = note_of e; links = [] }) >>= λ front.
    give (chained e front)

-- lists of arguments, the first one in a context of its own

-- what is asked of an argument behind these
abbrev pub argument_context : Context → Context → List Seen → Context
argument_context first other [] = first
argument_context first other (e ∷ es) = other

-- one more argument
unfoldable pub argument_form : Context → Scope → List Seen → Judge → Check (List Seen)
argument_form first scope es a =
    a (within (argument_context first scope.context es) scope) >>= λ e.
    give (es ++ e ∷ [])

-- arguments from the left
abbrev pub arguments_form : Context → List Judge → Scope → Check (List Seen)
arguments_form first args scope = each (argument_form first scope) args []

-- the items from the left, and then the list's rule
unfoldable pub list_form : Place → List Judge → Judge
list_form place args scope =
    arguments_form (inner scope.context) args (within (inner scope.context) scope) >>= λ es.
    made place place (shapes.list (wholes es)) (list_rule (all_numbers es) (any_moving es))

-- the members from the left, and then the set's rule
unfoldable pub set_form : Place → List Judge → Judge
set_form place args scope =
    arguments_form (inner scope.context) args (within (inner scope.context) scope) >>= λ es.
    made place place (shapes.set (wholes es)) (set_rule (all_numbers es) (any_moving es))

-- generators, in a block that stays open

-- a generator: its name and its domain
pub record Generated : Type 0 where
  pub name : Name
  pub domain : Judge

-- generators and their condition, if they have one
pub record Generating : Type 0 where
  pub generators : List Generated
  pub condition : Option Judge

-- the generator's name is declared, if its rule has a case
abbrev pub generator_made : Scope → Name → List Shape → Seen → Ruling → Check (List Shape)
generator_made scope n gs d (Err c) = refuse n.place c
generator_made scope n gs d (Ok x) = λ s. (declare n.text kind.Int >>= λ _. give (gs ++ shapes.generator n.place (slot_of scope (length s.names)) (whole d) ∷ [])) s

-- the domain, which is pure, and then the generator's rule
unfoldable pub generator_form : Scope → List Shape → Generated → Check (List Shape)
generator_form scope gs g =
    g.domain (within (made_pure scope.context) scope) >>= λ d.
    λ s. generator_made scope g.name gs d (generator_rule (is_new g.name.text scope.block s.names) (note_of d)) s

-- generators from the left, each of which sees the names before it
abbrev pub generators_form : List Generated → Scope → Check (List Shape)
generators_form gs scope = each (generator_form scope) gs []

-- an expression that is there
unfoldable pub some_form : Judge → Scope → Check (Option Seen)
some_form c scope = c scope >>= λ e. give (Some e)

-- an expression that may be left out
unfoldable pub condition_form : Option Judge → Scope → Check (Option Seen)
condition_form None scope = give None
condition_form (Some c) scope = some_form c scope

-- what the condition is; where there is none, it is a truth value
abbrev pub condition_note : Option Seen → Note
condition_note None = record { kind = kind.Bool; moving = false }
condition_note (Some e) = note_of e

-- whether there is exactly one
abbrev pub is_one : {A : Type 0} → List A → Bool
is_one [] = false
is_one (x ∷ []) = true
is_one (x ∷ y ∷ zs) = false

-- what is asked of an aggregate's body
abbrev pub body_context : Aggregate → Context → Context
body_context a c = if is_joining a then inside c else inner c

-- the generators, the condition, the body, and then the aggregate's rule
unfoldable pub aggregated : Aggregate → Place → Generating → Judge → Scope → Check Seen
aggregated a place g body scope =
    generators_form g.generators (within (inner scope.context) scope) >>= λ gs.
    condition_form g.condition (within (made_pure scope.context) scope) >>= λ c.
    body (within (body_context a scope.context) scope) >>= λ b.
    made place place (shapes.aggregate a (rows gs) (optional whole c) (whole b)) (aggregate_rule a scope.context (is_one gs) (condition_note c) (note_of b))

-- the names of an aggregate's generators end with it
unfoldable pub aggregate_form : Aggregate → Place → Generating → Judge → Judge
aggregate_form a place g body scope = λ s.
    (aggregated a place g body (opened scope (length s.names)) >>= closed (length s.names)) s

-- calls, indices and methods

-- the arguments from the left, and then the call
unfoldable pub call_form : Name → List Judge → Judge
call_form n args scope =
    arguments_form (inner scope.context) args (within (inner scope.context) scope) >>= λ es.
    called n scope es

-- how a suffix is checked: by what stands before it
abbrev pub Suffixed : Type 0
Suffixed = Seen → Judge

-- the index, and then the rule
unfoldable pub index_form : Place → Judge → Suffixed
index_form place i front scope =
    i scope >>= λ e.
    made front.start place (shapes.index (whole front) (whole e)) (index_rule (note_of front) (note_of e))

-- both indices from the left, and then the rule
unfoldable pub cell_form : Place → Judge → Judge → Suffixed
cell_form place i j front scope =
    i scope >>= λ a.
    j scope >>= λ b.
    made front.start place (shapes.cell (whole front) (whole a) (whole b)) (grid_rule (note_of front) (note_of a) (note_of b))

-- the arguments from the left, the first one in its context, and then the method
unfoldable pub method_form : Name → List Judge → Suffixed
method_form n args front scope =
    arguments_form (first_context (method_named front.kind n.text) scope.context) args scope >>= λ es.
    method_called n.place front scope es (method_named front.kind n.text)

-- a suffix, behind what stands before it
abbrev pub suffix_form : Scope → Seen → Suffixed → Check Seen
suffix_form scope front suffix = suffix front scope

-- what the suffixes stand behind, and then one suffix after the other
unfoldable pub postfix_form : Judge → List Suffixed → Judge
postfix_form primary suffixes scope =
    primary (within (inner scope.context) scope) >>=
    each (suffix_form (within (inner scope.context) scope)) suffixes

-- all of them

-- an expression, by what its parts are
abbrev pub expression_layer : layers.Expression-F Judge Judge Suffixed Generated Generating Linked → Judge
expression_layer (layers.Conditional t a b) = conditional_form t.value a.value b.value
expression_layer (layers.Chain first links) = chain_form first.value links.items
expression_layer (layers.Comparison a c place b) = comparison_form a.value c place b.value
expression_layer (layers.Range a place b) = range_form a.value place b.value
expression_layer (layers.Unary o place e) = unary_form o place e.value
expression_layer (layers.Aggregate a place g body) = aggregate_form a place g.value body.value
expression_layer (layers.Postfix primary all) = postfix_form primary.value all.items
expression_layer (layers.Number n place) = λ scope. made place place (shapes.number n) (plain kind.Int)
expression_layer (layers.Truth b place) = λ scope. made place place (shapes.truth b) (plain kind.Bool)
expression_layer (layers.Name n) = name_form n
expression_layer (layers.Call n args) = call_form n.value args.items
expression_layer (layers.Extreme x place a b) = extreme_form x place a.value b.value
expression_layer (layers.Parentheses place e) = parentheses_form place e.value
expression_layer (layers.List place args) = list_form place args.items
expression_layer (layers.Set place args) = set_form place args.items

-- an argument, by what its expression is; a string is one of its own
abbrev pub argument_layer : layers.Argument-F Judge Judge Suffixed Generated Generating Linked → Judge
argument_layer (layers.Expression e) = e
argument_layer (layers.Str t) = λ scope. give (shapes.quoted t)

-- a suffix, by what its parts are
abbrev pub suffix_layer : layers.Suffix-F Judge Judge Suffixed Generated Generating Linked → Suffixed
suffix_layer (layers.Index place i) = index_form place i
suffix_layer (layers.Cell place i j) = cell_form place i j
suffix_layer (layers.Method n args) = method_form n args.items

-- a generator, by what its domain is
abbrev pub generator_layer : layers.Generator-F Judge Judge Suffixed Generated Generating Linked → Generated
generator_layer g = record { name = g.name; domain = g.domain }

-- generators, by what each of them and the condition is
abbrev pub generators_layer : layers.Generators-F Judge Judge Suffixed Generated Generating Linked → Generating
generators_layer g = record { generators = g.generators.items; condition = option_map (λ c. c.value) g.condition }

-- an operator of a chain, by what its operand is
abbrev pub link_layer : layers.Link-F Judge Judge Suffixed Generated Generating Linked → Linked
link_layer l = record { operator = l.operator; place = l.place; operand = l.operand }

-- what an expression is
unfoldable pub judge : Expression → Judge
judge = fold-Expression Judge Judge Suffixed Generated Generating Linked argument_layer expression_layer suffix_layer generator_layer generators_layer link_layer

-- what an argument is
unfoldable pub judge_argument : Argument → Judge
judge_argument = fold-Argument Judge Judge Suffixed Generated Generating Linked argument_layer expression_layer suffix_layer generator_layer generators_layer link_layer

-- what a suffix is
unfoldable pub judge_suffix : Suffix → Suffixed
judge_suffix = fold-Suffix Judge Judge Suffixed Generated Generating Linked argument_layer expression_layer suffix_layer generator_layer generators_layer link_layer

-- what a generator is
unfoldable pub judge_generator : Generator → Generated
judge_generator = fold-Generator Judge Judge Suffixed Generated Generating Linked argument_layer expression_layer suffix_layer generator_layer generators_layer link_layer

-- what generators are, with their condition
unfoldable pub judge_generators : Generators → Generating
judge_generators = fold-Generators Judge Judge Suffixed Generated Generating Linked argument_layer expression_layer suffix_layer generator_layer generators_layer link_layer

-- what an operator of a chain is
unfoldable pub judge_link : Link → Linked
judge_link = fold-Link Judge Judge Suffixed Generated Generating Linked argument_layer expression_layer suffix_layer generator_layer generators_layer link_layer
