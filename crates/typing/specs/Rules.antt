-- Typing rules: what makes each form of an expression well typed. Above each conclusion stand its parts, each typed
-- in the scope in which it stands and from what was known behind the part before it, and the rule of the operation.
-- In `IsTyped scope before e x after` the expression `e` is typed as `x`, and `after` is known behind it.
use Rattle.std.specs.Prelude.{◌≡◌, ℕ, ℤ, Bool, true, false, List, [], ◌∷◌, ◌++◌, length, take, Option, Some, None, Ok}
use Rattle.std.specs.declared.boxed.Box.{Box}
use Rattle.std.specs.declared.alloc.Global.{Global}
use Rattle.std.specs.declared.vec.Vec.{Vec}
use Rattle.cbl_base.specs.declared.place.Place.{Place}
use Rattle.comet_syntax.specs.declared.tree.expressions.Name.{Name}
use Rattle.comet_syntax.specs.declared.tree.expressions.Comparison.{Comparison}
use Rattle.comet_syntax.specs.declared.tree.expressions.UnaryOperator.{UnaryOperator}
use Rattle.comet_syntax.specs.declared.tree.expressions.Extreme.{Extreme}
use Rattle.comet_syntax.specs.declared.tree.expressions.Aggregate.{Aggregate}
use Rattle.comet_syntax.specs.declared.tree.expressions.Argument.{Argument}
use Rattle.comet_syntax.specs.declared.tree.expressions.Argument.TheVariants as arguments
use Rattle.comet_syntax.specs.declared.tree.expressions.Expression.{Expression}
use Rattle.comet_syntax.specs.declared.tree.expressions.Expression.TheVariants as trees
use Rattle.comet_syntax.specs.declared.tree.expressions.Suffix.{Suffix}
use Rattle.comet_syntax.specs.declared.tree.expressions.Suffix.TheVariants as suffixes
use Rattle.comet_syntax.specs.declared.tree.expressions.Generator.{Generator}
use Rattle.comet_syntax.specs.declared.tree.expressions.Generators.{Generators, out-Generators}
use Rattle.comet_syntax.specs.declared.tree.expressions.Link.{Link}
use Rattle.checked_tree.specs.declared.expressions.Slot.{Slot}
use Rattle.checked_tree.specs.declared.kind.Kind.TheVariants as kind
use Rattle.checked_tree.specs.Shape as shapes
use Rattle.checked_tree.specs.Shape.{Shape, Seen, whole, wholes, rows, optional, quoted}
use Rattle.type_rules.specs.declared.context.Context.{Context}
use Rattle.type_rules.specs.declared.kinds.Note.{Note}
use Rattle.type_rules.specs.Rows.{method_named}
use Rattle.type_rules.specs.Rules.{inner, inside, made_pure, unary_rule, chain_rule, compare_rule, range_rule, extreme_rule, conditional_rule, index_rule, grid_rule, parentheses_rule, list_rule, set_rule, generator_rule, aggregate_rule}
use Rattle.type_scopes.specs.declared.names.Found.{Found}
use Rattle.type_scopes.specs.declared.scope.Scope.{Scope}
use Rattle.type_scopes.specs.Names.{look, is_new, slot_of, opened, within}
use Rattle.type_scopes.specs.State.{State}
use Rattle.type_calls.specs.Arguments.{note_of, all_numbers, any_moving}
use Rattle.type_calls.specs.Methods.{first_context}
use Rattle.type_expressions.specs.Expressions.{Front, name_rule, operand_context, operator_context, chained, argument_context, extreme_builtin, condition_note, is_one, body_context}
use Rattle.typing.specs.Calls.{ruled, given, IsCalled, IsMethodCalled}

-- what is known behind a name: a term names an incremental variable
abbrev pub having_named : Slot → Bool → State → State
having_named slot true s = record s { terms = s.terms ++ slot ∷ [] }
having_named slot false s = s

-- what is known when a whole number's name is declared
abbrev pub having_declared : List ℕ → State → State
having_declared name s = record s { names = s.names ++ record { name = name; kind = kind.Int; function = 0; solvers = [] } ∷ [] }

-- what is known behind a block, before which there were so many names
abbrev pub having_closed : ℕ → State → State
having_closed n s = record s { names = take n s.names }

-- where the first operand of a chain stands
abbrev pub first_operand_context : List Link → Context → Context
first_operand_context [] c = c
first_operand_context (l ∷ ls) c = operator_context l.operator c

-- the generators of a list
abbrev pub generators_in : Generators → List Generator
generators_in g = (out-Generators g).generators.items

-- the condition behind the generators, if there is one
abbrev pub condition_in : Generators → Option (Box Expression Global)
condition_in g = (out-Generators g).condition

mutual
  -- an expression
  pub data IsTyped : Scope → State → Expression → Seen → State → Type 0 where
    a_number : {scope : Scope} {s : State} {n : ℤ} {place : Place}
        → IsTyped scope s (trees.Number n place) (given place place kind.Int (shapes.number n)) s
    a_truth : {scope : Scope} {s : State} {b : Bool} {place : Place}
        → IsTyped scope s (trees.Truth b place) (given place place kind.Bool (shapes.truth b)) s
    a_name : {scope : Scope} {s : State} {n : Name} {f : Found} {note : Note}
        → look n.text s.names ≡ Some f
        → name_rule scope.context f.kind ≡ Ok note
        → IsTyped scope s (trees.Name n) (ruled n.place n.place (shapes.name (slot_of scope f.index)) note) (having_named (slot_of scope f.index) note.moving s)
    a_unary : {scope : Scope} {s t : State} {o : UnaryOperator} {place : Place} {operand : Box Expression Global} {a : Seen} {note : Note}
        → IsTyped (within (operand_context o scope.context) scope) s operand.value a t
        → unary_rule o scope.context (note_of a) ≡ Ok note
        → IsTyped scope s (trees.Unary o place operand) (ruled place place (shapes.unary o (whole a)) note) t
    a_comparison : {scope : Scope} {s u t : State} {c : Comparison} {place : Place} {left right : Box Expression Global} {a b : Seen} {note : Note}
        → IsTyped (within (inner scope.context) scope) s left.value a u
        → IsTyped (within (inner scope.context) scope) u right.value b t
        → compare_rule scope.context (note_of a) (note_of b) ≡ Ok note
        → IsTyped scope s (trees.Comparison left c place right) (ruled a.start place (shapes.compare c (whole a) (whole b)) note) t
    a_range : {scope : Scope} {s u t : State} {place : Place} {low high : Box Expression Global} {a b : Seen} {note : Note}
        → IsTyped (within (inner scope.context) scope) s low.value a u
        → IsTyped (within (inner scope.context) scope) u high.value b t
        → range_rule (note_of a) (note_of b) ≡ Ok note
        → IsTyped scope s (trees.Range low place high) (ruled a.start place (shapes.range (whole a) (whole b)) note) t
    a_conditional : {scope : Scope} {s u v t : State} {test then_part else_part : Box Expression Global} {c a b : Seen} {note : Note}
        → IsTyped (within (inner scope.context) scope) s test.value c u
        → IsTyped (within (inner scope.context) scope) u then_part.value a v
        → IsTyped (within (inner scope.context) scope) v else_part.value b t
        → conditional_rule (note_of c) (note_of a) (note_of b) ≡ Ok note
        → IsTyped scope s (trees.Conditional test then_part else_part) (ruled c.start c.start (shapes.conditional (whole c) (whole a) (whole b)) note) t
    a_parenthesized : {scope : Scope} {s t : State} {place : Place} {part : Box Expression Global} {a : Seen} {note : Note}
        → IsTyped (within (inside scope.context) scope) s part.value a t
        → parentheses_rule (note_of a) ≡ Ok note
        → IsTyped scope s (trees.Parentheses place part) (ruled place place (shapes.parentheses (whole a)) note) t
    an_extreme : {scope : Scope} {s u t : State} {e : Extreme} {place : Place} {left right : Box Expression Global} {a b : Seen} {note : Note}
        → IsTyped (within (inner scope.context) scope) s left.value a u
        → IsTyped (within (inner scope.context) scope) u right.value b t
        → extreme_rule (note_of a) (note_of b) ≡ Ok note
        → IsTyped scope s (trees.Extreme e place left right) (ruled place place (shapes.builtin (extreme_builtin e) (wholes (a ∷ b ∷ []))) note) t
    a_chain : {scope : Scope} {s u t : State} {first : Box Expression Global} (links : Vec Link Global) {a : Seen} {front : Front}
        → IsTyped (within (first_operand_context links.items scope.context) scope) s first.value a u
        → LinksAreTyped scope (record { note = note_of a; links = [] }) u links.items front t
        → IsTyped scope s (trees.Chain first links) (chained a front) t
    a_list : {scope : Scope} {s t : State} {place : Place} (all : Vec Argument Global) {es : List Seen} {note : Note}
        → ArgumentsAreTyped (inner scope.context) (within (inner scope.context) scope) [] s all.items es t
        → list_rule (all_numbers es) (any_moving es) ≡ Ok note
        → IsTyped scope s (trees.List place all) (ruled place place (shapes.list (wholes es)) note) t
    a_set : {scope : Scope} {s t : State} {place : Place} (all : Vec Argument Global) {es : List Seen} {note : Note}
        → ArgumentsAreTyped (inner scope.context) (within (inner scope.context) scope) [] s all.items es t
        → set_rule (all_numbers es) (any_moving es) ≡ Ok note
        → IsTyped scope s (trees.Set place all) (ruled place place (shapes.set (wholes es)) note) t
    a_call : {scope : Scope} {s u t : State} {n : Box Name Global} (all : Vec Argument Global) {es : List Seen} {x : Seen}
        → ArgumentsAreTyped (inner scope.context) (within (inner scope.context) scope) [] s all.items es u
        → IsCalled n.value scope es u x t
        → IsTyped scope s (trees.Call n all) x t
    a_postfix : {scope : Scope} {s u t : State} {primary : Box Expression Global} (all : Vec Suffix Global) {a x : Seen}
        → IsTyped (within (inner scope.context) scope) s primary.value a u
        → SuffixesAreTyped (within (inner scope.context) scope) a u all.items x t
        → IsTyped scope s (trees.Postfix primary all) x t
    -- in a block of its own, which ends with it
    an_aggregate : {scope : Scope} {s u v t : State} {o : Aggregate} {place : Place} {generators : Box Generators Global} {body : Box Expression Global} {gs : List Shape} {c : Option Seen} {b : Seen} {note : Note}
        → GeneratorsAreTyped (within (inner scope.context) (opened scope (length s.names))) [] s (generators_in generators.value) gs u
        → ConditionIsTyped (within (made_pure scope.context) (opened scope (length s.names))) u (condition_in generators.value) c v
        → IsTyped (within (body_context o scope.context) (opened scope (length s.names))) v body.value b t
        → aggregate_rule o scope.context (is_one gs) (condition_note c) (note_of b) ≡ Ok note
        → IsTyped scope s (trees.Aggregate o place generators body) (ruled place place (shapes.aggregate o (rows gs) (optional whole c) (whole b)) note) (having_closed (length s.names) t)

  -- the operands of a chain behind the first, each with its operator, behind what stands before them
  pub data LinksAreTyped : Scope → Front → State → List Link → Front → State → Type 0 where
    no_links : {scope : Scope} {s : State} {front : Front}
        → LinksAreTyped scope front s [] front s
    a_link : {scope : Scope} {s u t : State} {front all : Front} {l : Link} {ls : List Link} {a : Seen} {note : Note}
        → IsTyped (within (operator_context l.operator scope.context) scope) s l.operand a u
        → chain_rule l.operator scope.context front.note (note_of a) ≡ Ok note
        → LinksAreTyped scope (record { note = note; links = front.links ++ shapes.link l.operator l.place (whole a) ∷ [] }) u ls all t
        → LinksAreTyped scope front s (l ∷ ls) all t

  -- what is handed to a call, or stands in a list or a set
  pub data ArgumentIsTyped : Scope → State → Argument → Seen → State → Type 0 where
    an_expression : {scope : Scope} {s t : State} {e : Expression} {x : Seen}
        → IsTyped scope s e x t
        → ArgumentIsTyped scope s (arguments.Expression e) x t
    a_string : {scope : Scope} {s : State} {text : List ℕ}
        → ArgumentIsTyped scope s (arguments.Str text) (quoted text) s

  -- arguments behind those that are typed already; the first of all stands in a context of its own
  pub data ArgumentsAreTyped : Context → Scope → List Seen → State → List Argument → List Seen → State → Type 0 where
    no_arguments : {first : Context} {scope : Scope} {s : State} {es : List Seen}
        → ArgumentsAreTyped first scope es s [] es s
    an_argument : {first : Context} {scope : Scope} {s u t : State} {es all : List Seen} {e : Argument} {others : List Argument} {x : Seen}
        → ArgumentIsTyped (within (argument_context first scope.context es) scope) s e x u
        → ArgumentsAreTyped first scope (es ++ x ∷ []) u others all t
        → ArgumentsAreTyped first scope es s (e ∷ others) all t

  -- what stands behind an expression, and makes of it another one
  pub data SuffixIsTyped : Scope → Seen → State → Suffix → Seen → State → Type 0 where
    an_index : {scope : Scope} {s t : State} {front i : Seen} {place : Place} {e : Expression} {note : Note}
        → IsTyped scope s e i t
        → index_rule (note_of front) (note_of i) ≡ Ok note
        → SuffixIsTyped scope front s (suffixes.Index place e) (ruled front.start place (shapes.index (whole front) (whole i)) note) t
    a_cell : {scope : Scope} {s u t : State} {front i j : Seen} {place : Place} {first second : Expression} {note : Note}
        → IsTyped scope s first i u
        → IsTyped scope u second j t
        → grid_rule (note_of front) (note_of i) (note_of j) ≡ Ok note
        → SuffixIsTyped scope front s (suffixes.Cell place first second) (ruled front.start place (shapes.cell (whole front) (whole i) (whole j)) note) t
    a_method_call : {scope : Scope} {s u t : State} {front x : Seen} {n : Name} (all : Vec Argument Global) {es : List Seen}
        → ArgumentsAreTyped (first_context (method_named front.kind n.text) scope.context) scope [] s all.items es u
        → IsMethodCalled n scope front es u x t
        → SuffixIsTyped scope front s (suffixes.Method n all) x t

  -- suffixes, each behind what those before it made
  pub data SuffixesAreTyped : Scope → Seen → State → List Suffix → Seen → State → Type 0 where
    no_suffixes : {scope : Scope} {s : State} {front : Seen}
        → SuffixesAreTyped scope front s [] front s
    a_suffix : {scope : Scope} {s u t : State} {front x y : Seen} {f : Suffix} {fs : List Suffix}
        → SuffixIsTyped scope front s f x u
        → SuffixesAreTyped scope x u fs y t
        → SuffixesAreTyped scope front s (f ∷ fs) y t

  -- generators behind those that are typed already; each domain sees the names of those before it
  pub data GeneratorsAreTyped : Scope → List Shape → State → List Generator → List Shape → State → Type 0 where
    no_generators : {scope : Scope} {s : State} {gs : List Shape}
        → GeneratorsAreTyped scope gs s [] gs s
    a_generator : {scope : Scope} {s u t : State} {gs all : List Shape} {g : Generator} {others : List Generator} {d : Seen} {note : Note}
        → IsTyped (within (made_pure scope.context) scope) s g.domain d u
        → generator_rule (is_new g.name.text scope.block u.names) (note_of d) ≡ Ok note
        → GeneratorsAreTyped scope (gs ++ shapes.generator g.name.place (slot_of scope (length u.names)) (whole d) ∷ []) (having_declared g.name.text u) others all t
        → GeneratorsAreTyped scope gs s (g ∷ others) all t

  -- the condition of generators, if there is one
  pub data ConditionIsTyped : Scope → State → Option (Box Expression Global) → Option Seen → State → Type 0 where
    no_condition : {scope : Scope} {s : State}
        → ConditionIsTyped scope s None None s
    a_condition : {scope : Scope} {s t : State} {e : Box Expression Global} {x : Seen}
        → IsTyped scope s e.value x t
        → ConditionIsTyped scope s (Some e) (Some x) t
