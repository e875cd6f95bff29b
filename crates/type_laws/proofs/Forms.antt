-- Each form of an expression behaves where its parts do.
use Rattle.std.specs.Prelude.{◌≡◌, refl, ℕ, Bool, true, false, List, [], ◌∷◌, ◌++◌, length, take, slice_get, Option, None, Some, Ok, Err, if◌then◌else◌}
use Rattle.cbl_base.specs.declared.place.Place.{Place}
use Rattle.comet_syntax.specs.declared.tree.expressions.Name.{Name}
use Rattle.comet_syntax.specs.declared.tree.expressions.Aggregate.{Aggregate}
use Rattle.comet_syntax.specs.declared.tree.expressions.Comparison.{Comparison}
use Rattle.comet_syntax.specs.declared.tree.expressions.Extreme.{Extreme}
use Rattle.comet_syntax.specs.declared.tree.expressions.UnaryOperator.{UnaryOperator}
use Rattle.checked_tree.specs.declared.expressions.Builtin.{Builtin}
use Rattle.checked_tree.specs.declared.expressions.Method.{Method}
use Rattle.checked_tree.specs.declared.expressions.Slot.{Slot}
use Rattle.checked_tree.specs.declared.kind.Kind.TheVariants as kind
use Rattle.checked_tree.specs.declared.stop.Cause.{Cause}
use Rattle.checked_tree.specs.Shape as shapes
use Rattle.checked_tree.specs.Shape.{Shape, Seen, whole, wholes, rows, optional}
use Rattle.type_rules.specs.declared.context.Context.{Context}
use Rattle.type_rules.specs.declared.rows.Writes.{Writes}
use Rattle.type_rules.specs.declared.rows.Writes.TheVariants as writes
use Rattle.type_rules.specs.Kinds.{is_same}
use Rattle.type_rules.specs.Rows.{builtin_named, method_named, method_row, method_wants}
use Rattle.type_rules.specs.Rules.{Ruling, is_pure, inner, inside, made_pure, is_joining, is_logical, generator_rule}
use Rattle.type_scopes.specs.declared.effects.Doing.{Doing}
use Rattle.type_scopes.specs.declared.effects.Signature.{Signature}
use Rattle.type_scopes.specs.declared.names.Found.{Found}
use Rattle.type_scopes.specs.declared.scope.Scope.{Scope}
use Rattle.type_scopes.specs.Names.{look, is_new, slot_of, opened, within, declare, closed, named_in_term}
use Rattle.type_scopes.specs.State.{State, give, refuse, ◌>>=◌}
use Rattle.type_calls.specs.Arguments.{note_of, made, arguments_fault}
use Rattle.type_calls.specs.Builtins.{builtin_called}
use Rattle.type_calls.specs.Doing.{act_on}
use Rattle.type_calls.specs.Functions.{Calling, call_so, call_of, called_so, function_called, function_fault, called_as, called}
use Rattle.type_calls.specs.Methods.{first_context, method_done, method_doing, method_made, method_called, solution_roots}
use Rattle.type_calls.specs.Roots.{roots_of}
use Rattle.type_expressions.specs.Expressions as forms
use Rattle.type_expressions.specs.Expressions.{Judge, Linked, Front, Generated, Generating, Suffixed}
use Rattle.type_laws.specs.Behaves.{Behaves}
use Rattle.type_laws.proofs.Allowed.{AllOf, behaves_then, behaves_give, behaves_known, behaves_refuse, behaves_at, behaves_each, behaves_where, behaves_act}
use Rattle.type_laws.proofs.Contexts.{inner_pure, inside_pure, made_pure_pure, either_pure, operand_pure, first_operator_pure, argument_pure, first_pure}

-- a judgement behaves wherever it is asked
abbrev pub Good : Judge → Type 0
Good j = (scope : Scope) → Behaves scope (j scope)

-- a part in another context
there : (j : Judge) (scope : Scope) (c : Context) → Good j → (is_pure scope.context ≡ true → is_pure c ≡ true) → Behaves scope (j (within c scope))
there j scope c g pure = behaves_where scope (within c scope) (j (within c scope)) refl pure (g (within c scope))

in_inner : (j : Judge) (scope : Scope) → Good j → Behaves scope (j (within (inner scope.context) scope))
in_inner j scope g = there j scope (inner scope.context) g (inner_pure scope.context)

pub made_good : (scope : Scope) (start place : Place) (shape : Shape) (r : Ruling) → Behaves scope (made start place shape r)
made_good scope start place shape (Ok n) = behaves_give scope _
made_good scope start place shape (Err c) = behaves_refuse scope place c

declared_good : (scope : Scope) (name : List ℕ) → Behaves scope (declare name kind.Int)
declared_good scope name s x t h = behaves_known scope tt (λ (s : State). record s { names = s.names ++ record { name = name; kind = kind.Int; function = 0; solvers = [] } ∷ [] }) (λ s. refl) s x t h

closed_good : {A : Type 0} (scope : Scope) (n : ℕ) (x : A) → Behaves scope (closed n x)
closed_good scope n x s y t h = behaves_known scope x (λ (u : State). record u { names = take n u.names }) (λ u. refl) s y t h

-- names

noted_good : (scope : Scope) (slot : Slot) (e : Seen) (m : Bool) → Behaves scope (if m then (named_in_term slot >>= λ _. give e) else give e)
noted_good scope slot e true = behaves_then scope (named_in_term slot) (λ _. give e) (λ s x t h. behaves_known scope tt (λ (s : State). record s { terms = s.terms ++ slot ∷ [] }) (λ s. refl) s x t h) (λ _. behaves_give scope e)
noted_good scope slot e false = behaves_give scope e

named_good : (scope : Scope) (place : Place) (f : Option Found) → Behaves scope (forms.named place scope f)
named_good scope place None = behaves_refuse scope place _
named_good scope place (Some f) = behaves_then scope _ (forms.noted (slot_of scope f.index)) (made_good scope place place _ _) (λ e. noted_good scope (slot_of scope f.index) e e.moving)

pub name_good : (n : Name) → Good (forms.name_form n)
unfolding forms.name_form
name_good n scope = behaves_at scope (λ s. forms.named n.place scope (look n.text s.names)) (λ s. named_good scope n.place (look n.text s.names))

-- operations

pub unary_good : (o : UnaryOperator) (place : Place) (j : Judge) → Good j → Good (forms.unary_form o place j)
unfolding forms.unary_form
unary_good o place j g scope = behaves_then scope _ _ (there j scope (forms.operand_context o scope.context) g (operand_pure o scope.context)) (λ e. made_good scope _ _ _ _)

pub comparison_good : (a : Judge) (c : Comparison) (place : Place) (b : Judge) → Good a → Good b → Good (forms.comparison_form a c place b)
unfolding forms.comparison_form
comparison_good a c place b f g scope = behaves_then scope _ _ (in_inner a scope f) (λ x. behaves_then scope _ _ (in_inner b scope g) (λ y. made_good scope _ _ _ _))

pub range_good : (a : Judge) (place : Place) (b : Judge) → Good a → Good b → Good (forms.range_form a place b)
unfolding forms.range_form
range_good a place b f g scope = behaves_then scope _ _ (in_inner a scope f) (λ x. behaves_then scope _ _ (in_inner b scope g) (λ y. made_good scope _ _ _ _))

pub conditional_good : (t a b : Judge) → Good t → Good a → Good b → Good (forms.conditional_form t a b)
unfolding forms.conditional_form
conditional_good t a b h f g scope =
    behaves_then scope _ _ (in_inner t scope h) (λ z. behaves_then scope _ _ (in_inner a scope f) (λ x. behaves_then scope _ _ (in_inner b scope g) (λ y. made_good scope _ _ _ _)))

pub parentheses_good : (place : Place) (j : Judge) → Good j → Good (forms.parentheses_form place j)
unfolding forms.parentheses_form
parentheses_good place j g scope = behaves_then scope _ _ (there j scope (inside scope.context) g (inside_pure scope.context)) (λ e. made_good scope _ _ _ _)

pub extreme_good : (x : Extreme) (place : Place) (a b : Judge) → Good a → Good b → Good (forms.extreme_form x place a b)
unfolding forms.extreme_form
extreme_good x place a b f g scope = behaves_then scope _ _ (in_inner a scope f) (λ y. behaves_then scope _ _ (in_inner b scope g) (λ z. made_good scope _ _ _ _))

-- chains

linked_good : (scope : Scope) (place : Place) (front : Front) (shape : Shape) (r : Ruling) → Behaves scope (forms.linked place front shape r)
linked_good scope place front shape (Ok n) = behaves_give scope _
linked_good scope place front shape (Err c) = behaves_refuse scope place c

pub link_good : (l : Linked) → Good l.operand → (scope : Scope) (front : Front) → Behaves scope (forms.link_form scope front l)
unfolding forms.link_form
link_good l g scope front =
    behaves_then scope _ _ (there l.operand scope (forms.operator_context l.operator scope.context) g (either_pure (is_logical l.operator) scope.context)) (λ e. linked_good scope l.place front _ _)

links_good : (scope : Scope) (ls : List Linked) → AllOf (λ l. Good l.operand) ls → AllOf (λ l. (front : Front) → Behaves scope (forms.link_form scope front l)) ls
links_good scope [] h = tt
links_good scope (l ∷ ls) h = (link_good l h.0 scope, links_good scope ls h.1)

pub chain_good : (j : Judge) (ls : List Linked) → Good j → AllOf (λ l. Good l.operand) ls → Good (forms.chain_form j ls)
unfolding forms.chain_form
chain_good j ls g h scope =
    behaves_then scope _ _ (there j scope (forms.first_operator_context ls scope.context) g (first_operator_pure ls scope.context))
    (λ e. behaves_then scope _ _ (behaves_each scope (forms.link_form scope) ls (links_good scope ls h) _) (λ front. behaves_give scope _))

-- arguments

argument_good : (first : Context) (scope : Scope) (j : Judge) → Good j → (is_pure scope.context ≡ true → is_pure first ≡ true) → (es : List Seen) → Behaves scope (forms.argument_form first scope es j)
unfolding forms.argument_form
argument_good first scope j g pure es =
    behaves_then scope _ _ (there j scope (forms.argument_context first scope.context es) g (λ h. argument_pure first scope.context es (pure h) h)) (λ e. behaves_give scope _)

arguments_all : (first : Context) (scope : Scope) → (is_pure scope.context ≡ true → is_pure first ≡ true) → (js : List Judge) → AllOf Good js → AllOf (λ j. (es : List Seen) → Behaves scope (forms.argument_form first scope es j)) js
arguments_all first scope pure [] h = tt
arguments_all first scope pure (j ∷ js) h = (argument_good first scope j h.0 pure, arguments_all first scope pure js h.1)

pub arguments_good : (first : Context) (scope : Scope) (js : List Judge) → AllOf Good js → (is_pure scope.context ≡ true → is_pure first ≡ true) → Behaves scope (forms.arguments_form first js scope)
arguments_good first scope js h pure = behaves_each scope (forms.argument_form first scope) js (arguments_all first scope pure js h) []

inner_arguments : (scope : Scope) (js : List Judge) → AllOf Good js → Behaves scope (forms.arguments_form (inner scope.context) js (within (inner scope.context) scope))
inner_arguments scope js h =
    behaves_where scope (within (inner scope.context) scope) _ refl (inner_pure scope.context) (arguments_good (inner scope.context) (within (inner scope.context) scope) js h (λ p. p))

pub list_good : (place : Place) (js : List Judge) → AllOf Good js → Good (forms.list_form place js)
unfolding forms.list_form
list_good place js h scope = behaves_then scope _ _ (inner_arguments scope js h) (λ es. made_good scope _ _ _ _)

pub set_good : (place : Place) (js : List Judge) → AllOf Good js → Good (forms.set_form place js)
unfolding forms.set_form
set_good place js h scope = behaves_then scope _ _ (inner_arguments scope js h) (λ es. made_good scope _ _ _ _)

-- calls

builtin_good : (scope : Scope) (place : Place) (at : Scope) (es : List Seen) (visible : Bool) (b : Option Builtin) → Behaves scope (builtin_called place at es visible b)
builtin_good scope place at es visible None = behaves_refuse scope place _
builtin_good scope place at es visible (Some b) = made_good scope _ _ _ _

call_so_good : (scope : Scope) (place : Place) (g : Signature) (es : List Seen) (c : Option Cause) → Behaves scope (call_so place g es c)
call_so_good scope place g es None = behaves_give scope _
call_so_good scope place g es (Some c) = behaves_refuse scope place c

call_of_good : (scope : Scope) (place : Place) (es : List Seen) (g : Option Signature) → Behaves scope (call_of place es g)
call_of_good scope place es None = behaves_refuse scope place _
call_of_good scope place es (Some g) = call_so_good scope place g es (function_fault g.parameters es)

called_so_good : (scope : Scope) (n : Name) (es : List Seen) (f : ℕ) (c : Calling) → Behaves scope (called_so n scope es f c)
called_so_good scope n es f c = behaves_then scope _ _ (behaves_act scope n.place c.doing c.roots) (λ _. behaves_give scope _)

function_good : (scope : Scope) (n : Name) (es : List Seen) (f : ℕ) → Behaves scope (function_called n scope es f)
unfolding function_called
function_good scope n es f =
    behaves_at scope (λ s. call_of n.place es (slice_get s.signatures f) >>= λ c. called_so n scope es f c)
    (λ s. behaves_then scope _ _ (call_of_good scope n.place es (slice_get s.signatures f)) (λ c. called_so_good scope n es f c))

either_called : (scope : Scope) (n : Name) (es : List Seen) (f : ℕ) (b : Bool) → Behaves scope (if b then function_called n scope es f else builtin_called n.place scope es true (builtin_named n.text))
either_called scope n es f true = function_good scope n es f
either_called scope n es f false = builtin_good scope n.place scope es true (builtin_named n.text)

called_as_good : (scope : Scope) (n : Name) (es : List Seen) (f : Option Found) → Behaves scope (called_as n scope es f)
called_as_good scope n es None = builtin_good scope n.place scope es false (builtin_named n.text)
called_as_good scope n es (Some f) = either_called scope n es f.function (is_same f.kind kind.Function)

pub call_good : (n : Name) (js : List Judge) → AllOf Good js → Good (forms.call_form n js)
unfolding forms.call_form called
call_good n js h scope = behaves_then scope _ _ (inner_arguments scope js h) (λ es. behaves_at scope (λ s. called_as n scope es (look n.text s.names)) (λ s. called_as_good scope n es (look n.text s.names)))

-- methods

name_done : (scope : Scope) (place : Place) (d : Doing) (roots : List Slot) (c : Cause) (b : Bool) → Behaves scope (if b then act_on place scope (record d { through = false }) roots else (act_on place scope d [] >>= λ _. refuse place c))
name_done scope place d roots c true = behaves_act scope place _ roots
name_done scope place d roots c false = behaves_then scope _ _ (behaves_act scope place d []) (λ _. behaves_refuse scope place c)

done_good : (scope : Scope) (w : Writes) (place : Place) (d : Doing) (front : Seen) → Behaves scope (method_done w place scope d front)
done_good scope writes.Nothing place d front = behaves_act scope place d []
done_good scope writes.Object place d front = behaves_act scope place d (roots_of (whole front))
done_good scope writes.Solver place d front = behaves_at scope (λ s. act_on place scope d (solution_roots scope s.names (whole front))) (λ s. behaves_act scope place d (solution_roots scope s.names (whole front)))
done_good scope writes.Name place d front = name_done scope place d (roots_of (whole front)) _ _

method_made_good : (scope : Scope) (place : Place) (front : Seen) (es : List Seen) (m : Method) (c : Option Cause) → Behaves scope (method_made place front scope es m c)
method_made_good scope place front es m None = behaves_then scope _ _ (done_good scope (method_row m).writes place (method_doing (method_row m) scope front es) front) (λ _. behaves_give scope _)
method_made_good scope place front es m (Some c) = behaves_refuse scope place c

method_called_good : (scope : Scope) (place : Place) (front : Seen) (es : List Seen) (m : Option Method) → Behaves scope (method_called place front scope es m)
unfolding method_called
method_called_good scope place front es None = behaves_refuse scope place _
method_called_good scope place front es (Some m) = method_made_good scope place front es m (arguments_fault (method_wants m) (method_row m).least es)

-- suffixes

abbrev pub GoodSuffix : Suffixed → Type 0
GoodSuffix f = (front : Seen) → Good (f front)

pub index_good : (place : Place) (i : Judge) → Good i → GoodSuffix (forms.index_form place i)
unfolding forms.index_form
index_good place i g front scope = behaves_then scope _ _ (g scope) (λ e. made_good scope _ _ _ _)

pub cell_good : (place : Place) (i j : Judge) → Good i → Good j → GoodSuffix (forms.cell_form place i j)
unfolding forms.cell_form
cell_good place i j f g front scope = behaves_then scope _ _ (f scope) (λ a. behaves_then scope _ _ (g scope) (λ b. made_good scope _ _ _ _))

pub method_good : (n : Name) (js : List Judge) → AllOf Good js → GoodSuffix (forms.method_form n js)
unfolding forms.method_form
method_good n js h front scope =
    behaves_then scope _ _ (arguments_good (first_context (method_named front.kind n.text) scope.context) scope js h (first_pure (method_named front.kind n.text) scope.context))
    (λ es. method_called_good scope n.place front es (method_named front.kind n.text))

suffixes_all : (scope : Scope) (fs : List Suffixed) → AllOf GoodSuffix fs → AllOf (λ f. (front : Seen) → Behaves scope (forms.suffix_form scope front f)) fs
suffixes_all scope [] h = tt
suffixes_all scope (f ∷ fs) h = (λ front. h.0 front scope, suffixes_all scope fs h.1)

pub postfix_good : (j : Judge) (fs : List Suffixed) → Good j → AllOf GoodSuffix fs → Good (forms.postfix_form j fs)
unfolding forms.postfix_form
postfix_good j fs g h scope =
    behaves_then scope _ _ (in_inner j scope g)
    (λ e. behaves_where scope (within (inner scope.context) scope) _ refl (inner_pure scope.context)
    (behaves_each (within (inner scope.context) scope) (forms.suffix_form (within (inner scope.context) scope)) fs (suffixes_all (within (inner scope.context) scope) fs h) e))

-- generators and aggregates

generator_made_good : (scope : Scope) (n : Name) (gs : List Shape) (d : Seen) (r : Ruling) → Behaves scope (forms.generator_made scope n gs d r)
generator_made_good scope n gs d (Err c) = behaves_refuse scope n.place c
generator_made_good scope n gs d (Ok x) =
    behaves_at scope (λ s. declare n.text kind.Int >>= λ _. give (gs ++ shapes.generator n.place (slot_of scope (length s.names)) (whole d) ∷ []))
    (λ s. behaves_then scope _ _ (declared_good scope n.text) (λ _. behaves_give scope (gs ++ shapes.generator n.place (slot_of scope (length s.names)) (whole d) ∷ [])))

generator_good : (scope : Scope) (g : Generated) → Good g.domain → (gs : List Shape) → Behaves scope (forms.generator_form scope gs g)
unfolding forms.generator_form
generator_good scope g h gs =
    behaves_then scope _ _ (there g.domain scope (made_pure scope.context) h (λ p. made_pure_pure scope.context))
    (λ d. behaves_at scope (λ s. forms.generator_made scope g.name gs d (generator_rule (is_new g.name.text scope.block s.names) (note_of d)))
    (λ s. generator_made_good scope g.name gs d (generator_rule (is_new g.name.text scope.block s.names) (note_of d))))

generators_all : (scope : Scope) (gs : List Generated) → AllOf (λ g. Good g.domain) gs → AllOf (λ g. (xs : List Shape) → Behaves scope (forms.generator_form scope xs g)) gs
generators_all scope [] h = tt
generators_all scope (g ∷ gs) h = (generator_good scope g h.0, generators_all scope gs h.1)

pub generators_good : (scope : Scope) (gs : List Generated) → AllOf (λ g. Good g.domain) gs → Behaves scope (forms.generators_form gs scope)
generators_good scope gs h = behaves_each scope (forms.generator_form scope) gs (generators_all scope gs h) []

abbrev pub GoodOption : Option Judge → Type 0
GoodOption None = Unit {0}
GoodOption (Some j) = Good j

pub condition_good : (scope : Scope) (c : Option Judge) → GoodOption c → Behaves scope (forms.condition_form c scope)
unfolding forms.condition_form forms.some_form
condition_good scope None h = behaves_give scope None
condition_good scope (Some j) h = behaves_then scope _ _ (h scope) (λ e. behaves_give scope _)

pub record GoodGenerating (g : Generating) : Type 0 where
  pub generators : AllOf (λ x. Good x.domain) g.generators
  pub condition : GoodOption g.condition

aggregated_good : (a : Aggregate) (place : Place) (g : Generating) (j : Judge) → GoodGenerating g → Good j → Good (forms.aggregated a place g j)
unfolding forms.aggregated
aggregated_good a place g j h f scope =
    behaves_then scope _ _ (behaves_where scope (within (inner scope.context) scope) _ refl (inner_pure scope.context) (generators_good (within (inner scope.context) scope) g.generators h.generators))
    (λ gs. behaves_then scope _ _ (behaves_where scope (within (made_pure scope.context) scope) _ refl (λ p. made_pure_pure scope.context) (condition_good (within (made_pure scope.context) scope) g.condition h.condition))
    (λ c. behaves_then scope _ _ (there j scope (forms.body_context a scope.context) f (either_pure (is_joining a) scope.context)) (λ b. made_good scope _ _ _ _)))

pub aggregate_good : (a : Aggregate) (place : Place) (g : Generating) (j : Judge) → GoodGenerating g → Good j → Good (forms.aggregate_form a place g j)
unfolding forms.aggregate_form
aggregate_good a place g j h f scope =
    behaves_at scope (λ s. forms.aggregated a place g j (opened scope (length s.names)) >>= closed (length s.names))
    (λ s. behaves_then scope _ _ (behaves_where scope (opened scope (length s.names)) _ refl (λ p. p) (aggregated_good a place g j h f (opened scope (length s.names)))) (λ x. closed_good scope (length s.names) x))
