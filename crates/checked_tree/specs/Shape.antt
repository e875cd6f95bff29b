-- A checked tree without its pointers.
use Rattle.std.specs.Prelude.{ℕ, ℤ, Bool, false, List, [], ◌∷◌, Option, None, Some}
use Rattle.cbl_base.specs.declared.place.Place.{Place}
use Rattle.comet_syntax.specs.declared.tree.expressions.ChainOperator.{ChainOperator}
use Rattle.comet_syntax.specs.declared.tree.expressions.Comparison.{Comparison}
use Rattle.comet_syntax.specs.declared.tree.expressions.UnaryOperator.{UnaryOperator}
use Rattle.comet_syntax.specs.declared.tree.expressions.Aggregate.{Aggregate}
use Rattle.checked_tree.specs.declared.kind.Kind.{Kind}
use Rattle.checked_tree.specs.declared.kind.Kind.TheVariants as kinds
use Rattle.checked_tree.specs.declared.expressions.Slot.{Slot}
use Rattle.checked_tree.specs.declared.expressions.Builtin.{Builtin}
use Rattle.checked_tree.specs.declared.expressions.Method.{Method}
use Rattle.checked_tree.specs.declared.expressions.Form.{Form}
use Rattle.checked_tree.specs.declared.expressions.Form.TheOpen as forms
use Rattle.checked_tree.specs.declared.expressions.Form.TheFolds.{fold-Form}
use Rattle.checked_tree.specs.declared.expressions.Typed.{Typed}
use Rattle.checked_tree.specs.declared.expressions.Link.{Link, fold-Link}
use Rattle.checked_tree.specs.declared.expressions.Generator.{Generator, fold-Generator}

-- an expression, or a part of one
pub data Shape : Type 0 where
  no_more : Shape
  more : Shape → Shape → Shape
  left_out : Shape
  -- an expression, with its first token, its place, its kind, and whether it holds incremental variables
  typed : Place → Place → Kind → Bool → Shape → Shape
  number : ℤ → Shape
  truth : Bool → Shape
  text : List ℕ → Shape
  name : Slot → Shape
  unary : UnaryOperator → Shape → Shape
  parentheses : Shape → Shape
  chain : Shape → Shape → Shape
  link : ChainOperator → Place → Shape → Shape
  compare : Comparison → Shape → Shape → Shape
  range : Shape → Shape → Shape
  conditional : Shape → Shape → Shape → Shape
  index : Shape → Shape → Shape
  cell : Shape → Shape → Shape → Shape
  list : Shape → Shape
  set : Shape → Shape
  aggregate : Aggregate → Shape → Shape → Shape → Shape
  generator : Place → Slot → Shape → Shape
  builtin : Builtin → Shape → Shape
  call : ℕ → Shape → Shape
  method : Method → Shape → Shape → Shape

-- an expression as its rule gives it, with its first token
pub record Seen : Type 0 where
  pub start : Place
  pub place : Place
  pub kind : Kind
  pub moving : Bool
  pub form : Shape

-- the expression with all that is known of it, as a part of another one
abbrev pub whole : Seen → Shape
whole e = typed e.start e.place e.kind e.moving e.form

-- a list of parts, as one part
abbrev pub rows : List Shape → Shape
rows [] = no_more
rows (x ∷ xs) = more x (rows xs)

-- a list of expressions, as one part
abbrev pub wholes : List Seen → Shape
wholes [] = no_more
wholes (x ∷ xs) = more (whole x) (wholes xs)

-- a part that may be left out
abbrev pub optional : {A : Type 0} → (A → Shape) → Option A → Shape
optional f None = left_out
optional f (Some x) = f x

-- one layer
abbrev pub form_layer : forms.Form-F Shape Shape Shape Seen → Shape
form_layer (forms.Number n) = number n
form_layer (forms.Truth b) = truth b
form_layer (forms.Text t) = text t
form_layer (forms.Name s) = name s
form_layer (forms.Unary o e) = unary o (whole e.value)
form_layer (forms.Parentheses e) = parentheses (whole e.value)
form_layer (forms.Chain first links) = chain (whole first.value) (rows links.items)
form_layer (forms.Compare c a b) = compare c (whole a.value) (whole b.value)
form_layer (forms.Range a b) = range (whole a.value) (whole b.value)
form_layer (forms.Conditional a b c) = conditional (whole a.value) (whole b.value) (whole c.value)
form_layer (forms.Index a b) = index (whole a.value) (whole b.value)
form_layer (forms.Cell a b c) = cell (whole a.value) (whole b.value) (whole c.value)
form_layer (forms.List es) = list (wholes es.items)
form_layer (forms.Set es) = set (wholes es.items)
form_layer (forms.Aggregate a gs c b) = aggregate a (rows gs.items) (optional (λ e. whole e.value) c) (whole b.value)
form_layer (forms.Builtin f es) = builtin f (wholes es.items)
form_layer (forms.Call f es) = call f (wholes es.items)
form_layer (forms.Method m o es) = method m (whole o.value) (wholes es.items)

-- an operator of a chain with its right operand, by what its operand is
abbrev pub link_layer : forms.Link-F Shape Shape Shape Seen → Shape
link_layer l = link l.operator l.place (whole l.operand)

-- a generator, by what its domain is
abbrev pub generator_layer : forms.Generator-F Shape Shape Shape Seen → Shape
generator_layer g = generator g.place g.slot (whole g.domain)

-- an expression, by what its form is
abbrev pub typed_layer : forms.Typed-F Shape Shape Shape Seen → Seen
typed_layer t = record { start = t.start; place = t.place; kind = t.kind; moving = t.moving; form = t.form }

-- a form of the tree without its pointers
unfoldable pub shape_of : Form → Shape
shape_of = fold-Form Shape Shape Shape Seen form_layer generator_layer link_layer typed_layer

-- an operator of a chain with its right operand, without its pointers
unfoldable pub shape_of_link : Link → Shape
shape_of_link = fold-Link Shape Shape Shape Seen form_layer generator_layer link_layer typed_layer

-- a generator without its pointers
unfoldable pub shape_of_generator : Generator → Shape
shape_of_generator = fold-Generator Shape Shape Shape Seen form_layer generator_layer link_layer typed_layer

-- an expression of the tree without its pointers
abbrev pub seen : Typed → Seen
seen t = record { start = t.start; place = t.place; kind = t.kind; moving = t.moving; form = shape_of t.form }

-- a string among arguments; no rule speaks of its place
abbrev pub quoted : List ℕ → Seen
quoted t = record { start = record { line = 0; col = 0 }; place = record { line = 0; col = 0 }; kind = kinds.Text; moving = false; form = text t }
