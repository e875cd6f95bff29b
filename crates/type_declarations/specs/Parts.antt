-- What declarations and simple statements are made of: starts, dimensions, and a part's own rule. From the language.
use Rattle.std.specs.Prelude.{Bool, true, false, List, [], ◌∷◌, length, Option, Some, None, if◌then◌else◌}
use Rattle.std.specs.Str.{bytes_eq}
use Rattle.cbl_base.specs.declared.place.Place.{Place}
use Rattle.comet_syntax.specs.declared.tree.expressions.Name.{Name}
use Rattle.comet_syntax.specs.declared.tree.declarations.Dimension.{Dimension}
use Rattle.comet_syntax.specs.declared.tree.declarations.Dimensions.{Dimensions}
use Rattle.checked_tree.specs.declared.kind.Kind.{Kind}
use Rattle.checked_tree.specs.declared.kind.Kind.TheVariants as kind
use Rattle.checked_tree.specs.declared.statements.Way.{Way}
use Rattle.checked_tree.specs.declared.statements.Way.TheVariants as ways
use Rattle.checked_tree.specs.declared.stop.Cause.{Cause}
use Rattle.checked_tree.specs.declared.stop.Cause.TheVariants as cause
use Rattle.checked_tree.specs.Shape.{Seen}
use Rattle.checked_tree.specs.Actions.{Started, Sized}
use Rattle.type_rules.specs.declared.context.Context.TheVariants as context
use Rattle.type_rules.specs.declared.kinds.Asked.{Asked}
use Rattle.type_rules.specs.declared.kinds.Asked.TheVariants as asked
use Rattle.type_rules.specs.Kinds.{is_numbers, is_range, fits}
use Rattle.type_scopes.specs.declared.scope.Scope.{Scope}
use Rattle.type_scopes.specs.Names.{slot_of, opened, within, declare, closed}
use Rattle.type_scopes.specs.State.{Check, give, refuse, ◌>>=◌}
use Rattle.type_expressions.specs.Expressions.{Judge, judge, some_form}

-- a part's own rule
abbrev pub ruled : Place → Option Cause → Check (Unit {0})
ruled place None = give tt
ruled place (Some c) = refuse place c

-- what fits has no fault, anything else has the wrong type
abbrev pub wrong_unless : Bool → Option Cause
wrong_unless fit = if fit then None else Some cause.WrongType

-- an expression that may be left out
unfoldable pub start_form : Option Judge → Scope → Check (Option Seen)
start_form None scope = give None
start_form (Some j) scope = some_form j scope

-- dimensions: each is a range; two names of one list are different

-- a dimension's rule stands at its name, and without one at the range's first token
abbrev pub dimension_place : Option Name → Seen → Place
dimension_place None e = e.start
dimension_place (Some n) e = n.place

-- two dimensions of one name are one name declared twice, and a dimension is a range
abbrev pub dimension_fault : Bool → Kind → Option Cause
dimension_fault clash k = if clash then Some cause.DeclaredTwice else wrong_unless (is_range k)

-- a dimension is its range, and then its rule
unfoldable pub dimension_form : Bool → Dimension → Scope → Check Seen
dimension_form clash d scope =
    judge d.range scope >>= λ e.
    ruled (dimension_place d.name e) (dimension_fault clash e.kind) >>= λ _.
    give e

-- whether both have a name, and the same
abbrev pub clashes : Option Name → Option Name → Bool
clashes (Some one) (Some other) = bytes_eq one.text other.text
clashes one other = false

-- the ranges of one dimension or two
pub record Ranged : Type 0 where
  pub first : Seen
  pub second : Option Seen

-- a second dimension, if there is one, behind the first one's name
unfoldable pub second_form : Option Name → Option Dimension → Scope → Check (Option Seen)
second_form first None scope = give None
second_form first (Some d) scope = dimension_form (clashes first d.name) d scope >>= λ e. give (Some e)

-- the ranges of all dimensions, from the left, before any of their names is declared
unfoldable pub ranges_form : Dimensions → Scope → Check Ranged
ranges_form ds scope =
    dimension_form false ds.first scope >>= λ a.
    second_form ds.first.name ds.second scope >>= λ b.
    give (record { first = a; second = b })

-- the names of dimensions, in a block that stays open

-- a dimension's name, if it has one, is declared as an int in the next cell
unfoldable pub sized_form : Option Name → Seen → Scope → Check Sized
sized_form None e scope = give (record { slot = None; range = e })
sized_form (Some n) e scope = λ s. (declare n.text kind.Int >>= λ _. give (record { slot = Some (slot_of scope (length s.names)); range = e })) s

-- the name of a second dimension, if there is one
abbrev pub second_name : Option Dimension → Option Name
second_name None = None
second_name (Some d) = d.name

-- the second dimension, if there is one, as a list
unfoldable pub sized_second : Option Dimension → Option Seen → Scope → Check (List Sized)
sized_second d None scope = give []
sized_second d (Some e) scope = sized_form (second_name d) e scope >>= λ x. give (x ∷ [])

-- the dimensions with the cells of their names, from the left
unfoldable pub sizes_form : Dimensions → Ranged → Scope → Check (List Sized)
sizes_form ds r scope =
    sized_form ds.first.name r.first scope >>= λ a.
    sized_second ds.second r.second scope >>= λ b.
    give (a ∷ b)

-- first values: a value for each cell, or a definition, which is a term

-- what is written of first values: nothing, an expression that gives each cell its value, or a definition
pub data Starting : Type 0 where
  nothing : Starting
  each_cell : Judge → Starting
  defined : Judge → Starting

-- first values, with the way in which cells get them
abbrev pub started : Way → Seen → Option Started
started w e = Some (record { way = w; value = e })

-- first values are judged where they stand, and a definition as a term
unfoldable pub starting_form : Starting → Scope → Check (Option Started)
starting_form nothing scope = give None
starting_form (each_cell j) scope = j scope >>= λ e. give (started ways.Each e)
starting_form (defined j) scope = j (within context.Term scope) >>= λ e. give (started ways.Define e)

-- whether the value that is written is an array, so that it lists the cells' values
abbrev pub is_list : Option Started → Bool
is_list None = false
is_list (Some x) = is_numbers x.value.kind

-- what lists the cells' values is judged again in this scope; anything else stays
abbrev pub listed : Starting → Scope → Option Started → Check (Option Started)
listed (each_cell j) scope x = if is_list x then (j scope >>= λ e. give (started ways.List e)) else give x
listed nothing scope x = give x
listed (defined j) scope x = give x

-- the cells of an array: its dimensions, and their first values
pub record Celled : Type 0 where
  pub sizes : List Sized
  pub start : Option Started

-- the dimensions' names, and then the first values, which see them
unfoldable pub cells_within : Dimensions → Ranged → Starting → Scope → Check Celled
cells_within ds r start scope =
    sizes_form ds r scope >>= λ sizes.
    starting_form start scope >>= λ x.
    give (record { sizes = sizes; start = x })

-- a list of the cells' values is judged again where the names of the dimensions aren't visible
unfoldable pub cells_form : Dimensions → Ranged → Starting → Scope → Check Celled
cells_form ds r start scope = λ s.
    (cells_within ds r start (opened scope (length s.names)) >>= closed (length s.names) >>= λ c.
    listed start scope c.start >>= λ x.
    give (record { sizes = c.sizes; start = x })) s

-- what first values of cells of this kind are asked to be
abbrev pub start_asked : Kind → Way → Asked
start_asked k ways.List = asked.Numbers
start_asked kind.SetVariable w = asked.Set
start_asked k w = asked.Number

-- whether first values are what cells of this kind are asked to be
abbrev pub start_fits : Kind → Option Started → Bool
start_fits k None = true
start_fits k (Some x) = fits (start_asked k x.way) x.value.kind

-- an array of one dimension of this kind
abbrev pub array_of : Kind → Kind
array_of kind.Int = kind.Array
array_of kind.Variable = kind.VariableArray
array_of kind.SetVariable = kind.SetVariableArray
array_of k = k

-- an array of two dimensions of this kind
abbrev pub grid_of : Kind → Kind
grid_of kind.Int = kind.Grid
grid_of kind.Variable = kind.VariableGrid
grid_of kind.SetVariable = kind.SetVariableGrid
grid_of k = k

-- an array of two dimensions where there is a second one
abbrev sized_so : Kind → Option Dimension → Kind
sized_so k None = array_of k
sized_so k (Some d) = grid_of k

-- an array of one dimension or two
abbrev pub sized_kind : Kind → Dimensions → Kind
sized_kind k ds = sized_so k ds.second
