-- What declarations are: the expressions in them, then their own rule. From the language.
use Rattle.std.specs.Prelude.{Bool, true, false, ◌&&◌, [], ◌∷◌, length, Option, Some, None, option_map, if◌then◌else◌}
use Rattle.cbl_base.specs.declared.place.Place.{Place}
use Rattle.comet_syntax.specs.declared.tree.expressions.Name.{Name}
use Rattle.comet_syntax.specs.declared.tree.declarations.Dimensions.{Dimensions}
use Rattle.comet_syntax.specs.declared.tree.declarations.Declaration.{Declaration}
use Rattle.comet_syntax.specs.declared.tree.declarations.Declaration.TheVariants as declarations
use Rattle.comet_syntax.specs.declared.tree.declarations.VariableStart.{VariableStart}
use Rattle.comet_syntax.specs.declared.tree.declarations.VariableStart.TheVariants as starts
use Rattle.checked_tree.specs.declared.expressions.Slot.{Slot}
use Rattle.checked_tree.specs.declared.kind.Kind.{Kind}
use Rattle.checked_tree.specs.declared.kind.Kind.TheVariants as kind
use Rattle.checked_tree.specs.declared.stop.Cause.{Cause}
use Rattle.checked_tree.specs.declared.stop.Cause.TheVariants as cause
use Rattle.checked_tree.specs.Shape.{Seen}
use Rattle.checked_tree.specs.Actions as deeds
use Rattle.checked_tree.specs.Actions.{Deed, Started, Sized}
use Rattle.type_rules.specs.declared.kinds.Asked.{Asked}
use Rattle.type_rules.specs.declared.kinds.Asked.TheVariants as asked
use Rattle.type_rules.specs.Kinds.{is_range, is_same, fits, asked_of}
use Rattle.type_scopes.specs.declared.effects.Doing.{Doing}
use Rattle.type_scopes.specs.declared.names.Found.{Found}
use Rattle.type_scopes.specs.declared.scope.Scope.{Scope}
use Rattle.type_scopes.specs.Names.{look, is_new, slot_of, declare}
use Rattle.type_scopes.specs.State.{Check, give, refuse, ◌>>=◌}
use Rattle.type_calls.specs.Doing.{act_on}
use Rattle.type_expressions.specs.Expressions.{Judge, judge}
use Rattle.type_declarations.specs.Parts.{ruled, start_form, Starting, nothing, each_cell, defined, Celled, ranges_form, cells_form, starting_form, start_fits, sized_kind}
use Rattle.type_declarations.specs.Objects.{object_form}

-- a name that is new in its block, with a start of its type
abbrev pub declaring_fault : Bool → Bool → Option Cause
declaring_fault new fit = if new then (if fit then None else Some cause.WrongType) else Some cause.DeclaredTwice

-- names of one value

-- what a first value is asked to be: an array's is any array of numbers
abbrev pub scalar_asked : Kind → Asked
scalar_asked kind.Array = asked.Numbers
scalar_asked k = asked_of k

-- whether the first value, if there is one, is what is asked
abbrev pub scalar_fits : Kind → Option Seen → Bool
scalar_fits k None = true
scalar_fits k (Some e) = fits (scalar_asked k) e.kind

-- the name is declared in the next cell
abbrev pub scalar_declared : Name → Kind → Option Seen → Scope → Check Deed
scalar_declared n k e scope = λ s. (declare n.text k >>= λ _. give (deeds.declaring (slot_of scope (length s.names)) k e)) s

-- a name of one value: its first value, then its rule, then the name, which its value doesn't see
unfoldable pub scalar_form : Place → Name → Kind → Option Judge → Scope → Check Deed
scalar_form place n k start scope =
    start_form start scope >>= λ e.
    (λ s. ruled place (declaring_fault (is_new n.text scope.block s.names) (scalar_fits k e)) s) >>= λ _.
    scalar_declared n k e scope

-- arrays of numbers

-- the array's name is declared in the next cell
abbrev pub array_declared : Name → Kind → Celled → Scope → Check Deed
array_declared n k c scope = λ s. (declare n.text k >>= λ _. give (deeds.declaring_array (slot_of scope (length s.names)) k c.sizes c.start)) s

-- an array of numbers: its ranges, its first values, then its rule, then its name
unfoldable pub array_form : Place → Name → Dimensions → Starting → Scope → Check Deed
array_form place n ds start scope =
    ranges_form ds scope >>= λ r.
    cells_form ds r start scope >>= λ c.
    (λ s. ruled place (declaring_fault (is_new n.text scope.block s.names) (start_fits kind.Int c.start)) s) >>= λ _.
    array_declared n (sized_kind kind.Int ds) c scope

-- a first value that may be left out
abbrev pub starting_with : Option Judge → Starting
starting_with None = nothing
starting_with (Some j) = each_cell j

-- variables, which their solver gets

-- a new variable is an effect, and writes the solver that gets it
abbrev pub making_doing : Doing
making_doing = record { impure = true; not_in_term = false; global = false; through = true; forbidden = false }

-- a domain, if there is one, is a range
abbrev pub domain_fits : Option Seen → Bool
domain_fits None = true
domain_fits (Some e) = is_range e.kind

-- the variable, with its solver and all that is written of it
abbrev pub variable_deed : Name → Slot → Slot → Kind → Option Seen → Celled → Deed
variable_deed n slot solver k d c = deeds.declaring_variable (record {
  slot = slot;
  name = n.text;
  kind = k;
  dimensions = c.sizes;
  solver = solver;
  domain = d;
  start = c.start;
})

-- the solver is written, and then the variable's name is declared in the next cell
abbrev pub variable_declared : Place → Name → Kind → Option Seen → Celled → Scope → Found → Check Deed
variable_declared place n k d c scope f =
    act_on place scope making_doing (slot_of scope f.index ∷ []) >>= λ _.
    λ s. (declare n.text k >>= λ _.
    give (variable_deed n (slot_of scope (length s.names)) (slot_of scope f.index) k d c)) s

-- the solver is a visible name, and a solver; the variable's name is new, and its domain and first values fit
abbrev pub variable_with : Place → Name → Kind → Bool → Option Seen → Celled → Scope → Option Found → Check Deed
variable_with place n k fit d c scope None = refuse place cause.UnknownName
variable_with place n k fit d c scope (Some f) =
    (λ s. ruled place (declaring_fault (is_new n.text scope.block s.names) (is_same f.kind kind.Solver && (domain_fits d && fit))) s) >>= λ _.
    variable_declared place n k d c scope f

-- the dimensions' ranges, then the domain, which doesn't see their names, then the first values
unfoldable pub variables_form : Place → Name → Kind → Dimensions → Name → Option Judge → Starting → Scope → Check Deed
variables_form place n k ds solver domain start scope =
    ranges_form ds scope >>= λ r.
    start_form domain scope >>= λ d.
    cells_form ds r start scope >>= λ c.
    λ s. variable_with place n (sized_kind k ds) (start_fits k c.start) d c scope (look solver.text s.names) s

-- a variable: its domain, its first value, then its rule at its solver's name
unfoldable pub variable_form : Place → Name → Kind → Name → Option Judge → Starting → Scope → Check Deed
variable_form place n k solver domain start scope =
    start_form domain scope >>= λ d.
    starting_form start scope >>= λ x.
    λ s. variable_with place n k (start_fits k x) d (record { sizes = []; start = x }) scope (look solver.text s.names) s

-- a variable's first value, or its definition
abbrev pub variable_start : Option VariableStart → Starting
variable_start None = nothing
variable_start (Some (starts.Assign e)) = each_cell (judge e)
variable_start (Some (starts.Define e)) = defined (judge e)

-- all of them

-- what each declaration is
unfoldable pub declaration_form : Declaration → Scope → Check Deed
declaration_form (declarations.Int place n None e) = scalar_form place n kind.Int (option_map judge e)
declaration_form (declarations.Int place n (Some ds) e) = array_form place n ds (starting_with (option_map judge e))
declaration_form (declarations.IntArray place n e) = scalar_form place n kind.Array (Some (judge e))
declaration_form (declarations.Bool place n e) = scalar_form place n kind.Bool (option_map judge e)
declaration_form (declarations.Range place n e) = scalar_form place n kind.Range (Some (judge e))
declaration_form (declarations.Set place n e) = scalar_form place n kind.Set (option_map judge e)
declaration_form (declarations.Variable place w n None solver d x) = variable_form place n kind.Variable solver (option_map judge d) (variable_start x)
declaration_form (declarations.Variable place w n (Some ds) solver d x) = variables_form place n kind.Variable ds solver (option_map judge d) (variable_start x)
declaration_form (declarations.SetVariable place w n None solver e) = variable_form place n kind.SetVariable solver None (defined (judge e))
declaration_form (declarations.SetVariable place w n (Some ds) solver e) = variables_form place n kind.SetVariable ds solver None (defined (judge e))
declaration_form (declarations.Object c n m) = object_form c n m

-- the place of a declaration is its first token
abbrev pub declaration_place : Declaration → Place
declaration_place (declarations.Int place n ds e) = place
declaration_place (declarations.IntArray place n e) = place
declaration_place (declarations.Bool place n e) = place
declaration_place (declarations.Range place n e) = place
declaration_place (declarations.Set place n e) = place
declaration_place (declarations.Variable place w n ds solver d x) = place
declaration_place (declarations.SetVariable place w n ds solver e) = place
declaration_place (declarations.Object c n m) = c.place
