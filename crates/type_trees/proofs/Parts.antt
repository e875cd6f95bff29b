-- What parts of declarations and simple statements are judged as, over the judgements of the expressions in them.
use Rattle.std.specs.Prelude.{ℕ, Bool, true, false, ◌&&◌, ◌++◌, List, [], ◌∷◌, length, drop, Option, Some, None}
use Rattle.cbl_base.specs.declared.place.Place.{Place}
use Rattle.comet_syntax.specs.declared.tree.expressions.Name.{Name}
use Rattle.comet_syntax.specs.declared.tree.declarations.Class.{Class}
use Rattle.checked_tree.specs.declared.kind.Kind.{Kind}
use Rattle.checked_tree.specs.declared.kind.Kind.TheVariants as kind
use Rattle.checked_tree.specs.Shape.{Seen}
use Rattle.checked_tree.specs.Actions as deeds
use Rattle.checked_tree.specs.Actions.{Sized, Deed, Shown}
use Rattle.type_rules.specs.Classes.{class_kind, class_is_ls}
use Rattle.type_scopes.specs.declared.scope.Scope.{Scope}
use Rattle.type_scopes.specs.Names.{is_new, look, opened, closed}
use Rattle.type_scopes.specs.State.{State, Outcome, Went, Check, give, then_do, ◌>>=◌}
use Rattle.type_expressions.specs.Expressions.{Judge, arguments_form, name_form}
use Rattle.type_declarations.specs.Parts.{ruled, wrong_unless, start_form, dimension_place, dimension_fault, clashes, Ranged, sized_form, Starting, starting_form, listed, Celled, start_fits, array_of, grid_of}
use Rattle.type_declarations.specs.Objects.{making_context, Handed, object_made}
use Rattle.type_declarations.specs.Declarations.{declaring_fault, scalar_form, array_declared, starting_with, variable_form, variable_with}
use Rattle.type_simples.specs.declared.simples.Standing.{Standing}
use Rattle.type_simples.specs.Simples.{place_at, Acted, acted, renewed, items_form, all_shown, own_doing}
use Rattle.type_calls.specs.Doing.{act_on}

-- a dimension
pub record Dim : Type 0 where
  pub name : Option Name
  pub range : Judge

-- all dimensions of an array
pub record Dims : Type 0 where
  pub ranges : Scope → Check Ranged
  pub sizes : Ranged → Scope → Check (List Sized)
  pub sized : Kind → Kind

abbrev pub dimension_by : Bool → Dim → Scope → Check Seen
dimension_by clash d scope =
    d.range scope >>= λ e.
    ruled (dimension_place d.name e) (dimension_fault clash e.kind) >>= λ _.
    give e

abbrev pub second_by : Option Name → Option Dim → Scope → Check (Option Seen)
second_by first None scope = give None
second_by first (Some d) scope = dimension_by (clashes first d.name) d scope >>= λ e. give (Some e)

abbrev pub ranges_by : Dim → Option Dim → Scope → Check Ranged
ranges_by d second scope =
    dimension_by false d scope >>= λ a.
    second_by d.name second scope >>= λ b.
    give (record { first = a; second = b })

abbrev pub second_name_by : Option Dim → Option Name
second_name_by None = None
second_name_by (Some d) = d.name

abbrev pub sized_second_by : Option Name → Option Seen → Scope → Check (List Sized)
sized_second_by n None scope = give []
sized_second_by n (Some e) scope = sized_form n e scope >>= λ x. give (x ∷ [])

abbrev pub sizes_by : Option Name → Option Name → Ranged → Scope → Check (List Sized)
sizes_by first second r scope =
    sized_form first r.first scope >>= λ a.
    sized_second_by second r.second scope >>= λ b.
    give (a ∷ b)

abbrev pub sized_by : Option Dim → Kind → Kind
sized_by None k = array_of k
sized_by (Some d) k = grid_of k

abbrev pub dims_by : Dim → Option Dim → Dims
dims_by d second = record { ranges = ranges_by d second; sizes = sizes_by d.name (second_name_by second); sized = sized_by second }

-- arrays

abbrev pub cells_within_by : (Ranged → Scope → Check (List Sized)) → Ranged → Starting → Scope → Check Celled
cells_within_by sizes r start scope =
    sizes r scope >>= λ all.
    starting_form start scope >>= λ x.
    give (record { sizes = all; start = x })

abbrev pub cells_by : (Ranged → Scope → Check (List Sized)) → Ranged → Starting → Scope → Check Celled
cells_by sizes r start scope = λ s.
    (cells_within_by sizes r start (opened scope (length s.names)) >>= closed (length s.names) >>= λ c.
    listed start scope c.start >>= λ x.
    give (record { sizes = c.sizes; start = x })) s

abbrev pub array_by : Place → Name → Dims → Starting → Scope → Check Deed
array_by place n ds start scope =
    ds.ranges scope >>= λ r.
    cells_by ds.sizes r start scope >>= λ c.
    (λ s. ruled place (declaring_fault (is_new n.text scope.block s.names) (start_fits kind.Int c.start)) s) >>= λ _.
    array_declared n (ds.sized kind.Int) c scope

abbrev pub variables_by : Place → Name → Kind → Dims → Name → Option Judge → Starting → Scope → Check Deed
variables_by place n k ds solver domain start scope =
    ds.ranges scope >>= λ r.
    start_form domain scope >>= λ d.
    cells_by ds.sizes r start scope >>= λ c.
    λ s. variable_with place n (ds.sized k) (start_fits k c.start) d c scope (look solver.text s.names) s

-- an int, or an array of ints
abbrev pub int_by : Place → Name → Option Dims → Option Judge → Scope → Check Deed
int_by place n None e = scalar_form place n kind.Int e
int_by place n (Some ds) e = array_by place n ds (starting_with e)

-- a variable, or an array of variables
abbrev pub variable_by : Place → Name → Kind → Option Dims → Name → Option Judge → Starting → Scope → Check Deed
variable_by place n k None solver domain start = variable_form place n k solver domain start
variable_by place n k (Some ds) solver domain start = variables_by place n k ds solver domain start

-- objects

-- the class behind `new`, where there is one, and the arguments
pub record Making : Type 0 where
  pub class : Option Class
  pub arguments : List Judge

abbrev pub handed_by : Kind → List Judge → Scope → Check Handed
handed_by k args scope = λ s.
    (arguments_form (making_context k scope.context) args scope >>= λ es.
    λ t. Went (record { arguments = es; terms = drop (length s.terms) t.terms }) t) s

abbrev pub made_ls : Option Class → Bool
made_ls None = true
made_ls (Some d) = class_is_ls d.kind

abbrev pub kind_made : Class → Option Class → Kind
kind_made c None = class_kind c.kind
kind_made c (Some d) = class_kind d.kind

abbrev pub object_by : Class → Name → Making → Scope → Check Deed
object_by c n m scope =
    handed_by (class_kind c.kind) m.arguments scope >>= λ h.
    object_made c.place (class_is_ls c.kind && made_ls m.class) n (class_kind c.kind) (kind_made c m.class) h scope

abbrev pub new_by : Name → Class → List Judge → Standing → Scope → Check Acted
new_by n c args st scope =
    name_form n scope >>= λ t.
    handed_by (class_kind c.kind) args scope >>= λ h.
    ruled (place_at st.at n.place) (wrong_unless st.holds) >>= λ _.
    renewed (place_at st.at n.place) n (class_is_ls c.kind) t (class_kind c.kind) h scope >>= λ d.
    acted (place_at st.at n.place) d

-- printing

abbrev pub item_by : Judge → Scope → Check Shown
item_by j scope = j scope >>= λ v. give (deeds.value v)

abbrev pub print_by : Place → List (Scope → Check Shown) → Standing → Scope → Check Acted
print_by place all st scope =
    items_form all scope >>= λ xs.
    ruled (place_at st.at place) (wrong_unless st.holds) >>= λ _.
    ruled (place_at st.at place) (wrong_unless (all_shown xs)) >>= λ _.
    act_on (place_at st.at place) scope own_doing [] >>= λ _.
    acted (place_at st.at place) (deeds.printing xs)
